-- SPDX-License-Identifier: Apache-2.0 OR MIT
-- A part of an entry, as a user is shown it, is told or left out: so it is of each sighting of its kind.
use Rattle.std.proofs.Common.{◌≡◌, ℕ, Bool, true, false, [], ◌∷◌, ◌++◌, ◌||◌, refl, sym, Option}
use Rattle.std.specs.Prelude.{IsTrue, is_some}
use Rattle.std.specs.List.{AllByRecursion}
use Rattle.std.proofs.lemmas.Bool.{true≢false}
use Rattle.std.proofs.lemmas.List.Elements.{recursion_from_All}
use Rattle.cr_base.specs.declared.entry.Entry.{Entry}
use Rattle.cr_base.specs.declared.entry.EntryKind.{EntryKind}
use Rattle.cr_base.specs.declared.entry.Stamp.{Stamp}
use Rattle.cr_base.specs.declared.entry.Stamped.{Stamped}
use Rattle.cr_base.specs.Drawn.{stamped}
use Rattle.cr_base.specs.History.{History}
use Rattle.cr_history.specs.Invariants.{Invariants, IsHeld}
use Rattle.cr_policy.specs.Legal.{Legal}
use Rattle.cr_policy.specs.Part.{Part}
use Rattle.cr_policy.specs.Sighting.{Sighting}
use Rattle.cr_policy.specs.View.{View, view}
use Rattle.cr_policy.specs.ViewFacts.{is_kind}
use Rattle.cr_policy.proofs.LegalLaws.{legal_invariants}
use Rattle.cr_bounds.specs.ShownTo.{is_told, where_known}
use Rattle.cr_bounds.proofs.BoundsWalk.{shown_to}
use Rattle.cr_told.specs.ToldParts.{has, is_told as is_part_told, is_left_untold}
use Rattle.cr_told.proofs.ToldEach.{at-sighting}
use Rattle.cr_told.proofs.ToldMakers.{IsByAuthor, by-authors}
use Rattle.cr_told.proofs.ToldPlaces.{IsSettled, settled}
use Rattle.cr_told.proofs.ToldSettled.{IsThere, all-there}

-- what is so of each entry at the end
pub record IsKnown (H : History) (maker : ℕ) (e : Entry) : Type 0 where
  pub there : IsThere H maker e
  pub author : IsByAuthor H maker e
  pub settled : IsSettled H maker e
  pub held : IsHeld H maker e

pub all-known : (H : History) → Legal H → AllByRecursion (λ (e : Stamped). IsKnown H e.stamp.maker e.entry) H
all-known H legal = by H (all-there H kept.in_order) (by-authors H kept.in_order) (settled H kept)
    (recursion_from_All (λ (e : Stamped). IsHeld H e.stamp.maker e.entry) H kept.stay)
  where
    kept : Invariants H
    kept = legal_invariants H legal

    by : (G : History) → AllByRecursion (λ (e : Stamped). IsThere H e.stamp.maker e.entry) G
        → AllByRecursion (λ (e : Stamped). IsByAuthor H e.stamp.maker e.entry) G
        → AllByRecursion (λ (e : Stamped). IsSettled H e.stamp.maker e.entry) G
        → AllByRecursion (λ (e : Stamped). IsHeld H e.stamp.maker e.entry) G
        → AllByRecursion (λ (e : Stamped). IsKnown H e.stamp.maker e.entry) G
    by [] there author settled held = tt
    by (e ∷ G) there author settled held = (
      record { there = there.0; author = author.0; settled = settled.0; held = held.0 },
      by G there.1 author.1 settled.1 held.1,
    )

-- the moment is shown of one's own entry alone, and so is the key
pub known-own : {A : Type 0} (own : Bool) (x : A) → is_some (where_known own x) ≡ true → own ≡ true
known-own true x shown = refl
known-own false x shown = absurd (true≢false (sym shown))

-- each part of each sighting of this kind is told or left out
abbrev pub AllOf : EntryKind → Type 0
AllOf kind =
    (u : Option ℕ) (H : History) (before : View) (s : Sighting) (after : View) (what : Part) → Legal H
    → view u H ≡ before ++ s ∷ after → IsTrue (is_kind kind s) → IsTrue (has what s)
    → IsTrue (is_part_told u H s kind what || is_left_untold u H s after kind what)

-- a part of an entry of this kind, as a user is shown it, is told or left out
abbrev pub Each : EntryKind → Type 0
Each kind =
    (u : Option ℕ) (H : History) (legal : Legal H) (before after : View) (what : Part) (earlier later : History)
    (stamp : Stamp) (more : Bool) (e : Entry)
    → earlier ++ stamped stamp more e ∷ later ≡ H → IsKnown H stamp.maker e
    → is_told u H earlier later stamp.maker e ≡ true → view u H ≡ before ++ shown_to u H earlier later stamp e ∷ after
    → IsTrue (is_kind kind (shown_to u H earlier later stamp e))
    → IsTrue (has what (shown_to u H earlier later stamp e))
    → IsTrue (is_part_told u H (shown_to u H earlier later stamp e) kind what
    || is_left_untold u H (shown_to u H earlier later stamp e) after kind what)

-- so it is of each sighting of the kind
pub all-of : (kind : EntryKind) → Each kind → AllOf kind
all-of kind each u H before s after what legal is =
    at-sighting u H (λ s. view u H ≡ before ++ s ∷ after → IsTrue (is_kind kind s) → IsTrue (has what s)
    → IsTrue (is_part_told u H s kind what || is_left_untold u H s after kind what))
    (λ (e : Stamped). IsKnown H e.stamp.maker e.entry)
    (λ earlier later stamp more e whole known told. each u H legal before after what earlier later stamp more e whole
    known told)
    before s after is (all-known H legal) is
