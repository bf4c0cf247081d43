-- SPDX-License-Identifier: Apache-2.0 OR MIT
-- Of invitations each part that is shown is told or left out.
use Rattle.std.proofs.Common.{◌≡◌, ℕ, Bool, true, false, [], ◌∷◌, ◌++◌, refl, sym, ap, subst, ◌∙◌, ◌||◌, ◌&&◌, Option}
use Rattle.std.proofs.Common.{Some, eqb, List}
use Rattle.std.specs.Prelude.{not, filter, ◌==◌, IsTrue, unwrap_or}
use Rattle.std.specs.Option.{option_map}
use Rattle.std.specs.List.{flat_map, list_any}
use Rattle.std.proofs.lemmas.Bool.{true≢false, eq-eqb, or_left, or_right}
use Rattle.cr_base.specs.declared.entry.Entry.TheVariants.{Invited, Uninvited}
use Rattle.cr_base.specs.declared.entry.EntryKind.TheVariants as kinds
use Rattle.cr_base.specs.declared.entry.Stamp.{Stamp}
use Rattle.cr_base.specs.declared.me.Me.{Me}
use Rattle.cr_base.specs.declared.words.Role.{Role}
use Rattle.cr_base.specs.Lists.{is_nothing, is_number, listed}
use Rattle.cr_base.specs.History.{History}
use Rattle.cr_base.specs.HistoryFacts.{role_of}
use Rattle.cr_history.specs.Invariants.{IsSubmitted}
use Rattle.cr_policy.specs.Legal.{Legal}
use Rattle.cr_policy.specs.Part as part
use Rattle.cr_policy.specs.Part.{Part}
use Rattle.cr_policy.specs.Sighting.{Sighting}
use Rattle.cr_policy.specs.View.{View, view}
use Rattle.cr_policy.specs.ViewFacts.{only, is_user, papers_in_view}
use Rattle.cr_policy.proofs.StandingLaws.{papers-seen}
use Rattle.cr_bounds.specs.ShownTo.{is_on_committee}
use Rattle.cr_bounds.proofs.BoundsWalk.{shown_to}
use Rattle.cr_told.specs.ToldPages.{invitation_by, is_shown_invited}
use Rattle.cr_told.specs.ToldParts.{has, lists, invited_given, is_told as is_part_told, is_left_untold}
use Rattle.cr_told.specs.ToldPublic.{role_shown}
use Rattle.cr_told.proofs.ToldEach.{last-here}
use Rattle.cr_told.proofs.ToldKnown.{AllOf, Each, all-of, known-own}
use Rattle.cr_told.proofs.ToldLists.{me_told}
use Rattle.cr_told.proofs.ToldNames.{role-seen}
use Rattle.cr_told.proofs.ToldPartsSeats.{any-filtered}
use Rattle.cr_told.proofs.ToldPlaces.{number-is}
use Rattle.cr_told.proofs.ToldPublic.{roles}

-- to which papers a user is told that she is invited
invited-is : (H : History) (v : ℕ) (u : Option ℕ) → u ≡ Some v
    → invited_given u H
    ≡ Some (filter (λ (p : ℕ). not (is_on_committee (role_shown u (view u H))) && is_shown_invited u p (view u H))
    (papers_in_view (view u H)))
invited-is H v u e =
    subst (λ (w : Option ℕ). invited_given w H
    ≡ Some (filter (λ (p : ℕ). not (is_on_committee (role_shown w (view w H))) && is_shown_invited w p (view w H))
    (papers_in_view (view w H)))) (sym e)
    (ap (option_map (λ (me : Me). me.invited)) (me_told v H))

module _ (u : Option ℕ) (H : History) (legal : Legal H) (before after : View) where
  abbrev V : View
  V = view u H

  abbrev onc : Bool
  onc = is_on_committee (role_of u H)

  module _ (earlier later : History) (stamp : Stamp) (more : Bool) (paper user : ℕ) (there : IsSubmitted H paper)
      (is : view u H ≡ before ++ shown_to u H earlier later stamp (Invited paper user) ∷ after)
    where
      abbrev s : Sighting
      s = shown_to u H earlier later stamp (Invited paper user)

      abbrev turns : Sighting → List Bool
      turns t = only (is_number t.paper paper && is_user u t.user) (listed (invitation_by t.kind))

      abbrev invited-so : Bool
      invited-so = lists (invited_given u H) (eqb paper)

      -- she is told so where she is on no committee, and it wasn't taken back
      told-so : is_number u user ≡ true → onc ≡ false → is_nothing (flat_map turns after) ≡ true → invited-so ≡ true
      told-so mine out none =
          ap (λ papers. lists papers (eqb paper)) (invited-is H user u (number-is u user mine))
          ∙ any-filtered paper (λ (p : ℕ). not (is_on_committee (role_shown u V)) && is_shown_invited u p V)
          ((λ i. not (role-out i) && stands i))
          (papers_in_view V) (ap (λ papers. list_any (λ q. q == paper) papers) (papers-seen u H) ∙ there)
        where
          role-out : is_on_committee (role_shown u V) ≡ false
          role-out = ap (λ (role : Role). is_on_committee role) (sym (roles u H u) ∙ role-seen u u H) ∙ out

          stands : is_shown_invited u paper V ≡ true
          stands =
              ap (λ (W : View). is_shown_invited u paper W) is
              ∙ ap (λ o. unwrap_or o false) (last-here turns before after s true
              (λ i. only (eq-eqb paper paper refl i && mine i) (true ∷ [])) none)

      invited : (what : Part) → IsTrue (has what s)
          → IsTrue (is_part_told u H s kinds.Invited what || is_left_untold u H s after kinds.Invited what)
      invited part.user shown = by (is_number u user) refl onc refl (is_nothing (flat_map turns after)) refl
        where
          by : (mine : Bool) → is_number u user ≡ mine → (out : Bool) → onc ≡ out → (none : Bool)
              → is_nothing (flat_map turns after) ≡ none
              → ((mine && invited-so) || ((not mine || out) || not none)) ≡ true
          by false e out f none g = refl
          by true e true f none g = or_right invited-so true refl
          by true e false f false g = or_right invited-so true refl
          by true e false f true g = or_left invited-so false (told-so e f g)
      invited part.at shown = known-own (is_number u stamp.maker) stamp.at shown
      invited part.key shown = known-own (is_number u stamp.maker) stamp.key shown
      invited _ shown = absurd (true≢false (sym shown))

pub invited-all : AllOf kinds.Invited
invited-all = all-of kinds.Invited each
  where
    each : Each kinds.Invited
    each u H legal before after what earlier later stamp more (Invited paper user) whole known told is kind shown =
        invited u H legal before after earlier later stamp more paper user known.there.0 is what shown
    each u H legal before after what earlier later stamp more e whole known told is kind shown =
        absurd (true≢false (sym kind))

pub uninvited-all : AllOf kinds.Uninvited
uninvited-all = all-of kinds.Uninvited each
  where
    each : Each kinds.Uninvited
    each u H legal before after what earlier later stamp more (Uninvited paper user) whole known told is kind shown =
        none what shown
      where
        none : (what : Part) → has what (shown_to u H earlier later stamp (Uninvited paper user)) ≡ true
            → (is_part_told u H (shown_to u H earlier later stamp (Uninvited paper user)) kinds.Uninvited what
            || is_left_untold u H (shown_to u H earlier later stamp (Uninvited paper user)) after kinds.Uninvited what)
            ≡ true
        none part.user shown = refl
        none part.at shown = known-own (is_number u stamp.maker) stamp.at shown
        none part.key shown = known-own (is_number u stamp.maker) stamp.key shown
        none _ shown = absurd (true≢false (sym shown))
    each u H legal before after what earlier later stamp more e whole known told is kind shown =
        absurd (true≢false (sym kind))
