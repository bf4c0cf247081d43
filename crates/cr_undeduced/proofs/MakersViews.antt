-- SPDX-License-Identifier: Apache-2.0 OR MIT
-- Whoever isn't shown the makers sees the same of both histories.
use Rattle.std.proofs.Common.{ℕ, Bool, true, false, ◌≡◌, suc, zero, [], ◌∷◌, ◌++◌, eqb, refl, sym, ap}
use Rattle.std.proofs.Common.{subst, ◌∙◌, ◌||◌, ◌&&◌, Option, Some, None}
use Rattle.std.specs.Prelude.{take, is_some}
use Rattle.std.specs.List.{list_any}
use Rattle.std.proofs.lemmas.Bool.{true≢false}
use Rattle.cr_base.specs.declared.entry.Entry.{Entry}
use Rattle.cr_base.specs.declared.entry.Entry.TheVariants as entries
use Rattle.cr_base.specs.declared.entry.Stamp.{Stamp}
use Rattle.cr_base.specs.Calls.{stamp_by}
use Rattle.cr_base.specs.Decisions.{is_accepted_when}
use Rattle.cr_base.specs.Drawn.{stamped}
use Rattle.cr_base.specs.History.{History}
use Rattle.cr_base.specs.Lists.{is_number}
use Rattle.cr_policy.specs.HiddenPayload.{all_of, outline, PlaceByPlace, AcceptedAlike, IsHiddenFrom}
use Rattle.cr_policy.specs.HiddenPayload.{IsDeclaredAlike}
use Rattle.cr_policy.specs.Part as part
use Rattle.cr_policy.specs.Part.{Part}
use Rattle.cr_policy.specs.Sighting.{where_shown, masked, entire}
use Rattle.cr_policy.specs.Triggers.{reader, Around, shows}
use Rattle.cr_policy.specs.View.{rows_at, view}
use Rattle.cr_policy.specs.ViewFacts.{is_user}
use Rattle.cr_policy.proofs.HiddenLaws.{hidden_payload}
use Rattle.cr_bounds.specs.ShownTo.{is_told, maker_for, oversees, where_known}
use Rattle.cr_bounds.proofs.BoundsParts.{key-one, maker-one}
use Rattle.cr_undeduced.specs.Makers.{MayHaveMade, stamp_of, made_by, IsUnseen, AreUnseen, OtherMakersUnseen}
use Rattle.cr_undeduced.proofs.MakersFacts.{IsAnyones, right-anyones, right-there, Alike, made_by-alike, stamp-same}
use Rattle.cr_undeduced.proofs.MakersFacts.{stamp-other}
use Rattle.cr_undeduced.proofs.MakersSaid.{phase-also, withdrawn-also, decision-also, authors-also}

-- ---- up to a look

take-made : (k : ℕ) (ws : ℕ → ℕ) (H : History) → take k (made_by ws H) ≡ made_by ws (take k H)
take-made zero ws [] = refl
take-made zero ws (e ∷ H) = refl
take-made (suc k) ws [] = refl
take-made (suc k) ws (e ∷ H) =
    ap (λ (later : History). stamped (stamp_of (ws 0) e.stamp) e.more e.entry ∷ later)
    (take-made k (λ n. ws (suc n)) H)

may-take : (k : ℕ) (ws : ℕ → ℕ) (before H : History) → MayHaveMade ws before H → MayHaveMade ws before (take k H)
may-take zero ws before [] may = tt
may-take zero ws before (e ∷ H) may = tt
may-take (suc k) ws before [] may = tt
may-take (suc k) ws before (e ∷ H) may =
    (may.0, may.1, may-take k (λ n. ws (suc n)) (before ++ e ∷ []) H may.2)

-- ---- one entry

-- what isn't shown may be another's
pub hidden-part : {A : Type 0} (s : Bool) (x : A) → where_shown s (Some x) ≡ None → s ≡ false
hidden-part true x is = cc
hidden-part false x is = refl

pub part-same : {A : Type 0} (s : Bool) (x y : A) → s ≡ false → where_shown s (Some x) ≡ where_shown s (Some y)
part-same s x y none = ap (λ b. where_shown b (Some x)) none ∙ sym (ap (λ b. where_shown b (Some y)) none)

untold-bid : (own o : Bool) (maker : ℕ) → own ≡ false → ((own || o) && is_some (where_known o maker)) ≡ false
    → o ≡ false
untold-bid true o maker none is = absurd (true≢false none)
untold-bid false true maker none is = absurd (true≢false is)
untold-bid false false maker none is = refl

outline-made : (stamp other : Stamp) (more : Bool) (e : Entry)
    → outline (stamped stamp more e) ≡ outline (stamped other more e)
outline-made stamp other more (entries.Registered user name digest) = refl
outline-made stamp other more e = refl

user-made : (u : Option ℕ) (stamp other : Stamp) (more : Bool) (e : Entry)
    → is_user u (all_of (stamped stamp more e)).user ≡ is_user u (all_of (stamped other more e)).user
user-made u stamp other more (entries.Registered user name digest) = refl
user-made u stamp other more e = refl

module _ (u : Option ℕ) (T : History) (at : Around) (stamp : Stamp) (more : Bool) (w : ℕ)
    (own : is_number u stamp.maker ≡ false) where
  -- the parts that the table shows her
  abbrev shown : Entry → Part → Bool
  shown e = shows (rows_at (reader u T) at (stamped stamp more e))

  abbrev other : Stamp
  other = stamp_by w stamp.at None

  key-hidden : (e : Entry) → where_shown (shown e part.key) (Some stamp.key) ≡ where_known (is_number u stamp.maker) stamp.key
      → shown e part.key ≡ false
  key-hidden e is =
      hidden-part (shown e part.key) stamp.key (is ∙ ap (λ b. where_known b stamp.key) own)

  parts-made : (e : Entry) → IsAnyones e
      → (is_told u T at.before at.after stamp.maker e && is_some (maker_for u T at.before at.after stamp e)) ≡ false
      → masked (shown e) false (entire stamp e) ≡ masked (shown e) false (entire other e)
  parts-made (entries.Registered user name digest) is untold = absurd is
  parts-made (entries.Submitted paper title abstract) is untold = absurd is
  parts-made (entries.Coauthor paper user) is untold = absurd is
  parts-made (entries.Uploaded paper version content) is untold = absurd is
  parts-made (entries.Reviewed paper ordinal version form) is untold = absurd is
  parts-made (entries.Commented paper n ordinal text) is untold = absurd is
  parts-made (entries.Bid paper value) is untold =
      let e : Entry = entries.Bid paper value in
      let none : oversees u paper T ≡ false =
      untold-bid (is_number u stamp.maker) (oversees u paper T) stamp.maker own untold in
      let by_hidden : shown e part.by ≡ false =
      hidden-part (shown e part.by) stamp.maker
      (maker-one u T at stamp more e ∙ ap (λ b. where_known b stamp.maker) none) in
      λ i. record (masked (shown e) false (entire stamp e)) {
        by = part-same (shown e part.by) stamp.maker w by_hidden i;
        key = part-same (shown e part.key) stamp.key None (key-hidden e (key-one u T at stamp more e)) i;
      }
  parts-made e is untold =
      λ i. record (masked (shown e) false (entire stamp e)) {
        key = part-same (shown e part.key) stamp.key None (key-hidden e (key-one u T at stamp more e)) i;
      }

-- ---- place by place

alike-made : (ws : ℕ → ℕ) (before H : History)
    → PlaceByPlace (λ at e other. outline e ≡ outline other) before H (made_by ws H)
alike-made ws before [] = tt
alike-made ws before (e ∷ H) =
    (outline-made e.stamp (stamp_of (ws 0) e.stamp) e.more e.entry, alike-made (λ n. ws (suc n)) (before ++ e ∷ []) H)

hidden-made : (u : Option ℕ) (T : History) (ws : ℕ → ℕ) (before H : History) → MayHaveMade ws before H
    → AreUnseen u T ws before H → PlaceByPlace (IsHiddenFrom (reader u T)) before H (made_by ws H)
hidden-made u T ws before [] may unseen = tt
hidden-made u T ws before (e ∷ H) may unseen =
    (by (eqb (ws 0) e.stamp.maker) refl, hidden-made u T (λ n. ws (suc n)) (before ++ e ∷ []) H may.2 unseen.1)
  where
    by : (b : Bool) → eqb (ws 0) e.stamp.maker ≡ b
        → IsHiddenFrom (reader u T) (record { before = before; after = H }) e
        (stamped (stamp_of (ws 0) e.stamp) e.more e.entry)
    by true same =
        subst
        (λ (stamp : Stamp). IsHiddenFrom (reader u T) (record { before = before; after = H }) e
        (stamped stamp e.more e.entry))
        (sym (stamp-same (ws 0) e.stamp same)) (record { parts = refl; maker = refl; user = refl })
    by false other =
        let hidden : IsUnseen u T (ws 0) before H e = unseen.0 other in
        let anyones : IsAnyones e.entry =
        right-anyones (ws 0) before e.entry (right-there (ws 0) before e may.0 other).1 in
        subst
        (λ (stamp : Stamp). IsHiddenFrom (reader u T) (record { before = before; after = H }) e
        (stamped stamp e.more e.entry))
        (sym (stamp-other (ws 0) e.stamp other)) (record {
          parts = parts-made u T (record { before = before; after = H }) e.stamp e.more (ws 0) hidden.maker e.entry
              anyones hidden.untold;
          maker = hidden.maker ∙ sym hidden.other;
          user = user-made u e.stamp (stamp_by (ws 0) e.stamp.at None) e.more e.entry;
        })

declared-same : (u : Option ℕ) (T : History) (m : ℕ) (e : Entry) → IsDeclaredAlike u T T e m m
declared-same u T m (entries.Conflict paper user on) = λ hers. refl
declared-same u T m e = tt

declared-also : (u : Option ℕ) (T T' : History) → Alike T T' → (m w : ℕ) (e : Entry) → IsDeclaredAlike u T T e m w
    → IsDeclaredAlike u T T' e m w
declared-also u T T' alike m w (entries.Conflict paper user on) is =
    λ hers. is hers ∙ ap (list_any (is_number (Some w))) (authors-also T T' alike paper)
declared-also u T T' alike m w e is = tt

declared-made : (u : Option ℕ) (T T' : History) → Alike T T' → (ws : ℕ → ℕ) (before H : History)
    → AreUnseen u T ws before H
    → PlaceByPlace (λ at e other. IsDeclaredAlike u T T' e.entry e.stamp.maker other.stamp.maker) before H
    (made_by ws H)
declared-made u T T' alike ws before [] unseen = tt
declared-made u T T' alike ws before (e ∷ H) unseen = (
  by (eqb (ws 0) e.stamp.maker) refl,
  declared-made u T T' alike (λ n. ws (suc n)) (before ++ e ∷ []) H unseen.1,
)
  where
    by : (b : Bool) → eqb (ws 0) e.stamp.maker ≡ b
        → IsDeclaredAlike u T T' e.entry e.stamp.maker (stamp_of (ws 0) e.stamp).maker
    by true same =
        subst (λ (stamp : Stamp). IsDeclaredAlike u T T' e.entry e.stamp.maker stamp.maker)
        (sym (stamp-same (ws 0) e.stamp same))
        (declared-also u T T' alike e.stamp.maker e.stamp.maker e.entry (declared-same u T e.stamp.maker e.entry))
    by false other =
        subst (λ (stamp : Stamp). IsDeclaredAlike u T T' e.entry e.stamp.maker stamp.maker)
        (sym (stamp-other (ws 0) e.stamp other))
        (declared-also u T T' alike e.stamp.maker (ws 0) e.entry (unseen.0 other).declared)

accepted-made : (T T' : History) → Alike T T' → AcceptedAlike T T'
accepted-made T T' alike p =
    λ i. is_accepted_when (phase-also T T' alike i) (withdrawn-also T T' alike p i) (decision-also T T' alike p i)

pub other_makers_unseen : OtherMakersUnseen
other_makers_unseen ws H look may unseen =
    let T : History = take look.upto H in
    let there : MayHaveMade ws [] T = may-take look.upto ws [] H may in
    let alike : Alike T (made_by ws T) = made_by-alike ws [] T there in
    hidden_payload look.who T (made_by ws T) (record {
      alike = alike-made ws [] T;
      hidden = hidden-made look.who T ws [] T there unseen;
      accepted = accepted-made T (made_by ws T) alike;
      declared = declared-made look.who T (made_by ws T) alike ws [] T unseen;
    })
    ∙ ap (view look.who) (sym (take-made look.upto ws H))
