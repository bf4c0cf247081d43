-- SPDX-License-Identifier: Apache-2.0 OR MIT
-- Whoever isn't told which of the twins made an entry, nor which of them it names, sees the same of both histories.
use Rattle.std.proofs.Common.{ℕ, Bool, true, false, cond, ◌≡◌, suc, zero, [], ◌∷◌, ◌++◌, eqb, refl, sym, ap}
use Rattle.std.proofs.Common.{◌∙◌, ◌&&◌, Option, Some, None}
use Rattle.std.specs.Prelude.{take, is_some, not}
use Rattle.std.specs.List.{list_any}
use Rattle.std.proofs.lemmas.Bool.{true≢false, eqb-true, not_from_false}
use Rattle.cr_base.specs.declared.entry.Entry.{Entry}
use Rattle.cr_base.specs.declared.entry.Entry.TheVariants as entries
use Rattle.cr_base.specs.declared.entry.Stamp.{Stamp}
use Rattle.cr_base.specs.Calls.{stamp_by}
use Rattle.cr_base.specs.Decisions.{is_accepted_when}
use Rattle.cr_base.specs.Drawn.{stamped}
use Rattle.cr_base.specs.History.{History}
use Rattle.cr_base.specs.HistoryFacts.{is_author}
use Rattle.cr_base.specs.Lists.{is_number}
use Rattle.cr_base.proofs.Small.{eqb-self}
use Rattle.cr_policy.specs.HiddenPayload.{outline, PlaceByPlace, AcceptedAlike, IsHiddenFrom}
use Rattle.cr_policy.specs.HiddenPayload.{IsDeclaredAlike}
use Rattle.cr_policy.specs.Part as part
use Rattle.cr_policy.specs.Part.{Part}
use Rattle.cr_policy.specs.Sighting.{where_shown, masked, entire}
use Rattle.cr_policy.specs.Triggers.{reader, Around, shows}
use Rattle.cr_policy.specs.View.{view}
use Rattle.cr_policy.specs.ViewFacts.{is_user}
use Rattle.cr_policy.proofs.HiddenLaws.{hidden_payload}
use Rattle.cr_bounds.specs.ShownTo.{PartFor, is_told, maker_for, user_for, where_known}
use Rattle.cr_bounds.proofs.BoundsParts.{IsWithin, key-one, maker-one, user-one}
use Rattle.cr_undeduced.specs.Makers.{stamp_of}
use Rattle.cr_undeduced.specs.Twins.{Twins, placed, twin_entry, twin_maker, twin_of, twinned, renames, AreUntold}
use Rattle.cr_undeduced.specs.Twins.{IsOutside, TwinsUnseen}
use Rattle.cr_undeduced.proofs.KnownParts.{shown, told}
use Rattle.cr_undeduced.proofs.MakersFacts.{stamp-same}
use Rattle.cr_undeduced.proofs.MakersViews.{hidden-part, part-same}
use Rattle.cr_undeduced.proofs.TwinAdds.{author-placed}
use Rattle.cr_undeduced.proofs.TwinFacts.{maker-is, phase-twin, withdrawn-twin, decision-twin, authors-twin}

take-twin : (t : Twins) (k : ℕ) (H : History) → take k (twinned t H) ≡ twinned t (take k H)
take-twin t zero [] = refl
take-twin t zero (e ∷ H) = refl
take-twin t (suc k) [] = refl
take-twin t (suc k) (e ∷ H) = ap (λ (later : History). twin_of t e ∷ later) (take-twin t k H)

-- ---- who is neither of the two

module _ (t : Twins) (u : Option ℕ) (one : is_number u t.one ≡ false) (other : is_number u t.other ≡ false) where
  -- isn't who changes places
  outside : (p v : ℕ) → is_number u v ≡ is_number u (placed t p v)
  outside p v = by (eqb p t.paper) (eqb v t.one) refl (eqb v t.other) refl
    where
      by : (at first : Bool) → eqb v t.one ≡ first → (second : Bool) → eqb v t.other ≡ second
          → is_number u v ≡ is_number u (cond at (cond first t.other (cond second t.one v)) v)
      by false first a second b = refl
      by true true a second b = ap (is_number u) (eqb-true v t.one a) ∙ one ∙ sym other
      by true false a true b = ap (is_number u) (eqb-true v t.other b) ∙ other ∙ sym one
      by true false a false b = refl

  pub outside-moved : (p v : ℕ) → eqb (placed t p v) v ≡ false → is_number u v ≡ false
  outside-moved p v moved = by (eqb p t.paper) (eqb v t.one) refl (eqb v t.other) refl moved
    where
      same : (w : ℕ) → eqb w w ≡ false → ⊥
      same w h = true≢false (sym (eqb-self w) ∙ h)

      by : (at first : Bool) → eqb v t.one ≡ first → (second : Bool) → eqb v t.other ≡ second
          → eqb (cond at (cond first t.other (cond second t.one v)) v) v ≡ false → is_number u v ≡ false
      by false first a second b moved = absurd (same v moved)
      by true true a second b moved = ap (is_number u) (eqb-true v t.one a) ∙ one
      by true false a true b moved = ap (is_number u) (eqb-true v t.other b) ∙ other
      by true false a false b moved = absurd (same v moved)

  maker-outside : (m : ℕ) (e : Entry) → is_number u m ≡ is_number u (twin_maker t m e)
  maker-outside m (entries.Conflict paper user on) = outside paper m
  maker-outside m (entries.Bid paper value) = outside paper m
  maker-outside m (entries.Assigned paper user kind ordinal) = outside paper m
  maker-outside m (entries.Unassigned paper user ordinal) = outside paper m
  maker-outside m (entries.Reviewed paper ordinal version form) = outside paper m
  maker-outside m (entries.Commented paper n ordinal text) = outside paper m
  maker-outside m (entries.Tagged paper tag on) = outside paper m
  maker-outside m (entries.Decided paper decision) = outside paper m
  maker-outside m (entries.Invited paper user) = outside paper m
  maker-outside m (entries.Uninvited paper user) = outside paper m
  maker-outside m e = refl

  maker-moved : (m : ℕ) (e : Entry) → eqb (twin_maker t m e) m ≡ false → is_number u m ≡ false
  maker-moved m (entries.Conflict paper user on) moved = outside-moved paper m moved
  maker-moved m (entries.Bid paper value) moved = outside-moved paper m moved
  maker-moved m (entries.Assigned paper user kind ordinal) moved = outside-moved paper m moved
  maker-moved m (entries.Unassigned paper user ordinal) moved = outside-moved paper m moved
  maker-moved m (entries.Reviewed paper ordinal version form) moved = outside-moved paper m moved
  maker-moved m (entries.Commented paper n ordinal text) moved = outside-moved paper m moved
  maker-moved m (entries.Tagged paper tag on) moved = outside-moved paper m moved
  maker-moved m (entries.Decided paper decision) moved = outside-moved paper m moved
  maker-moved m (entries.Invited paper user) moved = outside-moved paper m moved
  maker-moved m (entries.Uninvited paper user) moved = outside-moved paper m moved
  maker-moved m e moved = absurd (true≢false (sym (eqb-self m) ∙ moved))

  user-outside : (stamp stamp' : Stamp) (e : Entry)
      → is_user u (entire stamp e).user ≡ is_user u (entire stamp' (twin_entry t e)).user
  user-outside stamp stamp' (entries.Conflict paper user on) = outside paper user
  user-outside stamp stamp' (entries.Assigned paper user kind ordinal) = outside paper user
  user-outside stamp stamp' (entries.Unassigned paper user ordinal) = outside paper user
  user-outside stamp stamp' (entries.Invited paper user) = outside paper user
  user-outside stamp stamp' (entries.Uninvited paper user) = outside paper user
  user-outside stamp stamp' e = refl

outline-twin : (t : Twins) (stamp stamp' : Stamp) (more : Bool) (e : Entry)
    → outline (stamped stamp more e) ≡ outline (stamped stamp' more (twin_entry t e))
outline-twin t stamp stamp' more (entries.Registered user name digest) = refl
outline-twin t stamp stamp' more e = refl

-- ---- one entry

-- a part that she would be told if it were shown isn't shown
hidden-one : (s told : Bool) (v : ℕ) (known : Option ℕ) → (s ≡ true → told ≡ true)
    → (told ≡ true → where_shown s (Some v) ≡ known) → (told && is_some known) ≡ false → s ≡ false
hidden-one false told v known shows same untold = refl
hidden-one true told v known shows same untold =
    absurd (true≢false (both told (is_some known) (shows refl) (ap is_some (sym (same (shows refl)))) ∙ untold))
  where
    both : (a b : Bool) → a ≡ true → b ≡ true → true ≡ (a && b)
    both a b h k = λ i. sym h i && sym k i

-- it is another or isn't shown
part-or : (b s : Bool) (x y : ℕ) → eqb y x ≡ b → (b ≡ false → s ≡ false)
    → where_shown s (Some x) ≡ where_shown s (Some y)
part-or true s x y same hides = ap (λ v. where_shown s (Some v)) (sym (eqb-true y x same))
part-or false s x y same hides = part-same s x y (hides refl)

module _ (t : Twins) (u : Option ℕ) (T : History) (at : Around) (stamp : Stamp) (more : Bool) where
  abbrev sees : Entry → Part → Bool
  sees e = shown u T at stamp more e

  -- the bounds don't tell her the part
  abbrev Untold : PartFor (Option ℕ) → Entry → Type 0
  Untold part e =
      (is_told u T at.before at.after stamp.maker e && is_some (part u T at.before at.after stamp e)) ≡ false

  -- the stamp in the other's hands: the moment is the same, and the number isn't shown
  record Restamped (other : Stamp) (e : Entry) : Type 0 where
    moment : stamp.at ≡ other.at
    key : where_shown (sees e part.key) (Some stamp.key) ≡ where_shown (sees e part.key) (Some other.key)

  restamped : (w : ℕ) (e : Entry) → (eqb w stamp.maker ≡ false → is_number u stamp.maker ≡ false)
      → where_shown (sees e part.key) (Some stamp.key) ≡ where_known (is_number u stamp.maker) stamp.key
      → Restamped (stamp_of w stamp) e
  restamped w e hides same = by (eqb w stamp.maker) refl
    where
      by : (b : Bool) → eqb w stamp.maker ≡ b → Restamped (cond b stamp (stamp_by w stamp.at None)) e
      by true is = record { moment = refl; key = refl }
      by false other = record {
        moment = refl;
        key = part-same (sees e part.key) stamp.key None (hidden-part (sees e part.key) stamp.key
            (same ∙ ap (λ b. where_known b stamp.key) (hides other)));
      }

  -- whom it names
  user-hidden : (e : Entry) (p v : ℕ) → IsWithin T at e
      → (is_told u T at.before at.after stamp.maker e ≡ true
      → where_shown (sees e part.user) (Some v) ≡ user_for u T at.before at.after stamp e)
      → (eqb (placed t p v) v ≡ false → Untold user_for e)
      → where_shown (sees e part.user) (Some v) ≡ where_shown (sees e part.user) (Some (placed t p v))
  user-hidden e p v within same untold =
      part-or (eqb (placed t p v) v) (sees e part.user) v (placed t p v) refl
      (λ other. hidden-one (sees e part.user) (is_told u T at.before at.after stamp.maker e) v
      (user_for u T at.before at.after stamp e) (told u T at stamp more e within part.user) same (untold other))

  -- who made it
  maker-hidden : (e : Entry) (w : ℕ) → IsWithin T at e
      → where_shown (sees e part.by) (Some stamp.maker) ≡ maker_for u T at.before at.after stamp e
      → (eqb w stamp.maker ≡ false → Untold maker_for e)
      → where_shown (sees e part.by) (Some stamp.maker)
      ≡ where_shown (sees e part.by) (Some (stamp_of w stamp).maker)
  maker-hidden e w within same untold =
      part-or (eqb w stamp.maker) (sees e part.by) stamp.maker w refl
      (λ other. hidden-one (sees e part.by) (is_told u T at.before at.after stamp.maker e) stamp.maker
      (maker_for u T at.before at.after stamp e) (told u T at stamp more e within part.by) (λ h. same) (untold other))
      ∙ ap (λ m. where_shown (sees e part.by) (Some m)) (sym (maker-is w stamp))

  module _ (hides : (e : Entry) → eqb (twin_maker t stamp.maker e) stamp.maker ≡ false → is_number u stamp.maker ≡ false)
    where
      parts-twin : (e : Entry)
          → (not (eqb (twin_maker t stamp.maker e) stamp.maker) ≡ true → Untold maker_for e)
          → (renames t e ≡ true → Untold user_for e)
          → masked (sees e) false (entire stamp e)
          ≡ masked (sees e) false (entire (stamp_of (twin_maker t stamp.maker e) stamp) (twin_entry t e))
      parts-twin (entries.Conflict paper user on) unmade unnamed =
          let e : Entry = entries.Conflict paper user on in
          let same : Restamped (stamp_of (placed t paper stamp.maker) stamp) e =
          restamped (placed t paper stamp.maker) e (hides e) (key-one u T at stamp more e) in
          λ i. record (masked (sees e) false (entire stamp e)) {
            user = user-hidden e paper user tt (user-one u T at stamp more e)
                (λ h. unnamed (not_from_false (eqb (placed t paper user) user) h)) i;
            at = where_shown (sees e part.at) (Some (same.moment i));
            key = same.key i;
          }
      parts-twin (entries.Assigned paper user kind ordinal) unmade unnamed =
          let e : Entry = entries.Assigned paper user kind ordinal in
          let same : Restamped (stamp_of (placed t paper stamp.maker) stamp) e =
          restamped (placed t paper stamp.maker) e (hides e) (key-one u T at stamp more e) in
          λ i. record (masked (sees e) false (entire stamp e)) {
            user = user-hidden e paper user tt (user-one u T at stamp more e)
                (λ h. unnamed (not_from_false (eqb (placed t paper user) user) h)) i;
            at = where_shown (sees e part.at) (Some (same.moment i));
            key = same.key i;
          }
      parts-twin (entries.Unassigned paper user ordinal) unmade unnamed =
          let e : Entry = entries.Unassigned paper user ordinal in
          let same : Restamped (stamp_of (placed t paper stamp.maker) stamp) e =
          restamped (placed t paper stamp.maker) e (hides e) (key-one u T at stamp more e) in
          λ i. record (masked (sees e) false (entire stamp e)) {
            user = user-hidden e paper user tt (user-one u T at stamp more e)
                (λ h. unnamed (not_from_false (eqb (placed t paper user) user) h)) i;
            at = where_shown (sees e part.at) (Some (same.moment i));
            key = same.key i;
          }
      parts-twin (entries.Invited paper user) unmade unnamed =
          let e : Entry = entries.Invited paper user in
          let same : Restamped (stamp_of (placed t paper stamp.maker) stamp) e =
          restamped (placed t paper stamp.maker) e (hides e) (key-one u T at stamp more e) in
          λ i. record (masked (sees e) false (entire stamp e)) {
            user = user-hidden e paper user tt (user-one u T at stamp more e)
                (λ h. unnamed (not_from_false (eqb (placed t paper user) user) h)) i;
            at = where_shown (sees e part.at) (Some (same.moment i));
            key = same.key i;
          }
      parts-twin (entries.Uninvited paper user) unmade unnamed =
          let e : Entry = entries.Uninvited paper user in
          let same : Restamped (stamp_of (placed t paper stamp.maker) stamp) e =
          restamped (placed t paper stamp.maker) e (hides e) (key-one u T at stamp more e) in
          λ i. record (masked (sees e) false (entire stamp e)) {
            user = user-hidden e paper user tt (user-one u T at stamp more e)
                (λ h. unnamed (not_from_false (eqb (placed t paper user) user) h)) i;
            at = where_shown (sees e part.at) (Some (same.moment i));
            key = same.key i;
          }
      parts-twin (entries.Bid paper value) unmade unnamed =
          let e : Entry = entries.Bid paper value in
          let same : Restamped (stamp_of (placed t paper stamp.maker) stamp) e =
          restamped (placed t paper stamp.maker) e (hides e) (key-one u T at stamp more e) in
          λ i. record (masked (sees e) false (entire stamp e)) {
            by = maker-hidden e (placed t paper stamp.maker) tt (maker-one u T at stamp more e)
                (λ h. unmade (not_from_false (eqb (placed t paper stamp.maker) stamp.maker) h)) i;
            at = where_shown (sees e part.at) (Some (same.moment i));
            key = same.key i;
          }
      parts-twin (entries.Commented paper n ordinal text) unmade unnamed =
          let e : Entry = entries.Commented paper n ordinal text in
          let same : Restamped (stamp_of (placed t paper stamp.maker) stamp) e =
          restamped (placed t paper stamp.maker) e (hides e) (key-one u T at stamp more e) in
          λ i. record (masked (sees e) false (entire stamp e)) {
            by = maker-hidden e (placed t paper stamp.maker) tt (maker-one u T at stamp more e)
                (λ h. unmade (not_from_false (eqb (placed t paper stamp.maker) stamp.maker) h)) i;
            at = where_shown (sees e part.at) (Some (same.moment i));
            key = same.key i;
          }
      parts-twin (entries.Submitted paper title abstract) unmade unnamed =
          let e : Entry = entries.Submitted paper title abstract in
          ap (λ (other : Stamp). masked (sees e) false (entire other e))
          (sym (stamp-same stamp.maker stamp (eqb-self stamp.maker)))
      parts-twin e unmade unnamed =
          let same : Restamped (stamp_of (twin_maker t stamp.maker e) stamp) e =
          restamped (twin_maker t stamp.maker e) e (hides e) (key-one u T at stamp more e) in
          λ i. record (masked (sees e) false (entire stamp e)) {
            at = where_shown (sees e part.at) (Some (same.moment i));
            key = same.key i;
          }

-- ---- place by place

alike-twin : (t : Twins) (before H : History)
    → PlaceByPlace (λ at e other. outline e ≡ outline other) before H (twinned t H)
alike-twin t before [] = tt
alike-twin t before (e ∷ H) = (
  outline-twin t e.stamp (stamp_of (twin_maker t e.stamp.maker e.entry) e.stamp) e.more e.entry,
  alike-twin t (before ++ e ∷ []) H,
)

hidden-twin : (t : Twins) (u : Option ℕ) (T : History) → IsOutside t u T → (before H : History) → AreUntold t u T before H
    → PlaceByPlace (IsHiddenFrom (reader u T)) before H (twinned t H)
hidden-twin t u T outside before [] untold = tt
hidden-twin t u T outside before (e ∷ H) untold = (
  record {
    parts = parts-twin t u T (record { before = before; after = H }) e.stamp e.more
        (λ entry. maker-moved t u outside.one outside.other e.stamp.maker entry) e.entry untold.0 untold.1;
    maker = maker-outside t u outside.one outside.other e.stamp.maker e.entry
        ∙ ap (is_number u) (sym (maker-is (twin_maker t e.stamp.maker e.entry) e.stamp));
    user = user-outside t u outside.one outside.other e.stamp
        (stamp_of (twin_maker t e.stamp.maker e.entry) e.stamp) e.entry;
  },
  hidden-twin t u T outside (before ++ e ∷ []) H untold.2,
)

declared-twin : (t : Twins) (u : Option ℕ) (T : History) → is_author (Some t.one) t.paper T ≡ false
    → is_author (Some t.other) t.paper T ≡ false → (before H : History)
    → PlaceByPlace (λ at e other. IsDeclaredAlike u T (twinned t T) e.entry e.stamp.maker other.stamp.maker) before H
    (twinned t H)
declared-twin t u T one other before [] = tt
declared-twin t u T one other before (e ∷ H) =
    (by e.entry, declared-twin t u T one other (before ++ e ∷ []) H)
  where
    by : (entry : Entry) → IsDeclaredAlike u T (twinned t T) entry e.stamp.maker
        (stamp_of (twin_maker t e.stamp.maker entry) e.stamp).maker
    by (entries.Conflict paper user on) = λ hers.
        author-placed t T one other paper e.stamp.maker
        ∙ ap (λ m. is_author (Some m) paper T) (sym (maker-is (placed t paper e.stamp.maker) e.stamp))
        ∙ ap (list_any (is_number (Some (stamp_of (placed t paper e.stamp.maker) e.stamp).maker)))
        (sym (authors-twin t T paper))
    by entry = tt

accepted-twin : (t : Twins) (T : History) → AcceptedAlike T (twinned t T)
accepted-twin t T p =
    λ i. is_accepted_when (sym (phase-twin t T) i) (sym (withdrawn-twin t T p) i) (sym (decision-twin t T p) i)

pub twins_unseen : TwinsUnseen
twins_unseen t H look outside =
    let T : History = take look.upto H in
    hidden_payload look.who T (twinned t T) (record {
      alike = alike-twin t [] T;
      hidden = hidden-twin t look.who T outside [] T outside.untold;
      accepted = accepted-twin t T;
      declared = declared-twin t look.who T outside.one_wrote outside.other_wrote [] T;
    })
    ∙ ap (view look.who) (sym (take-twin t look.upto H))
