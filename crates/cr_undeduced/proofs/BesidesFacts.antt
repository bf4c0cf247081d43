-- SPDX-License-Identifier: Apache-2.0 OR MIT
-- Entries that no rule reads tell nothing that a rule reads: where some stand besides, the facts are the same.
use Rattle.std.proofs.Common.{ℕ, Bool, true, false, ◌≡◌, List, [], ◌∷◌, ◌++◌, refl, sym, ap, ◌∙◌, append-nil}
use Rattle.std.proofs.Common.{Option, Some, None, ◌||◌, ◌&&◌}
use Rattle.std.specs.Prelude.{map, is_some, not}
use Rattle.std.specs.List.{list_any, AllByRecursion}
use Rattle.std.proofs.lemmas.List.Concat.{flat_map-append}
use Rattle.cr_base.specs.declared.entry.Entry.{Entry}
use Rattle.cr_base.specs.declared.entry.Entry.TheVariants as entries
use Rattle.cr_base.specs.declared.entry.Stamped.{Stamped}
use Rattle.cr_base.specs.declared.words.Decision.{Decision}
use Rattle.cr_base.specs.declared.words.Decision.TheVariants.{Accept}
use Rattle.cr_base.specs.declared.words.Phase.TheVariants.{Setup}
use Rattle.cr_base.specs.declared.words.Mode.TheVariants.{Blind}
use Rattle.cr_base.specs.declared.words.Role.TheVariants.{Account}
use Rattle.cr_base.specs.History.{History, Registration, all_told_by, phase_told, mode_told, author_told, conflict_told}
use Rattle.cr_base.specs.History.{ordinal_told, invite_told, registration_told, role_told, withdrawal_told}
use Rattle.cr_base.specs.HistoryFacts.{standing_of, accounts_of, role_of, phase_of, mode_of, authors_of, is_conflict_on}
use Rattle.cr_base.specs.HistoryFacts.{ordinal_of, is_invited, is_withdrawn}
use Rattle.cr_base.specs.Lists.{is_number, last_or}
use Rattle.cr_base.specs.Words.{is_member}
use Rattle.cr_undeduced.specs.MayHaveBeen.{IsUnread, IsBeside}

-- ---- it tells nothing that the rules read

abbrev pub Silent : {A : Type 0} → (ℕ → Entry → List A) → Type 0
Silent told = (m : ℕ) (e : Entry) → IsUnread e → told m e ≡ []

module _ {A : Type 0} (told : ℕ → Entry → List A) (silent : Silent told) where
  besides-silent : (g : History) → AllByRecursion IsBeside g → all_told_by told g ≡ []
  besides-silent [] all = refl
  besides-silent (e ∷ g) all =
      ap (λ xs. xs ++ all_told_by told g) (silent e.stamp.maker e.entry all.0.unread) ∙ besides-silent g all.1

  -- so what is told is told without it
  pub told-besides : (before g after : History) → AllByRecursion IsBeside g
      → all_told_by told ((before ++ g) ++ after) ≡ all_told_by told (before ++ after)
  told-besides before g after all =
      flat_map-append one (before ++ g) after
      ∙ ap (λ xs. xs ++ all_told_by told after)
      (flat_map-append one before g ∙ ap (λ xs. all_told_by told before ++ xs) (besides-silent g all)
      ∙ append-nil (all_told_by told before))
      ∙ sym (flat_map-append one before after)
    where
      one : Stamped → List A
      one e = told e.stamp.maker e.entry

-- each of these is so: nothing is told of an entry that no rule reads
module _ {A : Type 0} (f : Entry → List A) where
  abbrev pub Quiet : Type 0
  Quiet = (paper value : ℕ) (text other : List ℕ) (on : Bool) (decision : Decision)
      → (f (entries.Revised paper text other) ≡ []) × (f (entries.Bid paper value) ≡ [])
      × (f (entries.Tagged paper text on) ≡ []) × (f (entries.Decided paper decision) ≡ [])

  pub quiet : Quiet → (e : Entry) → IsUnread e → f e ≡ []
  quiet q (entries.Revised paper title abstract) is = (q paper 0 title abstract true Accept).0
  quiet q (entries.Bid paper value) is = (q paper value [] [] true Accept).1
  quiet q (entries.Tagged paper tag on) is = (q paper 0 tag [] on Accept).2
  quiet q (entries.Decided paper decision) is = (q paper 0 [] [] true decision).3
  quiet q e is = absurd is

-- ---- two histories that tell the rules the same

abbrev pub SameTold : History → History → Type 1
SameTold A B = (X : Type 0) (told : ℕ → Entry → List X) → Silent told → all_told_by told A ≡ all_told_by told B

pub besides-same : (before g after : History) → AllByRecursion IsBeside g
    → SameTold ((before ++ g) ++ after) (before ++ after)
besides-same before g after all X told silent = told-besides told silent before g after all

module _ (A B : History) (same : SameTold A B) where
  pub also : {X : Type 0} (f : ℕ → Entry → List X) → ((m : ℕ) → Quiet (f m)) → all_told_by f A ≡ all_told_by f B
  also f q = same _ f (λ m e is. quiet (f m) (q m) e is)

  pub phase-also : phase_of A ≡ phase_of B
  phase-also = ap (last_or Setup) (also (λ m e. phase_told e) (λ m p v a b on d. (refl, refl, refl, refl)))

  pub mode-also : mode_of A ≡ mode_of B
  mode-also = ap (last_or Blind) (also (λ m e. mode_told e) (λ m p v a b on d. (refl, refl, refl, refl)))

  pub role-also : (u : Option ℕ) → role_of u A ≡ role_of u B
  role-also u = ap (last_or Account) (also (λ m e. role_told u e) (λ m p v a b on d. (refl, refl, refl, refl)))

  pub authors-also : (p : ℕ) → authors_of p A ≡ authors_of p B
  authors-also p = also (author_told p) (λ m p v a b on d. (refl, refl, refl, refl))

  pub conflict-also : (u : Option ℕ) (p : ℕ) → is_conflict_on u p A ≡ is_conflict_on u p B
  conflict-also u p =
      ap (last_or false) (also (λ m e. conflict_told u p e) (λ m p v a b on d. (refl, refl, refl, refl)))

  pub ordinal-also : (u : Option ℕ) (p : ℕ) → ordinal_of u p A ≡ ordinal_of u p B
  ordinal-also u p = ap (last_or None) (also (λ m e. ordinal_told u p e) (λ m p v a b on d. (refl, refl, refl, refl)))

  pub invited-also : (u : Option ℕ) (p : ℕ) → is_invited u p A ≡ is_invited u p B
  invited-also u p = ap (last_or false) (also (λ m e. invite_told u p e) (λ m p v a b on d. (refl, refl, refl, refl)))

  pub withdrawn-also : (p : ℕ) → is_withdrawn p A ≡ is_withdrawn p B
  withdrawn-also p = ap (last_or false) (also (λ m e. withdrawal_told p e) (λ m p v a b on d. (refl, refl, refl, refl)))

  pub standing-also : (u paper : Option ℕ) → standing_of u paper A ≡ standing_of u paper B
  standing-also u None = λ i. record {
    phase = phase-also i;
    mode = mode-also i;
    role = role-also u i;
    author = false;
    conflicted = false;
    reviewer = false;
    external = false;
  }
  standing-also u (Some p) = λ i. record {
    phase = phase-also i;
    mode = mode-also i;
    role = role-also u i;
    author = list_any (is_number u) (authors-also p i);
    conflicted = list_any (is_number u) (authors-also p i) || conflict-also u p i;
    reviewer = is_some (ordinal-also u p i);
    external = not (is_member (role-also u i)) && invited-also u p i;
  }

  pub registered-also : all_told_by (λ m e. registration_told e) A ≡ all_told_by (λ m e. registration_told e) B
  registered-also = also (λ m e. registration_told e) (λ m p v a b on d. (refl, refl, refl, refl))

  pub accounts-also : accounts_of A ≡ accounts_of B
  accounts-also = λ i. map
      (λ (r : Registration). record { user = r.user; name = r.name; role = role-also (Some r.user) i })
      (registered-also i)
