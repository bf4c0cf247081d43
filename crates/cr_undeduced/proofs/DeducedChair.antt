-- SPDX-License-Identifier: Apache-2.0 OR MIT
-- Where only one chair was ever named, what chairs alone do is hers.
use Rattle.std.proofs.Common.{ℕ, true, ◌≡◌, List, [], ◌∷◌, ◌++◌, refl, sym, ap, subst, ◌∙◌, append_assoc}
use Rattle.std.proofs.Common.{Option, Some, None}
use Rattle.std.specs.Prelude.{unwrap_or}
use Rattle.std.specs.List.{AllByRecursion}
use Rattle.std.proofs.lemmas.Bool.{eqb-true, true≢false}
use Rattle.cr_base.specs.declared.entry.Entry.{Entry}
use Rattle.cr_base.specs.declared.entry.Entry.TheVariants as entries
use Rattle.cr_base.specs.declared.entry.Stamped.{Stamped}
use Rattle.cr_base.specs.declared.words.Role.{Role}
use Rattle.cr_base.specs.declared.words.Role.TheVariants.{Account, Member, Chair}
use Rattle.cr_base.specs.History.{History, all_told, role_told}
use Rattle.cr_base.specs.HistoryFacts.{role_of}
use Rattle.cr_base.specs.Lists.{is_number, last}
use Rattle.cr_base.specs.Words.{is_chair}
use Rattle.cr_history.specs.Invariants.{IsInOrder, IsByChair}
use Rattle.cr_policy.specs.Legal.{Legal}
use Rattle.cr_policy.proofs.LegalLaws.{legal_invariants}
use Rattle.cr_undeduced.specs.Deducible.{NamesNoOther, IsOfChairs, OneChairActs}
use Rattle.cr_undeduced.proofs.Splits.{LastTold, last-told, in-turn, given-some}

all-before : {A : Type 0} (P : A → Type 0) (xs ys : List A) → AllByRecursion P (xs ++ ys) → AllByRecursion P xs
all-before P [] ys all = tt
all-before P (x ∷ xs) ys all = (all.0, all-before P xs ys all.1)

all-at : {A : Type 0} (P : A → Type 0) (xs : List A) (x : A) (ys : List A) → AllByRecursion P (xs ++ x ∷ ys) → P x
all-at P [] x ys all = all.0
all-at P (y ∷ xs) x ys all = all-at P xs x ys all.1

module _ (c : ℕ) where
  abbrev NoOther : Stamped → Type 0
  NoOther e = NamesNoOther c e.entry

  -- whoever is named a chair is she
  named-she : (u : ℕ) (e : Entry) → last (role_told (Some u) e) ≡ Some Chair → NamesNoOther c e → u ≡ c
  named-she u (entries.Named user Account) tells no_other =
      let given = given-some (is_number (Some u) user) Account Chair tells in
      let none : ◌≡◌ {A = Role} Account Chair = given.1 in cc
  named-she u (entries.Named user Member) tells no_other =
      let given = given-some (is_number (Some u) user) Member Chair tells in
      let none : ◌≡◌ {A = Role} Member Chair = given.1 in cc
  named-she u (entries.Named user Chair) tells no_other =
      eqb-true u user (given-some (is_number (Some u) user) Chair Chair tells).0 ∙ no_other
  named-she u (entries.Dismissed user) tells no_other =
      let given = given-some (is_number (Some u) user) Account Chair tells in
      let none : ◌≡◌ {A = Role} Account Chair = given.1 in cc
  named-she u (entries.Registered user name digest) tells no_other = cc
  named-she u e tells no_other = cc

  -- so a chair is
  chair-she : (H : History) (u : ℕ) → AllByRecursion NoOther H → is_chair (role_of (Some u) H) ≡ true → u ≡ c
  chair-she H u all chair = by (last (all_told (role_told (Some u)) H)) refl
    where
      by : (o : Option Role) → last (all_told (role_told (Some u)) H) ≡ o → u ≡ c
      by None told = absurd (true≢false (sym chair ∙ ap (λ o. is_chair (unwrap_or o Account)) told))
      by (Some Account) told = absurd (true≢false (sym chair ∙ ap (λ o. is_chair (unwrap_or o Account)) told))
      by (Some Member) told = absurd (true≢false (sym chair ∙ ap (λ o. is_chair (unwrap_or o Account)) told))
      by (Some Chair) told =
          let at = λ (e : Stamped). role_told (Some u) e.entry in
          let k : LastTold at H Chair = last-told at H Chair told in
          named-she u k.entry.entry k.tells
          (all-at NoOther k.before k.entry k.after (subst (AllByRecursion NoOther) k.there all))

  acted : (before : History) (maker : ℕ) (e : Entry) → AllByRecursion NoOther before → IsByChair before maker e
      → IsOfChairs e → maker ≡ c
  acted before maker (entries.PhaseSet phase) all chair is = chair-she before maker all chair
  acted before maker (entries.ModeSet mode) all chair is = chair-she before maker all chair
  acted before maker (entries.Assigned paper user kind ordinal) all chair is = chair-she before maker all chair
  acted before maker (entries.Unassigned paper user ordinal) all chair is = chair-she before maker all chair
  acted before maker (entries.Decided paper decision) all chair is = chair-she before maker all chair
  acted before maker (entries.DeadlineSet phase until) all chair is = chair-she before maker all chair
  acted before maker (entries.Dismissed user) all chair is = chair-she before maker all chair
  acted before maker (entries.Invited paper user) all chair is = chair-she before maker all chair
  acted before maker (entries.Uninvited paper user) all chair is = chair-she before maker all chair
  acted before maker (entries.Registered user name digest) all chair is = absurd is
  acted before maker e all chair is = absurd is

  all-acted : (H : History) → Legal H → AllByRecursion NoOther H → (before after : History) → before ++ after ≡ H
      → AllByRecursion (λ (e : Stamped). IsOfChairs e.entry → e.stamp.maker ≡ c) after
  all-acted H legal all before [] whole = tt
  all-acted H legal all before (e ∷ after) whole = (
    acted before e.stamp.maker e.entry
        (all-before NoOther before (e ∷ after) (subst (AllByRecursion NoOther) (sym whole) all))
        (in-turn IsInOrder H before e after (sym whole) (legal_invariants H legal).in_order).chair,
    all-acted H legal all (before ++ e ∷ []) after (append_assoc before (e ∷ []) after ∙ whole),
  )

pub one_chair_acts : OneChairActs
one_chair_acts c H legal all = all-acted c H legal all [] H refl
