-- SPDX-License-Identifier: Apache-2.0 OR MIT
-- Numbers of users of whom each is told once: of others of whom all are among them there are no more, and where these
-- are fewer, one of them is free. So a submission has no more entries than there are users, and where it has fewer,
-- there is another user who may be a co-author.
use Rattle.std.proofs.Common.{ℕ, Bool, true, false, cond, ◌≡◌, ◌≤◌, ◌<◌, ◌||◌, List, [], ◌∷◌, ◌++◌, length, eqb, suc}
use Rattle.std.proofs.Common.{refl, sym, ap, ◌∙◌, arith, ◌⊎◌, inl, inr}
use Rattle.std.specs.List.{AllByRecursion, list_any}
use Rattle.std.proofs.lemmas.Bool.{eqb-true, or_left, or_right, true≢false}
use Rattle.std.proofs.lemmas.Bool.Decides.{nat_tests}
use Rattle.std.proofs.lemmas.List.Folds.{list_any-append}
use Rattle.cr_base.specs.Drawn.{besides}

-- ---- users of whom each is told once

-- none of the users is one of these, or was told before
abbrev pub AreNew : List ℕ → List ℕ → Type 0
AreNew these [] = Unit {0}
AreNew these (u ∷ users) = (list_any (λ v. eqb v u) these ≡ false) × AreNew (these ++ u ∷ []) users

pub besides-new : (these users : List ℕ) → AreNew these (besides these users)
besides-new these [] = tt
besides-new these (u ∷ users) =
    by (list_any (λ v. eqb v u) these) refl (besides-new these users) (besides-new (these ++ u ∷ []) users)
  where
    by : (b : Bool) → list_any (λ v. eqb v u) these ≡ b → AreNew these (besides these users)
        → AreNew (these ++ u ∷ []) (besides (these ++ u ∷ []) users)
        → AreNew these (cond b (besides these users) (u ∷ besides (these ++ u ∷ []) users))
    by true is without with_user = without
    by false is without with_user = (is, with_user)

pub new-besides : (these users : List ℕ) → AreNew these users → besides these users ≡ users
new-besides these [] new = refl
new-besides these (u ∷ users) new =
    ap (λ b. cond b (besides these users) (u ∷ besides (these ++ u ∷ []) users)) new.0
    ∙ ap (λ (xs : List ℕ). u ∷ xs) (new-besides (these ++ u ∷ []) users new.1)

pub besides-all : (P : ℕ → Type 0) (these users : List ℕ) → AllByRecursion P users
    → AllByRecursion P (besides these users)
besides-all P these [] all = tt
besides-all P these (u ∷ users) all =
    by (list_any (λ v. eqb v u) these) (besides-all P these users all.1) (besides-all P (these ++ u ∷ []) users all.1)
  where
    by : (b : Bool) → AllByRecursion P (besides these users) → AllByRecursion P (besides (these ++ u ∷ []) users)
        → AllByRecursion P (cond b (besides these users) (u ∷ besides (these ++ u ∷ []) users))
    by true without with_user = without
    by false without with_user = (all.0, with_user)

pub besides-few : (these users : List ℕ) → length (besides these users) ≤ length users
besides-few these [] = omega arith
besides-few these (u ∷ users) =
    by (list_any (λ v. eqb v u) these) (besides-few these users) (besides-few (these ++ u ∷ []) users)
  where
    by : (b : Bool) → length (besides these users) ≤ length users
        → length (besides (these ++ u ∷ []) users) ≤ length users
        → length (cond b (besides these users) (u ∷ besides (these ++ u ∷ []) users)) ≤ length (u ∷ users)
    by true without with_user = omega (arith, without)
    by false without with_user = omega (arith, with_user)

-- ---- no more than there are

-- the user is one of these
abbrev pub IsAmong : List ℕ → ℕ → Type 0
IsAmong users user = list_any (λ v. eqb v user) users ≡ true

-- the users but this one: they are fewer, where it is among them
abbrev without : ℕ → List ℕ → List ℕ
without n [] = []
without n (x ∷ xs) = cond (eqb x n) (without n xs) (x ∷ without n xs)

no-more : (n : ℕ) (xs : List ℕ) → length (without n xs) ≤ length xs
no-more n [] = omega arith
no-more n (x ∷ xs) = by (eqb x n) (no-more n xs)
  where
    by : (b : Bool) → length (without n xs) ≤ length xs
        → length (cond b (without n xs) (x ∷ without n xs)) ≤ suc (length xs)
    by true low = omega (arith, low)
    by false low = omega (arith, low)

fewer : (n : ℕ) (xs : List ℕ) → IsAmong xs n → suc (length (without n xs)) ≤ length xs
fewer n [] among = absurd (true≢false (sym among))
fewer n (x ∷ xs) among = by (eqb x n) among (λ a. fewer n xs a)
  where
    by : (b : Bool) → (b || list_any (λ v. eqb v n) xs) ≡ true
        → (IsAmong xs n → suc (length (without n xs)) ≤ length xs)
        → suc (length (cond b (without n xs) (x ∷ without n xs))) ≤ suc (length xs)
    by true among rest = let low = no-more n xs in omega (arith, low)
    by false among rest = let low = rest among in omega (arith, low)

-- and another is among them where she was
others : (n u : ℕ) (xs : List ℕ) → eqb n u ≡ false
    → list_any (λ v. eqb v u) (without n xs) ≡ list_any (λ v. eqb v u) xs
others n u [] differ = refl
others n u (x ∷ xs) differ = by (eqb x n) refl (others n u xs differ)
  where
    by : (b : Bool) → eqb x n ≡ b → list_any (λ v. eqb v u) (without n xs) ≡ list_any (λ v. eqb v u) xs
        → list_any (λ v. eqb v u) (cond b (without n xs) (x ∷ without n xs))
        ≡ (eqb x u || list_any (λ v. eqb v u) xs)
    by true is rest = rest
        ∙ ap (λ c. c || list_any (λ v. eqb v u) xs) (sym (ap (λ m. eqb m u) (eqb-true x n is) ∙ differ))
    by false is rest = ap (λ c. eqb x u || c) rest

-- each is another than a user told before
apart : (those xs : List ℕ) (x : ℕ) → IsAmong those x → AreNew those xs → AllByRecursion (λ (u : ℕ). eqb x u ≡ false) xs
apart those [] x among new = tt
apart those (u ∷ xs) x among new = (
  by (eqb x u) refl,
  apart (those ++ u ∷ []) xs x
      (list_any-append (λ v. eqb v x) those (u ∷ []) ∙ or_left _ (list_any (λ v. eqb v x) (u ∷ [])) among) new.1,
)
  where
    by : (b : Bool) → eqb x u ≡ b → eqb x u ≡ false
    by false is = is
    by true is =
        absurd (true≢false (sym among ∙ ap (λ w. list_any (λ v. eqb v w) those) (eqb-true x u is) ∙ new.0))

among-without : (x : ℕ) (xs ys : List ℕ) → AllByRecursion (λ (u : ℕ). eqb x u ≡ false) xs
    → AllByRecursion (IsAmong ys) xs → AllByRecursion (IsAmong (without x ys)) xs
among-without x [] ys differ all = tt
among-without x (u ∷ xs) ys differ all = (others x u ys differ.0 ∙ all.0, among-without x xs ys differ.1 all.1)

same : (n : ℕ) (b : Bool) → (eqb n n || b) ≡ true
same n b = or_left (eqb n n) b (grind (arith, nat_tests))

-- users of whom each is told once, all of them among others, are no more than those
few-from : (these xs ys : List ℕ) → AreNew these xs → AllByRecursion (IsAmong ys) xs → length xs ≤ length ys
few-from these [] ys new all = omega arith
few-from these (x ∷ xs) ys new all =
    let differ = apart (these ++ x ∷ []) xs x
    (list_any-append (λ v. eqb v x) these (x ∷ []) ∙ or_right (list_any (λ v. eqb v x) these) _ (same x false)) new.1 in
    let rest = few-from (these ++ x ∷ []) xs (without x ys) new.1 (among-without x xs ys differ all.1) in
    let less = fewer x ys all.0 in
    omega (arith, rest, less)

pub new-few : (xs ys : List ℕ) → AreNew [] xs → AllByRecursion (IsAmong ys) xs → length xs ≤ length ys
new-few xs ys new all = few-from [] xs ys new all

-- one of the users who isn't taken
pub record Free (users taken : List ℕ) : Type 0 where
  pub user : ℕ
  pub among : IsAmong users user
  pub free : list_any (λ v. eqb v user) taken ≡ false

free-or : (users taken : List ℕ) → Free users taken ⊎ AllByRecursion (IsAmong taken) users
free-or [] taken = inr tt
free-or (u ∷ users) taken = by (list_any (λ v. eqb v u) taken) refl (free-or users taken)
  where
    by : (b : Bool) → list_any (λ v. eqb v u) taken ≡ b → Free users taken ⊎ AllByRecursion (IsAmong taken) users
        → Free (u ∷ users) taken ⊎ AllByRecursion (IsAmong taken) (u ∷ users)
    by false is rest = inl (record { user = u; among = same u (list_any (λ v. eqb v u) users); free = is })
    by true is (inl f) =
        inl (record { user = f.user; among = or_right (eqb u f.user) _ f.among; free = f.free })
    by true is (inr all) = inr (is, all)

-- where fewer are taken than there are, one isn't
pub free-user : (users taken : List ℕ) → AreNew [] users → length taken < length users → Free users taken
free-user users taken new few = by (free-or users taken)
  where
    by : Free users taken ⊎ AllByRecursion (IsAmong taken) users → Free users taken
    by (inl free) = free
    by (inr all) = let most = new-few users taken new all in absurd (omega (arith, few, most))
