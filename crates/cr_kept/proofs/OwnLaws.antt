-- SPDX-License-Identifier: Apache-2.0 OR MIT
-- Values that carry the number of their paper: what is read of a paper and how one more comes in, told of the values
-- alone.
use Rattle.std.proofs.Common.{ℕ, Bool, true, false, cond, ◌≡◌, List, [], ◌∷◌, ◌++◌, eqb, refl, ap, ◌∙◌, zero, suc}
use Rattle.std.specs.Prelude.{nat_le, not, filter}
use Rattle.std.specs.Cmp.Derive.{both_true}
use Rattle.std.specs.List.{list_all}
use Rattle.std.proofs.lemmas.Bool.{and_parts, eqb-true, eq-eqb}
use Rattle.std.proofs.lemmas.List.{map-append}
use Rattle.cr_base.specs.declared.filed.Filed.{Filed}
use Rattle.cr_base.specs.Filed.{filed, with_filed, filed_of}
use Rattle.cr_base.proofs.SortedLists.{list_all-append, list_all-filter}
use Rattle.cr_kept.specs.Drawers.{with_changed}
use Rattle.cr_kept.specs.Own.{values_in, AreOwn}

module _ {V : Type 0} (paper_of : V → ℕ) where
  abbrev is_own : Filed V → Bool
  is_own x = eqb x.paper (paper_of x.value)

  -- a test of the papers keeps the same of the values alone
  own-filter : (test : ℕ → Bool) (xs : List (Filed V)) → AreOwn paper_of xs
      → values_in (filter (λ (x : Filed V). test x.paper) xs) ≡ filter (λ (v : V). test (paper_of v)) (values_in xs)
  own-filter test [] own = refl
  own-filter test (x ∷ xs) own =
      let parts = and_parts (is_own x) (list_all is_own xs) own in
      ap (λ (b : Bool). values_in (cond b (x ∷ kept) kept)) (ap test (eqb-true x.paper (paper_of x.value) parts.0))
      ∙ by (test (paper_of x.value)) (own-filter test xs parts.1)
    where
      kept : List (Filed V)
      kept = filter (λ (y : Filed V). test y.paper) xs

      by : (b : Bool) → values_in kept ≡ filter (λ (v : V). test (paper_of v)) (values_in xs)
          → values_in (cond b (x ∷ kept) kept) ≡ cond b (x.value ∷ filter (λ (v : V). test (paper_of v)) (values_in xs))
          (filter (λ (v : V). test (paper_of v)) (values_in xs))
      by true rest = ap (λ (vs : List V). x.value ∷ vs) rest
      by false rest = rest

  -- those of a paper
  pub own-of : (p : ℕ) (xs : List (Filed V)) → AreOwn paper_of xs
      → filed_of p xs ≡ filter (λ (v : V). eqb p (paper_of v)) (values_in xs)
  own-of p xs own = own-filter (λ n. eqb p n) xs own

  -- one more, behind those of its paper and of papers with lower numbers
  pub own-with : (v : V) (xs : List (Filed V)) → AreOwn paper_of xs
      → values_in (with_filed (filed (paper_of v) v) xs)
      ≡ filter (λ (w : V). nat_le (paper_of w) (paper_of v)) (values_in xs) ++ v
      ∷ filter (λ (w : V). not (nat_le (paper_of w) (paper_of v))) (values_in xs)
  own-with v xs own =
      let low : List (Filed V) = filter (λ (x : Filed V). nat_le x.paper (paper_of v)) xs in
      let high : List (Filed V) = filter (λ (x : Filed V). not (nat_le x.paper (paper_of v))) xs in
      map-append (λ (x : Filed V). x.value) low (filed (paper_of v) v ∷ high)
      ∙ ap (λ (vs : List V). vs ++ v ∷ values_in high) (own-filter (λ n. nat_le n (paper_of v)) xs own)
      ∙ ap (λ (vs : List V). filter (λ (w : V). nat_le (paper_of w) (paper_of v)) (values_in xs) ++ v ∷ vs)
      (own-filter (λ n. not (nat_le n (paper_of v))) xs own)

  pub own-with_filed : (v : V) (xs : List (Filed V)) → AreOwn paper_of xs
      → AreOwn paper_of (with_filed (filed (paper_of v) v) xs)
  own-with_filed v xs own =
      let low : Filed V → Bool = λ x. nat_le x.paper (paper_of v) in
      let high : Filed V → Bool = λ x. not (nat_le x.paper (paper_of v)) in
      list_all-append is_own (filter low xs) (filed (paper_of v) v ∷ filter high xs) (list_all-filter is_own low xs own)
      (both_true (eq-eqb (paper_of v) (paper_of v) refl) (list_all-filter is_own high xs own))

  -- another in the place of one of the paper's
  pub own-with_changed : (p k : ℕ) (v : V) (xs : List (Filed V)) → p ≡ paper_of v → AreOwn paper_of xs
      → AreOwn paper_of (with_changed p k v xs)
  own-with_changed p k v [] is own = refl
  own-with_changed p zero v (x ∷ xs) is own = by (eqb p x.paper) (own-with_changed p 0 v xs is parts.1)
    where
      parts : (is_own x ≡ true) × (list_all is_own xs ≡ true)
      parts = and_parts (is_own x) (list_all is_own xs) own

      by : (b : Bool) → list_all is_own (with_changed p 0 v xs) ≡ true
          → list_all is_own (cond b (filed p v ∷ xs) (x ∷ with_changed p 0 v xs)) ≡ true
      by true rest = both_true (eq-eqb p (paper_of v) is) parts.1
      by false rest = both_true parts.0 rest
  own-with_changed p (suc k) v (x ∷ xs) is own =
      both_true parts.0 (by (eqb p x.paper) (own-with_changed p k v xs is parts.1)
      (own-with_changed p (suc k) v xs is parts.1))
    where
      parts : (is_own x ≡ true) × (list_all is_own xs ≡ true)
      parts = and_parts (is_own x) (list_all is_own xs) own

      by : (b : Bool) → list_all is_own (with_changed p k v xs) ≡ true
          → list_all is_own (with_changed p (suc k) v xs) ≡ true
          → list_all is_own (cond b (with_changed p k v xs) (with_changed p (suc k) v xs)) ≡ true
      by true next same = next
      by false next same = same
