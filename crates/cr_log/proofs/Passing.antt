-- SPDX-License-Identifier: Apache-2.0 OR MIT
-- The first element that passes a test, and all that pass, where others are put behind them.
use Rattle.std.proofs.Common.{ℕ, Bool, true, false, cond, ◌≡◌, ◌+◌, List, [], ◌∷◌, ◌++◌, length, suc, refl, ap, ◌∙◌}
use Rattle.std.proofs.Common.{arith, Some, None}
use Rattle.std.specs.Prelude.{filter}
use Rattle.std.specs.List.{AllByRecursion, slice_get, position_from}

module _ {A : Type 0} (test : A → Bool) where
  -- where no place is found, nothing passes
  pub none-passes : (xs : List A) (i : ℕ) → position_from test i xs ≡ None → filter test xs ≡ []
  none-passes [] i none = refl
  none-passes (x ∷ xs) i none = by (test x) none (none-passes xs (i + 1))
    where
      by : (b : Bool) → cond b (Some i) (position_from test (i + 1) xs) ≡ None
          → (position_from test (i + 1) xs ≡ None → filter test xs ≡ [])
          → cond b (x ∷ filter test xs) (filter test xs) ≡ []
      by true none rest = cc (none)
      by false none rest = rest none

  -- what is found at a place is the first that passes
  pub record Passes (xs : List A) (i k : ℕ) : Type 0 where
    pub from : ℕ
    pub place : k ≡ i + from
    pub first : A
    pub here : slice_get xs from ≡ Some first
    pub rest : List A
    pub all : filter test xs ≡ first ∷ rest

  pub first-passes : (xs : List A) (i k : ℕ) → position_from test i xs ≡ Some k → Passes xs i k
  first-passes [] i k found = cc (found)
  first-passes (x ∷ xs) i k found = by (test x) refl found (first-passes xs (i + 1) k)
    where
      by : (b : Bool) → test x ≡ b → cond b (Some i) (position_from test (i + 1) xs) ≡ Some k
          → (position_from test (i + 1) xs ≡ Some k → Passes xs (i + 1) k) → Passes (x ∷ xs) i k
      by true is found later =
          let same : i ≡ k = cc (found) in
          record {
            from = 0;
            place = omega (arith, same);
            first = x;
            here = refl;
            rest = filter test xs;
            all = ap (λ (b : Bool). cond b (x ∷ filter test xs) (filter test xs)) is;
          }
      by false is found later =
          let p = later found in
          let at = p.place in
          record {
            from = suc p.from;
            place = omega (arith, at);
            first = p.first;
            here = p.here;
            rest = p.rest;
            all = ap (λ (b : Bool). cond b (x ∷ filter test xs) (filter test xs)) is ∙ p.all;
          }

  -- behind elements that don't pass one that does is the first
  pub first-behind : (xs ys : List A) (y : A) (i : ℕ) → filter test xs ≡ [] → test y ≡ true
      → position_from test i (xs ++ y ∷ ys) ≡ Some (i + length xs)
  first-behind [] ys y i none is =
      let at : i ≡ i + 0 = omega arith in
      ap (λ (b : Bool). cond b (Some i) (position_from test (i + 1) ys)) is ∙ ap (λ (k : ℕ). Some k) at
  first-behind (x ∷ xs) ys y i none is = by (test x) none (λ none. first-behind xs ys y (i + 1) none is)
    where
      by : (b : Bool) → cond b (x ∷ filter test xs) (filter test xs) ≡ []
          → (filter test xs ≡ [] → position_from test (i + 1) (xs ++ y ∷ ys) ≡ Some ((i + 1) + length xs))
          → cond b (Some i) (position_from test (i + 1) (xs ++ y ∷ ys)) ≡ Some (i + suc (length xs))
      by true none rest = cc (none)
      by false none rest = let at : (i + 1) + length xs ≡ i + suc (length xs) =
          omega arith in rest none ∙ ap (λ (k : ℕ). Some k) at

  -- elements of which none passes, and elements of which each does
  pub none-of : (ys : List A) → AllByRecursion (λ (y : A). test y ≡ false) ys → filter test ys ≡ []
  none-of [] all = refl
  none-of (y ∷ ys) all = ap (λ (b : Bool). cond b (y ∷ filter test ys) (filter test ys)) all.0 ∙ none-of ys all.1

  pub all-of : (ys : List A) → AllByRecursion (λ (y : A). test y ≡ true) ys → filter test ys ≡ ys
  all-of [] all = refl
  all-of (y ∷ ys) all = ap (λ (b : Bool). cond b (y ∷ filter test ys) (filter test ys)) all.0
      ∙ ap (λ (zs : List A). y ∷ zs) (all-of ys all.1)

  -- elements of which none passes make no difference to the first that does
  nowhere : (ys : List A) (i : ℕ) → AllByRecursion (λ (y : A). test y ≡ false) ys → position_from test i ys ≡ None
  nowhere [] i all = refl
  nowhere (y ∷ ys) i all =
      ap (λ (b : Bool). cond b (Some i) (position_from test (i + 1) ys)) all.0 ∙ nowhere ys (i + 1) all.1

  pub first-before : (xs ys : List A) (i : ℕ) → AllByRecursion (λ (y : A). test y ≡ false) ys
      → position_from test i (xs ++ ys) ≡ position_from test i xs
  first-before [] ys i all = nowhere ys i all
  first-before (x ∷ xs) ys i all = ap (cond (test x) (Some i)) (first-before xs ys (i + 1) all)
