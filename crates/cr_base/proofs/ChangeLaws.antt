-- SPDX-License-Identifier: Apache-2.0 OR MIT
-- Lists in which one element was changed: what stands at each index, and by number.
use Rattle.std.proofs.Common.{ℕ, Bool, true, false, cond, ◌≡◌, ◌≤◌, ◌+◌, ◌-◌, List, [], ◌∷◌, eqb, refl, sym, ap, ◌∙◌}
use Rattle.std.proofs.Common.{arith, zero, suc, Option, Some, None}
use Rattle.std.specs.Prelude.{slice_set}
use Rattle.std.specs.List.{slice_get}
use Rattle.std.specs.Option.{option_map, option_map_or}
use Rattle.std.proofs.lemmas.Bool.Decides.{nat_tests}
use Rattle.cr_base.specs.Lists.{numbered, numbers_from}
use Rattle.cr_base.proofs.Small.{eqb-zero-suc, eqb-suc-zero, eqb-suc}

module _ {A : Type 0} (change : A → A) where
  -- the list with the element at this index changed, where there is one
  abbrev pub changed_at : List A → ℕ → List A
  changed_at xs k = option_map_or (λ x. slice_set xs k (change x)) (slice_get xs k) xs

  pub changed_at-suc : (x : A) (xs : List A) (k : ℕ) → changed_at (x ∷ xs) (suc k) ≡ x ∷ changed_at xs k
  changed_at-suc x xs k = by (slice_get xs k)
    where
      by : (o : Option A) → option_map_or (λ y. x ∷ slice_set xs k (change y)) o (x ∷ xs) ≡ x
          ∷ option_map_or (λ y. slice_set xs k (change y)) o xs
      by None = refl
      by (Some y) = refl

  -- an element, or none, as it is where the test holds
  abbrev pub where_changed : Bool → Option A → Option A
  where_changed b o = cond b (option_map change o) o

  none-changed : (b : Bool) → None ≡ where_changed b None
  none-changed true = refl
  none-changed false = refl

  -- the element at this index is changed, and every other is as it was
  get-changed_at : (xs : List A) (k i : ℕ) → slice_get (changed_at xs k) i ≡ where_changed (eqb k i) (slice_get xs i)
  get-changed_at [] k i = none-changed (eqb k i)
  get-changed_at (x ∷ xs) zero zero = refl
  get-changed_at (x ∷ xs) zero (suc i) = ap (λ b. where_changed b (slice_get xs i)) (sym (eqb-zero-suc i))
  get-changed_at (x ∷ xs) (suc k) zero =
      ap (λ (ys : List A). slice_get ys 0) (changed_at-suc x xs k)
      ∙ ap (λ b. where_changed b (Some x)) (sym (eqb-suc-zero k))
  get-changed_at (x ∷ xs) (suc k) (suc i) =
      ap (λ (ys : List A). slice_get ys (suc i)) (changed_at-suc x xs k)
      ∙ get-changed_at xs k i
      ∙ ap (λ b. where_changed b (slice_get xs i)) (eqb-suc k i)

  -- the same by number
  pub numbered-changed_at : (xs : List A) (n m : ℕ) → 1 ≤ n
      → numbered (changed_at xs (n - 1)) m ≡ where_changed (eqb n m) (numbered xs m)
  numbered-changed_at xs n zero low = none-changed (eqb n 0)
  numbered-changed_at xs n (suc i) low =
      get-changed_at xs (n - 1) i ∙ ap (λ b. where_changed b (slice_get xs i)) (step n i low)
    where
      step : (n i : ℕ) → 1 ≤ n → eqb (n - 1) i ≡ eqb n (suc i)
      step n i low = grind (arith, nat_tests)

  -- and the numbers are the same
  pub numbers_from-changed_at : (n : ℕ) (xs : List A) (k : ℕ) → numbers_from n (changed_at xs k) ≡ numbers_from n xs
  numbers_from-changed_at n [] k = refl
  numbers_from-changed_at n (x ∷ xs) zero = refl
  numbers_from-changed_at n (x ∷ xs) (suc k) =
      ap (numbers_from n) (changed_at-suc x xs k) ∙ ap (λ ns. n ∷ ns) (numbers_from-changed_at (n + 1) xs k)
