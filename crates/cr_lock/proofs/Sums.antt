-- SPDX-License-Identifier: Apache-2.0 OR MIT
-- Sums over the states of all passes.
use Rattle.std.proofs.Common.{◌≡◌, ◌≢◌, ℕ, zero, suc, ◌+◌, ◌<◌, ◌≤◌, true, false, List, [], ◌∷◌, ◌++◌, set, refl, ap}
use Rattle.std.proofs.Common.{sym, arith, ◌⊎◌, ⊎_elim, if◌then◌else◌}
use Rattle.std.proofs.lemmas.Bool.Decides.{nat_tests}
use mathlib.Core.Option.{some, some-injective, some-ne-none}
use lib.ListN.{get_elem?}
use Rattle.cr_lock.specs.declared.pass_state.Turn.{Turn}
use Rattle.cr_lock.specs.Counts.{within, total, Every}
use Rattle.cr_lock.specs.Turns.{insert_turn, merged, comes_after}

pub weight_at : {X : Type 0} (f : X → ℕ) (xs : List X) (j : ℕ) (x : X) → get_elem? xs j ≡ some x → f x ≤ total f xs
weight_at f [] j x e = absurd (some-ne-none x (sym e))
weight_at f (z ∷ xs) zero x e = let same : f z ≡ f x = ap f (some-injective z x e) in omega arith
weight_at f (z ∷ xs) (suc j) x e = let r : f x ≤ total f xs = weight_at f xs j x e in omega arith

module _ {X : Type 0} (f : X → ℕ) where
  pub total_append : (xs ys : List X) → total f (xs ++ ys) ≡ total f xs + total f ys
  total_append [] ys = omega arith
  total_append (x ∷ xs) ys = let r : total f (xs ++ ys) ≡ total f xs + total f ys = total_append xs ys in omega arith

  pub total_set : (xs : List X) (j : ℕ) (x y : X) → get_elem? xs j ≡ some x
      → total f (set xs j y) + f x ≡ total f xs + f y
  total_set [] j x y e = absurd (some-ne-none x (sym e))
  total_set (z ∷ xs) zero x y e = let same : f z ≡ f x = ap f (some-injective z x e) in omega arith
  total_set (z ∷ xs) (suc j) x y e = let r : total f (set xs j y) + f x ≡ total f xs + f y =
      total_set xs j x y e in omega arith

  pub total_at : (xs : List X) (j : ℕ) (x : X) → get_elem? xs j ≡ some x → f x ≤ total f xs
  total_at [] j x e = absurd (some-ne-none x (sym e))
  total_at (z ∷ xs) zero x e = let same : f z ≡ f x = ap f (some-injective z x e) in omega arith
  total_at (z ∷ xs) (suc j) x e = let r : f x ≤ total f xs = total_at xs j x e in omega arith

  pub total_two : (xs : List X) (i j : ℕ) (x y : X) → i ≢ j → get_elem? xs i ≡ some x → get_elem? xs j ≡ some y
      → f x + f y ≤ total f xs
  total_two [] i j x y n a b = absurd (some-ne-none x (sym a))
  total_two (z ∷ xs) zero zero x y n a b = absurd (n refl)
  total_two (z ∷ xs) zero (suc j) x y n a b = let same : f z ≡ f x =
      ap f (some-injective z x a) in let r : f y ≤ total f xs = total_at xs j y b in omega arith
  total_two (z ∷ xs) (suc i) zero x y n a b = let same : f z ≡ f y =
      ap f (some-injective z y b) in let r : f x ≤ total f xs = total_at xs i x a in omega arith
  total_two (z ∷ xs) (suc i) (suc j) x y n a b = let r : f x + f y ≤ total f xs =
      total_two xs i j x y (λ e. n (ap suc e)) a b in omega arith

  total_le : (g : X → ℕ) (xs : List X) → ((i : ℕ) (y : X) → get_elem? xs i ≡ some y → g y ≤ f y)
      → total g xs ≤ total f xs
  total_le g [] le = omega arith
  total_le g (z ∷ xs) le = let a : g z ≤ f z = le 0 z refl in let r : total g xs ≤ total f xs =
      total_le g xs (λ i y. le (suc i) y) in omega arith

  -- where g is at most f at each, the sums are as far apart as at x
  pub total_gap : (g : X → ℕ) (xs : List X) (j : ℕ) (x : X) → ((i : ℕ) (y : X) → get_elem? xs i ≡ some y → g y ≤ f y)
      → get_elem? xs j ≡ some x
      → total g xs + f x ≤ total f xs + g x
  total_gap g [] j x le e = absurd (some-ne-none x (sym e))
  total_gap g (z ∷ xs) zero x le e = let same : f z ≡ f x = ap f (some-injective z x e) in let same' : g z ≡ g x =
      ap g (some-injective z x e) in
      let r : total g xs ≤ total f xs = total_le g xs (λ i y. le (suc i) y) in omega arith
  total_gap g (z ∷ xs) (suc j) x le e = let a : g z ≤ f z = le 0 z refl in
      let r : total g xs + f x ≤ total f xs + g x = total_gap g xs j x (λ i y. le (suc i) y) e in omega arith

  total_none : (weight : X → ℕ) (xs : List X) → total weight xs ≡ 0
      → ((i : ℕ) (y : X) → get_elem? xs i ≡ some y → weight y ≡ 0 → f y ≡ 0) → total f xs ≡ 0
  total_none weight [] t zeros = refl
  total_none weight (z ∷ xs) t zeros = let here : f z ≡ 0 = zeros 0 z refl (omega arith) in
      let r : total f xs ≡ 0 = total_none weight xs (omega arith) (λ i y. zeros (suc i) y) in omega arith

  -- where x alone has a weight, the sum of f is that of x
  pub total_only : (weight : X → ℕ) (xs : List X) (j : ℕ) (x : X) → get_elem? xs j ≡ some x → total weight xs ≡ weight x
      → ((i : ℕ) (y : X) → get_elem? xs i ≡ some y → weight y ≡ 0 → f y ≡ 0) → total f xs ≡ f x
  total_only weight [] j x e t zeros = absurd (some-ne-none x (sym e))
  total_only weight (z ∷ xs) zero x e t zeros = let same : f z ≡ f x = ap f (some-injective z x e) in
      let same' : weight z ≡ weight x = ap weight (some-injective z x e) in
      let r : total f xs ≡ 0 = total_none weight xs (omega arith) (λ i y. zeros (suc i) y) in omega arith
  total_only weight (z ∷ xs) (suc j) x e t zeros = let at : weight x ≤ total weight xs = weight_at weight xs j x e in
      let r : total f xs ≡ f x = total_only weight xs j x e (omega arith) (λ i y. zeros (suc i) y) in
      let here : f z ≡ 0 = zeros 0 z refl (omega arith) in omega arith

-- f of a merged list
module _ {T E : Type 0} (f : Turn T E → ℕ) where
  pub total_insert : (t : Turn T E) (us : List (Turn T E)) → total f (insert_turn t us) ≡ f t + total f us
  total_insert t [] = refl
  total_insert t (u ∷ us) =
      elim (comes_after t u) as (λ b. total f (if b then u ∷ insert_turn t us else t ∷ u ∷ us) ≡ f t
      + (f u + total f us)) [
        | true ↦ (let r : total f (insert_turn t us) ≡ f t + total f us = total_insert t us in omega arith)
        | false ↦
            refl
      ]

  pub total_merged : (ts us : List (Turn T E)) → total f (merged ts us) ≡ total f ts + total f us
  total_merged [] us = omega arith
  total_merged (t ∷ ts) us = let r : total f (merged ts us) ≡ total f ts + total f us = total_merged ts us in
      let p : total f (insert_turn t (merged ts us)) ≡ f t + total f (merged ts us) =
      total_insert t (merged ts us) in omega arith

module _ {T E : Type 0} (P : Turn T E → Type 0) where
  pub every_insert : (t : Turn T E) (us : List (Turn T E)) → P t → Every P us → Every P (insert_turn t us)
  every_insert t [] p e = (p, tt)
  every_insert t (u ∷ us) p e = elim (comes_after t u) as
      (λ b. Every P (if b then u ∷ insert_turn t us else t ∷ u ∷ us))
      [ true ↦ (e.0, every_insert t us p e.1) | false ↦ (p, e) ]

  pub every_merged : (ts us : List (Turn T E)) → Every P ts → Every P us → Every P (merged ts us)
  every_merged [] us e d = d
  every_merged (t ∷ ts) us e d = every_insert t (merged ts us) e.0 (every_merged ts us e.1 d)

pub within_join : (low mid high t : ℕ) → low ≤ mid → mid ≤ high
    → within low mid t + within mid high t ≡ within low high t
within_join low mid high t a b = grind (arith, nat_tests)

pub within_one : (low high t : ℕ) → within low high t ≤ 1
within_one low high t = grind (arith, nat_tests)

pub within_in : (low high t : ℕ) → low ≤ t → t < high → within low high t ≡ 1
within_in low high t a b = grind (arith, nat_tests)

pub within_out : (low high t : ℕ) → high ≤ t ⊎ t < low → within low high t ≡ 0
within_out low high t h = ⊎_elim (λ a. grind (arith, nat_tests)) (λ a. grind (arith, nat_tests)) h

pub within_is : (low high t : ℕ) → 0 < within low high t → (low ≤ t) × (t < high)
within_is low high t h = (grind (arith, nat_tests), grind (arith, nat_tests))
