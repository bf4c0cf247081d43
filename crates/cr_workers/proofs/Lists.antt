-- SPDX-License-Identifier: Apache-2.0 OR MIT
-- Lists of doors that are cut, and one door that was taken out and put back.
use Rattle.std.proofs.Common.{◌≡◌, ◌∙◌, ℕ, zero, suc, ◌+◌, ◌≤◌, List, [], ◌∷◌, ◌++◌, length, take, drop, refl, ap}
use Rattle.std.proofs.Common.{arith, length-append}
use Rattle.cr_lock.specs.Counts.{Every, total}
use Rattle.cr_lock.proofs.Sums.{total_append}

pub cut : {A : Type 0} (n : ℕ) (xs : List A) → xs ≡ take n xs ++ drop n xs
cut zero xs = refl
cut (suc n) [] = refl
cut (suc n) (x ∷ xs) = ap (λ ys. x ∷ ys) (cut n xs)

pub every-take : {A : Type 0} (P : A → Type 0) (n : ℕ) (xs : List A) → Every P xs → Every P (take n xs)
every-take P zero xs e = tt
every-take P (suc n) [] e = tt
every-take P (suc n) (x ∷ xs) e = (e.0, every-take P n xs e.1)

pub every-drop : {A : Type 0} (P : A → Type 0) (n : ℕ) (xs : List A) → Every P xs → Every P (drop n xs)
every-drop P zero xs e = e
every-drop P (suc n) [] e = tt
every-drop P (suc n) (x ∷ xs) e = every-drop P n xs e.1

-- of a list of one at most, what stands before its last
pub alone : {A : Type 0} (xs ys : List A) (y : A) → xs ≡ ys ++ y ∷ [] → length xs ≤ 1 → ys ≡ []
alone xs [] y is few = refl
alone xs (z ∷ zs) y is few = absurd (let n = ap length is ∙ length-append (z ∷ zs) (y ∷ []) in omega (arith, n, few))

pub total-cut : {A : Type 0} (f : A → ℕ) (n : ℕ) (xs ys zs : List A) → ys ≡ take n xs → zs ≡ drop n xs
    → total f ys + total f zs ≡ total f xs
total-cut f n xs ys zs front back =
    let a = ap (total f) front in
    let b = ap (total f) back in
    let w = ap (total f) (cut n xs) ∙ total_append f (take n xs) (drop n xs) in
    omega (arith, a, b, w)
