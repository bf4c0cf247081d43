-- SPDX-License-Identifier: Apache-2.0 OR MIT
-- Sums that are filled up with zeros.
use Rattle.std.proofs.Common.{ℕ, ◌≡◌, ◌+◌, ◌-◌, List, [], ◌∷◌, ◌++◌, length, get_or, set, replicate, append-nil, refl}
use Rattle.std.proofs.Common.{ap, ◌∙◌, arith, zero, suc, zero-add}
use Rattle.cr_base.specs.Papers.{with_more}

-- of one value alone each index reads it, and so does what is behind the last
pub get-replicate : {A : Type 0} (k i : ℕ) (x : A) → get_or (replicate k x) i x ≡ x
get-replicate zero i x = refl
get-replicate (suc k) zero x = refl
get-replicate (suc k) (suc i) x = get-replicate k i x

-- sums that are filled up read the same
padded : (xs : List ℕ) (k i : ℕ) → get_or (xs ++ replicate k 0) i 0 ≡ get_or xs i 0
padded [] k i = get-replicate k i 0
padded (x ∷ xs) k zero = refl
padded (x ∷ xs) k (suc i) = padded xs k i

-- more in sums that are filled up to the index
with_more-by : (i more : ℕ) (xs : List ℕ) (k : ℕ) → k ≡ i + 1 - length xs
    → set (xs ++ replicate k 0) i (get_or xs i 0 + more) ≡ with_more i more xs
with_more-by zero more [] k is = ap (λ m. set (replicate k 0) 0 m) (zero-add more) ∙ ap (λ k. set (replicate k 0) 0 more) is
with_more-by zero more (n ∷ xs) k is =
    let none : k ≡ 0 = omega (arith, is) in
    ap (λ k. (n + more) ∷ (xs ++ replicate k 0)) none ∙ ap (λ ys. (n + more) ∷ ys) (append-nil xs)
with_more-by (suc i) more [] zero is = absurd (omega (arith, is))
with_more-by (suc i) more [] (suc k) is = ap (λ ys. 0 ∷ ys) (with_more-by i more [] k (omega (arith, is)))
with_more-by (suc i) more (n ∷ xs) k is = ap (λ ys. n ∷ ys) (with_more-by i more xs k (omega (arith, is)))

pub with_more-filled : (i more : ℕ) (old filled new : List ℕ) (n : ℕ) → filled ≡ old ++ replicate (i + 1 - length old) 0
    → n ≡ get_or filled i 0 → new ≡ set filled i (n + more) → new ≡ with_more i more old
with_more-filled i more old filled new n is read put =
    put
    ∙ ap (λ m. set filled i (m + more)) (read ∙ ap (λ (xs : List ℕ). get_or xs i 0) is ∙ padded old (i + 1 - length old)
    i)
    ∙ ap (λ (xs : List ℕ). set xs i (get_or old i 0 + more)) is
    ∙ with_more-by i more old (i + 1 - length old) refl
