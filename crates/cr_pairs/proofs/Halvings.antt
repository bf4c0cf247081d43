-- SPDX-License-Identifier: Apache-2.0 OR MIT
-- A search that leaves half at each look: how many looks it takes at most.
use Rattle.std.proofs.Common.{ℕ, ◌≡◌, ◌≤◌, ◌<◌, ◌+◌, ◌-◌, ◌*◌, ◌/◌, ◌^◌, ◌∙◌, ap, sym, subst, arith, suc, Option, Some}
use Rattle.std.proofs.Common.{None}
use Rattle.std.proofs.Math.Nat.{pow-succ', mul_assoc, mul_comm, mul-le-mul_left, le-mul_of_pos_right}
use Rattle.cr_base.specs.Steps.{Takes, Halves}

-- after so many looks at a list of this length, so many are left
abbrev pub Leaves : ℕ → ℕ → Option ℕ → Option ℕ → Type 0
Leaves length left None None = Unit {0}
Leaves length left None (Some n) = ⊥
Leaves length left (Some m) None = ⊥
Leaves length left (Some m) (Some n) = (m ≤ n) × (2 ^ (n - m) * left ≤ length) × (2 ^ (n - m) ≤ 2 * length + 1)

-- of p halvings so far, with n left of m: one more leaves half
halved : (p n k m : ℕ) → 2 * k ≤ n → p * n ≤ m → (2 * p) * k ≤ m
halved p n k m half fits =
    let more : p * (2 * k) ≤ p * n = mul-le-mul_left p half in
    let same : (2 * p) * k ≡ p * (2 * k) = ap (λ (x : ℕ). x * k) (mul_comm 2 p) ∙ mul_assoc p 2 k in
    omega (arith, more, fits, same)

doubled : (p n m : ℕ) → 0 < n → p * n ≤ m → 2 * p ≤ 2 * m + 1
doubled p n m some fits =
    let one : p ≤ p * n = le-mul_of_pos_right p some in
    omega (arith, one, fits)

once-more : (old now new : ℕ) → new ≡ now + 1 → old ≤ now → 2 * 2 ^ (now - old) ≡ 2 ^ (new - old)
once-more old now new is le =
    let more : new - old ≡ suc (now - old) = omega (arith, is, le) in
    sym (ap (λ (k : ℕ). 2 ^ k) more ∙ pow-succ' 2 (now - old))

-- at first all are left
pub leaves-all : (length : ℕ) (s : Option ℕ) → Leaves length length s s
leaves-all length None = tt
leaves-all length (Some n) =
    let none : n - n ≡ 0 = omega arith in
    subst (λ (k : ℕ). (n ≤ n) × (2 ^ k * length ≤ length) × (2 ^ k ≤ 2 * length + 1)) (sym none)
    (omega arith, omega arith, omega arith)

-- one look more
pub leaves-half : (length left half : ℕ) (s t u : Option ℕ) → 0 < left → 2 * half ≤ left → Leaves length left s t
    → Takes 1 t u → Leaves length half s u
leaves-half length left half None None None some less h k = tt
leaves-half length left half None None (Some u) some less h k = elim k [ ]
leaves-half length left half None (Some t) u some less h k = elim h [ ]
leaves-half length left half (Some s) None u some less h k = elim h [ ]
leaves-half length left half (Some s) (Some t) None some less h k = elim k [ ]
leaves-half length left half (Some s) (Some t) (Some u) some less h k =
    let looks = 2 ^ (t - s) in
    let power = once-more s t u k h.0 in (
      omega (arith, h.0, k),
      subst (λ (p : ℕ). p * half ≤ length) power (halved looks left half length less h.1),
      subst (λ (p : ℕ). p ≤ 2 * length + 1) power (doubled looks left length some h.1),
    )

-- whatever is left, the list was halved so often
pub leaves-halves : (length left : ℕ) (s t : Option ℕ) → Leaves length left s t → Halves length s t
leaves-halves length left None None h = tt
leaves-halves length left None (Some t) h = elim h [ ]
leaves-halves length left (Some s) None h = elim h [ ]
leaves-halves length left (Some s) (Some t) h = (h.0, h.2)

-- where a search looks next
pub midway : (low high : ℕ) → low < high
    → (low + (high - low) / 2 < high) × (2 * (high - (low + (high - low) / 2 + 1)) ≤ high - low)
    × (2 * (low + (high - low) / 2 - low) ≤ high - low)
midway low high lt = (omega (arith, lt), omega (arith, lt), omega (arith, lt))
