-- SPDX-License-Identifier: Apache-2.0 OR MIT
-- The places of one word that are fresh, and the first of them.
use Rattle.cr_match.proofs.Common.{◌≡◌, inl, inr, ℕ, ◌+◌, ◌-◌, ◌*◌, ◌/◌, ◌%◌, ◌^◌, ◌<◌, ◌≤◌, Bool, true, false, List}
use Rattle.cr_match.proofs.Common.{get_or, min, ltb, cond, refl, arith, ap, sym, ◌∙◌, w64, nat_tests, cases_lt}
use Rattle.cr_match.proofs.Common.{bit_at-lt, bit_at-zero, bit_and, bit_at, bit_not, Covers}
use Rattle.std.proofs.lemmas.Nat.Bits.{bit_at_and, bit_at_not, ones_shl, bit_at_mask_inside, bit_at_mask_below}
use Rattle.std.proofs.lemmas.Nat.Bits.{bit_at-trailing_zeros}
use Rattle.std.specs.Int.{trailing_zeros}
use Rattle.cr_match.specs.Rows.{Has, RowHas}

from_mask : (from k : ℕ) (c : Bool) → ltb k from ≡ c → from < 64 → k < 64 → bit_at (2 ^ 64 - 2 ^ from) k ≡ cond c 0 1
from_mask from k true e lf lk = bit_at_mask_below from 64 k (grind (arith, nat_tests))
from_mask from k false e lf lk = bit_at_mask_inside from 64 k (grind (arith, nat_tests)) lk

pub fresh_bits : (word mask from : ℕ) → mask < 2 ^ 64 → from < 64 → (k : ℕ) → k < 64
    → bit_at (bit_and (bit_and word (bit_not w64 mask)) ((2 ^ 64 - 1) * 2 ^ from % 2 ^ 64)) k
    ≡ min (min (bit_at word k) (1 - bit_at mask k)) (cond (ltb k from) 0 1)
fresh_bits word mask from lm lf k lk =
    bit_at_and (bit_and word (bit_not w64 mask)) ((2 ^ 64 - 1) * 2 ^ from % 2 ^ 64) k
    ∙ ap (λ x. min x (bit_at ((2 ^ 64 - 1) * 2 ^ from % 2 ^ 64) k)) (bit_at_and word (bit_not w64 mask) k
    ∙ ap (min (bit_at word k)) (bit_at_not w64 mask k lm lk))
    ∙ ap (min (min (bit_at word k) (1 - bit_at mask k)))
    (ap (λ n. bit_at n k) (ones_shl 64 from (omega arith)) ∙ from_mask from k (ltb k from) refl lf lk)

-- what is fresh: of the word, not of the mask, from the place on
abbrev pub IsFresh : ℕ → ℕ → ℕ → ℕ → Type 0
IsFresh word mask from new = (k : ℕ) → k < 64
    → bit_at new k ≡ min (min (bit_at word k) (1 - bit_at mask k)) (cond (ltb k from) 0 1)

covered : (w m from k : ℕ) (c : Bool) → ltb k from ≡ c → from ≤ k → w < 2 → m < 2 → 0 ≡ min (min w (1 - m)) (cond c 0 1)
    → w ≡ 1 → m ≡ 1
covered w m from k true e le lw lm z one =
    absurd (let lt : k < from = grind (arith, nat_tests) in omega (arith, lt, le))
covered w m from k false e le lw lm z one = omega (arith, z, one, lw, lm)

not_fresh : (word mask from new k : ℕ) → IsFresh word mask from new → k < 64 → from ≤ k → bit_at new k ≡ 0
    → bit_at word k ≡ 1 → bit_at mask k ≡ 1
not_fresh word mask from new k fresh lk le z =
    covered (bit_at word k) (bit_at mask k) from k (ltb k from) refl le (bit_at-lt word k) (bit_at-lt mask k)
    (sym z ∙ fresh k lk)

one_of : (w m from k : ℕ) (c : Bool) → ltb k from ≡ c → w < 2 → 1 ≡ min (min w (1 - m)) (cond c 0 1)
    → (from ≤ k) × (w ≡ 1) × (m ≡ 0)
one_of w m from k true e lw h = absurd (omega (arith, h))
one_of w m from k false e lw h =
    let le : from ≤ k = grind (arith, nat_tests) in (le, omega (arith, h, lw), omega (arith, h))

module _ (width : ℕ) (words : List ℕ) (r : ℕ) (mask : List ℕ) (from at first new : ℕ)
    (fresh : IsFresh (get_or words (r * width + at) 0) (get_or mask at 0) first new)
    (low : from ≤ at * 64 + first) (lf : first < 64) (so_far : Covers width words r mask from (at * 64 + first)) where
  more : (n : ℕ) → n ≤ 64 → ((k : ℕ) → k < n → bit_at new k ≡ 0) → Covers width words r mask from (at * 64 + n)
  unfolding Has RowHas
  more n ln none j lj before has = elim (cases_lt j (at * 64 + first)) [
    | inl early ↦ so_far j lj early has
    | inr late ↦ let word : j / 64 ≡ at = omega arith in
        let lt : j % 64 < n = omega arith in
        let le : first ≤ j % 64 = omega arith in
        let h : bit_at (get_or words (r * width + at) 0) (j % 64) ≡ 1 =
        ap (λ k. bit_at (get_or words (r * width + k) 0) (j % 64)) (sym word) ∙ has in
        ap (λ k. bit_at (get_or mask k 0) (j % 64)) word
        ∙ not_fresh (get_or words (r * width + at) 0) (get_or mask at 0) first new (j % 64) fresh (omega arith) le
        (none (j % 64) lt) h
  ]

  pub none_here : new ≡ 0 → Covers width words r mask from ((at + 1) * 64 + 0)
  none_here z =
      let all = more 64 (omega arith) (λ k lt. ap (λ n. bit_at n k) z ∙ bit_at-zero k) in
      λ j lj before. all j lj (omega (arith, before))

  pub found_here : 0 < new → new < 2 ^ 64 → at < width → (t : ℕ) → t ≡ trailing_zeros w64 new
      → (from ≤ at * 64 + t) × (at * 64 + t < 64 * width) × RowHas width words r (at * 64 + t)
      × (Has mask (at * 64 + t) → ⊥) × Covers width words r mask from (at * 64 + t)
  unfolding Has RowHas
  found_here some fits inside t is =
      let tz = bit_at-trailing_zeros w64 new some fits in
      let lt : t < 64 = omega (arith, tz.0, is) in
      let set : bit_at new t ≡ 1 = ap (bit_at new) is ∙ tz.1 in
      let one = one_of (bit_at (get_or words (r * width + at) 0) t) (bit_at (get_or mask at 0) t) first t
      (ltb t first) refl
      (bit_at-lt (get_or words (r * width + at) 0) t) (sym set ∙ fresh t lt) in
      let word : (at * 64 + t) / 64 ≡ at = omega arith in
      let place : (at * 64 + t) % 64 ≡ t = omega arith in (
        omega (arith, low, one.0),
        omega arith,
        ap (λ k. bit_at (get_or words (r * width + k) 0) ((at * 64 + t) % 64)) word
            ∙ ap (bit_at (get_or words (r * width + at) 0)) place ∙ one.1,
        λ h. absurd (let e : bit_at (get_or mask at 0) t ≡ 1 =
            ap (bit_at (get_or mask at 0)) (sym place)
            ∙ ap (λ k. bit_at (get_or mask k 0) ((at * 64 + t) % 64)) (sym word)
            ∙ h in omega (arith, e, one.2)),
        more t (omega (arith, lt)) (λ k l. tz.2 k (omega (arith, l, is))),
      )
