-- SPDX-License-Identifier: Apache-2.0 OR MIT
-- Sets of places, and how many they have.
use Rattle.cr_match.proofs.Common.{◌≡◌, ◌≢◌, inl, inr, ◌↔◌, ℕ, zero, suc, ◌+◌, ◌*◌, ◌/◌, ◌%◌, ◌^◌, ◌<◌, ◌≤◌, List}
use Rattle.cr_match.proofs.Common.{length, get_or, set, get_or-set_other, get_or-set_same, eqb, true, eq-eqb, eqb-true}
use Rattle.cr_match.proofs.Common.{arith, ap, sym, ◌∙◌, w64, cases_eq, shr_and_one, bit_at-lt, bit_at-zero}
use Rattle.cr_match.proofs.Common.{bit_at_set_same, bit_at_set_other, bit_and, bit_or, bit_at, gone}
use Rattle.cr_match.specs.Rows.{Has}

pub marked_tests : (s : List ℕ) (i : ℕ) → (eqb (bit_and (get_or s (i / 64) 0 / 2 ^ (i % 64)) 1) 1 ≡ true) ↔ Has s i
unfolding Has
marked_tests s i = rw shr_and_one (eqb-true _ 1, eq-eqb _ 1)

module _ (s : List ℕ) (i : ℕ) (inside : i < 64 * length s) where
  abbrev with_bit : List ℕ
  with_bit = set s (i / 64) (bit_or (get_or s (i / 64) 0) (1 * 2 ^ (i % 64) % 2 ^ 64))

  here : get_or with_bit (i / 64) 0 ≡ bit_or (get_or s (i / 64) 0) (1 * 2 ^ (i % 64) % 2 ^ 64)
  here = get_or-set_same s (i / 64) (bit_or (get_or s (i / 64) 0) (1 * 2 ^ (i % 64) % 2 ^ 64)) 0 (omega arith)

  pub mark_same : Has with_bit i
  unfolding Has
  mark_same = ap (λ w. bit_at w (i % 64)) here ∙ bit_at_set_same w64 (get_or s (i / 64) 0) (i % 64) (omega arith)

  other_bit : (j : ℕ) → j ≢ i → bit_at (get_or with_bit (j / 64) 0) (j % 64) ≡ bit_at (get_or s (j / 64) 0) (j % 64)
  other_bit j ne = elim (cases_eq (j / 64) (i / 64)) [
    | inl e ↦ let differ : j % 64 ≢ i % 64 = λ same. ne (omega arith) in
        ap (λ k. bit_at (get_or with_bit k 0) (j % 64)) e ∙ ap (λ w. bit_at w (j % 64)) here
        ∙ bit_at_set_other w64 (get_or s (i / 64) 0) (i % 64) (omega arith) (j % 64) differ
        ∙ ap (λ k. bit_at (get_or s k 0) (j % 64)) (sym e)
    | inr differ ↦ ap (λ w. bit_at w (j % 64)) (get_or-set_other s (i / 64) (j / 64)
        (bit_or (get_or s (i / 64) 0) (1 * 2 ^ (i % 64) % 2 ^ 64)) 0 differ)
  ]

  pub mark_others : (j : ℕ) → j ≢ i → Has with_bit j ↔ Has s j
  unfolding Has
  mark_others j ne = ((λ h. sym (other_bit j ne) ∙ h), (λ h. other_bit j ne ∙ h))

  same_below : (n : ℕ) → n ≤ i → gone with_bit n ≡ gone s n
  same_below zero le = omega arith
  same_below (suc n) le =
      omega (arith, same_below n (omega (arith, le)), other_bit n (λ e. absurd (omega (arith, le, e))))

  bit_here : (Has s i → ⊥) → (bit_at (get_or s (i / 64) 0) (i % 64) ≡ 0)
      × (bit_at (get_or with_bit (i / 64) 0) (i % 64) ≡ 1)
  unfolding Has
  bit_here none = (
    elim (cases_eq (bit_at (get_or s (i / 64) 0) (i % 64)) 1) [
      | inl e ↦ absurd (none e)
      | inr ne ↦ omega (arith, ne, bit_at-lt (get_or s (i / 64) 0) (i % 64))
    ],
    mark_same,
  )

  pub mark_count : (n : ℕ) → (Has s i → ⊥) → i < n → gone with_bit n ≡ gone s n + 1
  mark_count zero none lt = absurd (omega (arith, lt))
  mark_count (suc n) none lt = elim (cases_eq n i) [
    | inl e ↦ let b : bit_at (get_or s (n / 64) 0) (n % 64) ≡ 0 =
        ap (λ k. bit_at (get_or s (k / 64) 0) (k % 64)) e ∙ (bit_here none).0 in
        let w : bit_at (get_or with_bit (n / 64) 0) (n % 64) ≡ 1 =
        ap (λ k. bit_at (get_or with_bit (k / 64) 0) (k % 64)) e ∙ (bit_here none).1 in
        omega (arith, same_below n (omega (arith, e)), b, w)
    | inr ne ↦ omega (arith, mark_count n none (omega (arith, lt, ne)), other_bit n ne)
  ]

-- where a place below n is missing, fewer than n are there
pub gone_le : (s : List ℕ) (n : ℕ) → gone s n ≤ n
gone_le s zero = omega arith
gone_le s (suc n) = omega (arith, gone_le s n, bit_at-lt (get_or s (n / 64) 0) (n % 64))

pub gone_none : (s : List ℕ) → ((k : ℕ) → get_or s k 0 ≡ 0) → (n : ℕ) → gone s n ≡ 0
gone_none s zeros zero = omega arith
gone_none s zeros (suc n) =
    omega (arith, gone_none s zeros n, ap (λ w. bit_at w (n % 64)) (zeros (n / 64)), bit_at-zero (n % 64))

none_bit : (s : List ℕ) (i : ℕ) → (Has s i → ⊥) → bit_at (get_or s (i / 64) 0) (i % 64) ≡ 0
unfolding Has
none_bit s i none = elim (cases_eq (bit_at (get_or s (i / 64) 0) (i % 64)) 1) [
  | inl e ↦ absurd (none e)
  | inr ne ↦ omega (arith, ne, bit_at-lt (get_or s (i / 64) 0) (i % 64))
]

pub gone-lt : (s : List ℕ) (i n : ℕ) → (Has s i → ⊥) → i < n → gone s n < n
gone-lt s i zero none lt = absurd (omega (arith, lt))
gone-lt s i (suc n) none lt = elim (cases_eq n i) [
  | inl e ↦ omega (arith, gone_le s n, ap (λ k. bit_at (get_or s (k / 64) 0) (k % 64)) e, none_bit s i none)
  | inr ne ↦ omega (arith, gone-lt s i n none (omega (arith, lt, ne)), bit_at-lt (get_or s (n / 64) 0) (n % 64))
]

pub clear_none : (s : List ℕ) → ((k : ℕ) → get_or s k 0 ≡ 0) → (j : ℕ) → Has s j → ⊥
unfolding Has
clear_none s zeros j has =
    absurd (omega (arith, has, ap (λ w. bit_at w (j % 64)) (zeros (j / 64)), bit_at-zero (j % 64)))
