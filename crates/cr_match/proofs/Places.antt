-- SPDX-License-Identifier: Apache-2.0 OR MIT
-- Places of rows as bits of words.
use Rattle.cr_match.proofs.Common.{◌≡◌, ◌≢◌, inl, inr, ◌↔◌, ℕ, ◌+◌, ◌*◌, ◌/◌, ◌%◌, ◌^◌, ◌<◌, ◌≤◌, List, length, get_or}
use Rattle.cr_match.proofs.Common.{set, get_or-set_other, get_or-set_same, eqb, true, eq-eqb, eqb-true, arith, ap, sym}
use Rattle.cr_match.proofs.Common.{◌∙◌, w64, cases_eq, shr_and_one, bit_at_set_same, bit_at_set_other, bit_and, bit_or}
use Rattle.cr_match.proofs.Common.{bit_at, bit_not, OthersStay}
use Rattle.std.proofs.lemmas.Nat.{div-mul-add}
use Rattle.std.proofs.lemmas.Nat.Bits.{bit_at_clear_same, bit_at_clear_other}
use Rattle.cr_match.specs.Rows.{RowHas}

pub has_tests : (words : List ℕ) (width r i : ℕ)
    → (eqb (bit_and (get_or words (r * width + i / 64) 0 / 2 ^ (i % 64)) 1) 1 ≡ true) ↔ RowHas width words r i
unfolding RowHas
has_tests words width r i = rw shr_and_one (eqb-true _ 1, eq-eqb _ 1)

same_row : (width r s x y : ℕ) → x < width → y < width → s * width + y ≡ r * width + x → s ≡ r
same_row width r s x y lx ly e = sym (div-mul-add s width y ly) ∙ ap (λ n. n / width) e ∙ div-mul-add r width x lx

same_word : (width r s x y : ℕ) → x < width → y < width → s * width + y ≡ r * width + x → y ≡ x
same_word width r s x y lx ly e =
    let p : s * width ≡ r * width = ap (λ n. n * width) (same_row width r s x y lx ly e) in omega arith

-- one word changes, and of it one bit
module _ (width : ℕ) (words : List ℕ) (r i new : ℕ) (inside : i < 64 * width)
    (long : r * width + width ≤ length words) where
  here : get_or (set words (r * width + i / 64) new) (r * width + i / 64) 0 ≡ new
  here = get_or-set_same words (r * width + i / 64) new 0 (omega arith)

  others_stay : ((k : ℕ) → k < 64 → k ≢ i % 64 → bit_at new k ≡ bit_at (get_or words (r * width + i / 64) 0) k)
      → OthersStay width words (set words (r * width + i / 64) new) r i
  unfolding RowHas
  others_stay kept s j within other = elim (cases_eq (s * width + j / 64) (r * width + i / 64)) [
    | inl e ↦ let row = same_row width r s (i / 64) (j / 64) (omega arith) (omega arith) e in
        let word = same_word width r s (i / 64) (j / 64) (omega arith) (omega arith) e in
        let ne : j % 64 ≢ i % 64 = elim other [
          | inl differ ↦ absurd (differ row)
          | inr differ ↦ λ same. differ (omega arith)
        ] in
        let at : bit_at (get_or (set words (r * width + i / 64) new) (s * width + j / 64) 0) (j % 64)
        ≡ bit_at (get_or words (s * width + j / 64) 0) (j % 64) =
        ap (λ k. bit_at (get_or (set words (r * width + i / 64) new) k 0) (j % 64)) e ∙ ap (λ w. bit_at w (j % 64)) here
        ∙ kept (j % 64) (omega arith) ne ∙ ap (λ k. bit_at (get_or words k 0) (j % 64)) (sym e) in
        ((λ h. sym at ∙ h), (λ h. at ∙ h))
    | inr differ ↦ let at = get_or-set_other words (r * width + i / 64) (s * width + j / 64) new 0 differ in
        ((λ h. ap (λ w. bit_at w (j % 64)) (sym at) ∙ h), (λ h. ap (λ w. bit_at w (j % 64)) at ∙ h))
  ]

module _ (width : ℕ) (words : List ℕ) (r i : ℕ) (inside : i < 64 * width)
    (long : r * width + width ≤ length words) where
  pub put_same : RowHas width (set words (r * width + i / 64)
      (bit_or (get_or words (r * width + i / 64) 0) (1 * 2 ^ (i % 64) % 2 ^ 64))) r i
  unfolding RowHas
  put_same = ap (λ w. bit_at w (i % 64)) (here width words r i _ inside long)
      ∙ bit_at_set_same w64 (get_or words (r * width + i / 64) 0) (i % 64) (omega arith)

  pub put_others : OthersStay width words (set words (r * width + i / 64)
      (bit_or (get_or words (r * width + i / 64) 0) (1 * 2 ^ (i % 64) % 2 ^ 64))) r i
  put_others = others_stay width words r i _ inside long
      (λ k lt ne. bit_at_set_other w64 (get_or words (r * width + i / 64) 0) (i % 64) (omega arith) k ne)

  pub cut_same : RowHas width (set words (r * width + i / 64)
      (bit_and (get_or words (r * width + i / 64) 0) (bit_not w64 (1 * 2 ^ (i % 64) % 2 ^ 64)))) r i → ⊥
  unfolding RowHas
  cut_same h =
      let z = ap (λ w. bit_at w (i % 64)) (here width words r i (bit_and (get_or words (r * width + i / 64) 0)
      (bit_not w64 (1 * 2 ^ (i % 64) % 2 ^ 64))) inside long)
      ∙ bit_at_clear_same w64 (get_or words (r * width + i / 64) 0) (i % 64) (omega arith) in
      absurd (omega (arith, z, h))

  pub cut_others : OthersStay width words (set words (r * width + i / 64)
      (bit_and (get_or words (r * width + i / 64) 0) (bit_not w64 (1 * 2 ^ (i % 64) % 2 ^ 64)))) r i
  cut_others = others_stay width words r i _ inside long
      (λ k lt ne. bit_at_clear_other w64 (get_or words (r * width + i / 64) 0) (i % 64) (omega arith) k lt ne)
