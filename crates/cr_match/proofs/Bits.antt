-- SPDX-License-Identifier: Apache-2.0 OR MIT
-- A place is in a set or not.
use Rattle.cr_match.proofs.Common.{◌≡◌, ◌⊎◌, ℕ, ◌+◌, ◌*◌, ◌/◌, ◌%◌, ◌≤◌, List, arith, get_or, cases_eq, bit_at}
use Rattle.cr_match.proofs.Common.{bit_at-lt, inl, inr}
use Rattle.cr_match.specs.Rows.{Has, RowHas}

pub has_cases : (s : List ℕ) (i : ℕ) → Has s i ⊎ (Has s i → ⊥)
unfolding Has
has_cases s i = cases_eq (bit_at (get_or s (i / 64) 0) (i % 64)) 1

pub row_cases : (width : ℕ) (words : List ℕ) (r i : ℕ) → RowHas width words r i ⊎ (RowHas width words r i → ⊥)
unfolding RowHas
row_cases width words r i = cases_eq (bit_at (get_or words (r * width + i / 64) 0) (i % 64)) 1

-- 1 where the set has the place, 0 where it hasn't
abbrev pub bit_in : List ℕ → ℕ → ℕ
bit_in s k = bit_at (get_or s (k / 64) 0) (k % 64)

pub bit_if : (s : List ℕ) (k : ℕ) → Has s k → bit_in s k ≡ 1
unfolding Has
bit_if s k h = h

pub bit_most : (s : List ℕ) (k : ℕ) → bit_in s k ≤ 1
bit_most s k = omega (arith, bit_at-lt (get_or s (k / 64) 0) (k % 64))

pub bit_none : (s : List ℕ) (k : ℕ) → (Has s k → ⊥) → bit_in s k ≡ 0
unfolding Has
bit_none s k none = elim (cases_eq (bit_at (get_or s (k / 64) 0) (k % 64)) 1) [
  | inl e ↦ absurd (none e)
  | inr ne ↦ omega (arith, ne, bit_at-lt (get_or s (k / 64) 0) (k % 64))
]
