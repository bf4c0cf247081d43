-- SPDX-License-Identifier: Apache-2.0 OR MIT
-- What comes next in a row.
use Rattle.cr_match.proofs.Common.{◌≡◌, ℕ, ◌*◌, ◌<◌, ◌≤◌, ◌∙◌, Bool, List, Option, Some, None, IfNone, arith, sym}
use Rattle.cr_match.proofs.Common.{subst, Has, RowHas, Covers, is_some, true, false}
use Rattle.std.proofs.Common.{IfSome}

-- a place of the row that is below `most`, since no other is in it
pub some_row : (width most r from : ℕ) (words w mask m : List ℕ) (o : Option ℕ) → words ≡ w → mask ≡ m
    → ((j : ℕ) → j < 64 * width → RowHas width w r j → j < most)
    → IfSome o (λ i. (from ≤ i) × (i < 64 * width) × RowHas width words r i × (Has mask i → ⊥)
    × Covers width words r mask from i)
    → IfSome o (λ i. (from ≤ i) × (i < most) × RowHas width w r i × (Has m i → ⊥)
    × ((j : ℕ) → from ≤ j → j < i → RowHas width w r j → Has m j))
some_row width most r from words w mask m None ew em inside h = tt
some_row width most r from words w mask m (Some i) ew em inside h =
    let at : RowHas width w r i = subst (λ x. RowHas width x r i) ew h.2 in (
      h.0,
      inside i h.1 at,
      at,
      λ has. h.3 (subst (λ x. Has x i) (sym em) has),
      λ j lj li has. subst (λ x. Has x j) em (h.4 j lj li (subst (λ x. RowHas width x r j) (sym ew) has)),
    )

pub none_row : (width most r from : ℕ) (words w mask m : List ℕ) (o : Option ℕ) → words ≡ w → mask ≡ m
    → most ≤ 64 * width → IfNone o (Covers width words r mask from (64 * width))
    → IfNone o ((j : ℕ) → from ≤ j → j < most → RowHas width w r j → Has m j)
none_row width most r from words w mask m (Some i) ew em long h = tt
none_row width most r from words w mask m None ew em long h = λ j lj lm has.
    subst (λ x. Has x j) em (h j lj (omega (arith, lm, long)) (subst (λ x. RowHas width x r j) (sym ew) has))

-- tests that failed

pub if_none : (o : Option ℕ) {P : Type 0} → is_some o ≡ false → IfNone o P → P
if_none None e h = h
if_none (Some x) e h = absurd (let c = e in cc)

pub refuted : {c : Bool} {A : Type 0} → (A → c ≡ true) → c ≡ false → A → ⊥
refuted yes' no' a = absurd (let e = sym (yes' a) ∙ no' in cc)
