-- SPDX-License-Identifier: Apache-2.0 OR MIT
-- How the entries of a command are marked.
use Rattle.std.proofs.Common.{ℕ, Bool, true, false, ◌≡◌, ◌≤◌, ◌+◌, List, [], ◌∷◌, ◌++◌, length, take, refl, sym, ap}
use Rattle.std.proofs.Common.{◌∙◌, arith, zero, suc, Some}
use Rattle.std.specs.Prelude.{nat_lt, slice_get}
use Rattle.std.proofs.lemmas.Bool.Decides.{nat_tests}
use Rattle.std.proofs.lemmas.List.{take_all}
use Rattle.std.proofs.lemmas.Option.{none-some, same_Some}
use Rattle.std.proofs.lemmas.Bool.{le-ltb}
use Rattle.cr_base.specs.declared.entry.Entry.{Entry}
use Rattle.cr_base.specs.declared.entry.Stamp.{Stamp}
use Rattle.cr_base.specs.declared.entry.Stamped.{Stamped}
use Rattle.cr_base.specs.Drawn.{stamped, grouped}

shifted : (n m : ℕ) → nat_lt (suc n) (suc m) ≡ nat_lt n m
shifted n m = by (nat_lt n m) refl
  where
    by : (b : Bool) → nat_lt n m ≡ b → nat_lt (suc n) (suc m) ≡ b
    by true h = grind (arith, nat_tests, h)
    by false h = grind (arith, nat_tests, h)

not-last : (n m : ℕ) → n + 1 ≤ m → nat_lt n m ≡ true
not-last n m h = grind (arith, nat_tests, h)

-- one more of them
marked-more : (stamp : Stamp) (es : List Entry) (i : ℕ) (e : Entry) (more : Bool) → slice_get es i ≡ Some e
    → more ≡ nat_lt (suc i) (length es)
    → take (suc i) (grouped stamp es) ≡ take i (grouped stamp es) ++ stamped stamp more e ∷ []
marked-more stamp [] i e more h is = absurd (none-some e h)
marked-more stamp (x ∷ []) zero e more h is =
    let last : false ≡ more = sym (is ∙ le-ltb 1 1 (omega arith)) in
    let same : x ≡ e = same_Some x e h in
    λ j. stamped stamp (last j) (same j) ∷ []
marked-more stamp (x ∷ []) (suc i) e more h is = absurd (none-some e h)
marked-more stamp (x ∷ y ∷ es) zero e more h is =
    let other : true ≡ more = sym (is ∙ not-last 1 (suc (suc (length es))) (omega arith)) in
    let same : x ≡ e = same_Some x e h in
    λ j. stamped stamp (other j) (same j) ∷ []
marked-more stamp (x ∷ y ∷ es) (suc i) e more h is =
    ap (λ (rest : List Stamped). stamped stamp true x ∷ rest)
    (marked-more stamp (y ∷ es) i e more h (is ∙ shifted (suc i) (suc (length es))))

length-grouped : (stamp : Stamp) (es : List Entry) → length (grouped stamp es) ≡ length es
length-grouped stamp [] = refl
length-grouped stamp (x ∷ []) = refl
length-grouped stamp (x ∷ y ∷ es) = ap suc (length-grouped stamp (y ∷ es))

-- the first
pub group-first : (stamp : Stamp) (first : Entry) (others : List Entry) (count : ℕ) → count ≡ length others
    → (items new : List Stamped) → items ≡ [] → new ≡ items ++ stamped stamp (nat_lt 0 count) first ∷ []
    → new ≡ take (0 + 1) (grouped stamp (first ∷ others))
group-first stamp first others count counted items new none pushed =
    pushed
    ∙ ap (λ (xs : List Stamped). xs ++ stamped stamp (nat_lt 0 count) first ∷ []) none
    ∙ sym (marked-more stamp (first ∷ others) 0 first (nat_lt 0 count) refl
    (ap (nat_lt 0) counted ∙ sym (shifted 0 (length others))))

-- one more
pub group-more : (stamp : Stamp) (first : Entry) (others : List Entry) (count : ℕ) → count ≡ length others
    → (i : ℕ) (e : Entry) (items new : List Stamped) → slice_get others i ≡ Some e
    → items ≡ take (i + 1) (grouped stamp (first ∷ others))
    → new ≡ items ++ stamped stamp (nat_lt (i + 1) count) e ∷ []
    → new ≡ take ((i + 1) + 1) (grouped stamp (first ∷ others))
group-more stamp first others count counted i e items new at so pushed =
    let is : i + 1 ≡ suc i = omega arith in
    let later : suc (suc i) ≡ (i + 1) + 1 = omega arith in
    let more : nat_lt (i + 1) count ≡ nat_lt (suc (suc i)) (suc (length others)) =
    ap (λ (k : ℕ). nat_lt k count) is ∙ ap (nat_lt (suc i)) counted ∙ sym (shifted (suc i) (length others)) in
    let step : take (suc (suc i)) (grouped stamp (first ∷ others)) ≡ take (suc i) (grouped stamp (first ∷ others))
    ++ stamped stamp (nat_lt (i + 1) count) e ∷ [] =
    marked-more stamp (first ∷ others) (suc i) e (nat_lt (i + 1) count) at more in
    pushed
    ∙ ap (λ (xs : List Stamped). xs ++ stamped stamp (nat_lt (i + 1) count) e ∷ []) so
    ∙ ap (λ (k : ℕ). take k (grouped stamp (first ∷ others)) ++ stamped stamp (nat_lt (i + 1) count) e ∷ []) is
    ∙ sym step
    ∙ ap (λ (k : ℕ). take k (grouped stamp (first ∷ others))) later

-- none is left
pub group-all : (stamp : Stamp) (first : Entry) (others : List Entry) (count : ℕ) → count ≡ length others
    → (i : ℕ) (items : List Stamped) → count ≤ i → items ≡ take (i + 1) (grouped stamp (first ∷ others))
    → items ≡ grouped stamp (first ∷ others)
group-all stamp first others count counted i items end so =
    so ∙ take_all (i + 1) (grouped stamp (first ∷ others))
    (enough (length (grouped stamp (first ∷ others))) (length others) (length-grouped stamp (first ∷ others)) counted)
  where
    enough : (all left : ℕ) → all ≡ suc left → count ≡ left → all ≤ i + 1
    enough all left is same = omega (arith, end, is, same)
