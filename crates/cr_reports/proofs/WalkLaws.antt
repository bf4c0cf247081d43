-- SPDX-License-Identifier: Apache-2.0 OR MIT
-- Walks over the papers by their numbers.
use Rattle.std.proofs.Common.{ℕ, Bool, true, false, cond, ◌≡◌, ◌≤◌, ◌<◌, ◌+◌, List, [], ◌∷◌, ◌++◌, append_assoc, length}
use Rattle.std.proofs.Common.{take, refl, sym, ap, subst, ◌∙◌, arith}
use Rattle.std.specs.Prelude.{filter}
use Rattle.std.specs.List.{flat_map}
use Rattle.std.proofs.lemmas.Grind.{flat_map-append}
use Rattle.std.proofs.lemmas.List.{append-nil, take_all, take_more}
use Rattle.cr_base.specs.Lists.{numbers_from}
use Rattle.cr_base.proofs.ListLaws.{length-numbers_from}
use Rattle.cr_view.proofs.AcceptedLaws.{get_or-numbers_from}

module _ {B : Type 0} (papers : List B) where
  -- the numbers of the papers up to one
  abbrev pub first : ℕ → List ℕ
  first i = take i (numbers_from 1 papers)

  -- one more
  pub first-step : (i n : ℕ) → i < length papers → n ≡ i + 1 → first (i + 1) ≡ first i ++ n ∷ []
  first-step i n within is =
      take_more (numbers_from 1 papers) i 0 (subst (λ (k : ℕ). i < k) (sym (length-numbers_from 1 papers)) within)
      ∙ ap (λ (m : ℕ). first i ++ m ∷ []) (get_or-numbers_from 1 i 0 papers within ∙ from_one i n is)
    where
      from_one : (i n : ℕ) → n ≡ i + 1 → 1 + i ≡ n
      from_one i n is = omega (arith, is)

  -- all of them
  pub first-all : (i : ℕ) → length papers ≤ i → first i ≡ numbers_from 1 papers
  first-all i past =
      take_all i (numbers_from 1 papers) (subst (λ (k : ℕ). k ≤ i) (sym (length-numbers_from 1 papers)) past)

  module _ {A : Type 0} (line : ℕ → List A) (start : List A) where
    -- what is told of one more paper
    pub lines-step : (i n : ℕ) (before after : List A) → i < length papers → n ≡ i + 1 → after ≡ before ++ line n
        → before ≡ start ++ flat_map line (first i) → after ≡ start ++ flat_map line (first (i + 1))
    lines-step i n before after within is pushed h =
        pushed
        ∙ ap (λ (l : List A). l ++ line n) h
        ∙ append_assoc start (flat_map line (first i)) (line n)
        ∙ ap (λ (l : List A). start ++ l)
        (ap (λ (l : List A). flat_map line (first i) ++ l) (sym (append-nil (line n)))
        ∙ sym (flat_map-append line (first i) (n ∷ []))
        ∙ sym (ap (flat_map line) (first-step i n within is)))

    -- and of all
    pub lines-all : (i : ℕ) (before : List A) → length papers ≤ i → before ≡ start ++ flat_map line (first i)
        → before ≡ start ++ flat_map line (numbers_from 1 papers)
    lines-all i before past h = h ∙ ap (λ (ps : List ℕ). start ++ flat_map line ps) (first-all i past)

-- what is told of the elements that pass
abbrev pub where_so : {A B : Type 0} → (A → Bool) → (A → List B) → A → List B
where_so test line x = cond (test x) (line x) []

pub flat_map-filter : {A B : Type 0} (test : A → Bool) (line : A → List B) (xs : List A)
    → flat_map (where_so test line) xs ≡ flat_map line (filter test xs)
flat_map-filter test line [] = refl
flat_map-filter {A} {B} test line (x ∷ xs) = by (test x) (flat_map-filter test line xs)
  where
    by : (b : Bool) → flat_map (where_so test line) xs ≡ flat_map line (filter test xs)
        → cond b (line x) [] ++ flat_map (where_so test line) xs
        ≡ flat_map line (cond b (x ∷ filter test xs) (filter test xs))
    by true h = ap (λ (l : List B). line x ++ l) h
    by false h = h
