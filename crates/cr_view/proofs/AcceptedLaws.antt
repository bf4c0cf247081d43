-- SPDX-License-Identifier: Apache-2.0 OR MIT
-- A walk over the papers that tells of those that pass a test: which are accepted, or which a search finds.
use Rattle.std.proofs.Common.{ℕ, Bool, true, false, cond, ◌≡◌, ◌≤◌, ◌<◌, ◌+◌, List, [], ◌∷◌, ◌++◌, length, drop, get_or}
use Rattle.std.proofs.Common.{refl, sym, ap, subst, ◌∙◌, arith, zero, suc, map, filter}
use Rattle.std.proofs.Math.ListN.{drop_of_length-le}
use Rattle.std.proofs.lemmas.List.{append-nil}
use Rattle.cr_base.specs.Lists.{given, numbers_from}
use Rattle.cr_base.proofs.ListLaws.{length-numbers_from}
use Rattle.cr_view.proofs.AnswerLaws.{walk-step}

-- the number of the element at an index
pub get_or-numbers_from : {A : Type 0} (n i other : ℕ) (xs : List A) → i < length xs
    → get_or (numbers_from n xs) i other ≡ n + i
get_or-numbers_from n i other [] h = omega (arith, h)
get_or-numbers_from n zero other (x ∷ xs) h = let e : n ≡ n + 0 = omega arith in e
get_or-numbers_from n (suc i) other (x ∷ xs) h = get_or-numbers_from (n + 1) i other xs (omega (arith, h)) ∙ behind n i
  where
    behind : (n i : ℕ) → n + 1 + i ≡ n + suc i
    behind n i = omega arith

module _ {A B : Type 0} (test : ℕ → Bool) (told : ℕ → A) (papers : List B) where
  -- what is told of those of these papers that pass
  abbrev those : List ℕ → List A
  those numbers = map told (filter test numbers)

  -- what is told of the first paper comes first
  first_of : (p : ℕ) (rest : List ℕ) → those (p ∷ rest) ≡ given (test p) (told p) ++ those rest
  first_of p rest = by (test p)
    where
      by : (b : Bool) → map told (cond b (p ∷ filter test rest) (filter test rest)) ≡ given b (told p) ++ those rest
      by true = refl
      by false = refl

  -- one more paper
  pub papers-step : (i n : ℕ) (before after wanted : List A) → i < length papers → n ≡ i + 1
      → after ≡ before ++ given (test n) (told n)
      → before ++ those (drop i (numbers_from 1 papers)) ≡ wanted
      → after ++ those (drop (i + 1) (numbers_from 1 papers)) ≡ wanted
  papers-step i n before after wanted within is pushed h =
      let number : get_or (numbers_from 1 papers) i 0 ≡ n = get_or-numbers_from 1 i 0 papers within ∙ from_one i n is in
      walk-step those (given (test n) (told n)) (numbers_from 1 papers) i 0 before after wanted
      (subst (λ (k : ℕ). i < k) (sym (length-numbers_from 1 papers)) within)
      (λ rest. ap (λ (m : ℕ). those (m ∷ rest)) number ∙ first_of n rest) pushed h
    where
      from_one : (i n : ℕ) → n ≡ i + 1 → 1 + i ≡ n
      from_one i n is = omega (arith, is)

  -- and none is left
  pub papers-all : (i : ℕ) (before wanted : List A) → length papers ≤ i
      → before ++ those (drop i (numbers_from 1 papers)) ≡ wanted → before ≡ wanted
  papers-all i before wanted past h =
      let gone = drop_of_length-le (numbers_from 1 papers)
      (subst (λ (k : ℕ). k ≤ i) (sym (length-numbers_from 1 papers)) past) in
      sym (append-nil before) ∙ sym (ap (λ (ps : List ℕ). before ++ those ps) gone) ∙ h
