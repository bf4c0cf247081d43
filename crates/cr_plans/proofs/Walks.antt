-- SPDX-License-Identifier: Apache-2.0 OR MIT
-- Walks over papers, members and pairs.
use Rattle.std.proofs.Common.{ℕ, Bool, true, false, cond, ◌≡◌, ◌<◌, ◌≤◌, ◌+◌, List, [], ◌∷◌, ◌++◌, append_assoc, length}
use Rattle.std.proofs.Common.{drop, get_or, map, refl, sym, ap, ◌∙◌}
use Rattle.std.specs.Prelude.{filter}
use Rattle.std.specs.List.{flat_map}
use Rattle.std.proofs.Math.ListN.{drop_of_length-le}
use Rattle.std.proofs.lemmas.List.{append-nil, drop_more}
use Rattle.cr_base.specs.declared.reply.AccountLine.{AccountLine}
use Rattle.cr_base.specs.Lists.{given}
use Rattle.cr_base.specs.Tables.{Tables}
use Rattle.cr_match.specs.declared.problem.Pair.{Pair}
use Rattle.cr_plans.specs.Pairing.{pair_at, pairs_at, pairs_of_place}

pub map-same : (xs : List ℕ) → map (λ (x : ℕ). x) xs ≡ xs
map-same [] = refl
map-same (x ∷ xs) = ap (λ (ys : List ℕ). x ∷ ys) (map-same xs)

-- one more that passes, or doesn't
pub kept-step : {A : Type 0} (test : A → Bool) (xs : List A) (i : ℕ) (d x : A) (before after whole : List A)
    → i < length xs → x ≡ get_or xs i d
    → after ≡ before ++ given (test x) x → before ++ filter test (drop i xs) ≡ whole
    → after ++ filter test (drop (i + 1) xs) ≡ whole
kept-step {A} test xs i d x before after whole low is pushed h =
    ap (λ (ys : List A). ys ++ filter test (drop (i + 1) xs)) pushed
    ∙ append_assoc before (given (test x) x) (filter test (drop (i + 1) xs))
    ∙ ap (λ (ys : List A). before ++ ys) (by (test x))
    ∙ ap (λ (ys : List A). before ++ filter test ys)
    (sym (drop_more xs i d low ∙ ap (λ (y : A). y ∷ drop (i + 1) xs) (sym is)))
    ∙ h
  where
    by : (b : Bool) → given b x ++ filter test (drop (i + 1) xs) ≡ cond b (x ∷ filter test (drop (i + 1) xs))
        (filter test (drop (i + 1) xs))
    by true = refl
    by false = refl

-- and all of them
pub kept-all : {A : Type 0} (test : A → Bool) (xs : List A) (i : ℕ) (before whole : List A) → length xs ≤ i
    → before ++ filter test (drop i xs) ≡ whole → before ≡ whole
kept-all {A} test xs i before whole past h =
    sym (append-nil before) ∙ sym (ap (λ (ys : List A). before ++ filter test ys) (drop_of_length-le xs past)) ∙ h

-- one more row of a text, and all of them
pub rows-step : {A : Type 0} (row : A → List ℕ) (xs : List A) (i : ℕ) (d x : A) (before after whole : List ℕ)
    → i < length xs → x ≡ get_or xs i d
    → after ≡ before ++ row x → before ++ flat_map row (drop i xs) ≡ whole
    → after ++ flat_map row (drop (i + 1) xs) ≡ whole
rows-step {A} row xs i d x before after whole low is appended h =
    ap (λ (l : List ℕ). l ++ flat_map row (drop (i + 1) xs)) appended
    ∙ append_assoc before (row x) (flat_map row (drop (i + 1) xs))
    ∙ ap (λ (ys : List A). before ++ flat_map row ys)
    (sym (drop_more xs i d low ∙ ap (λ (y : A). y ∷ drop (i + 1) xs) (sym is)))
    ∙ h

pub rows-all : {A : Type 0} (row : A → List ℕ) (xs : List A) (i : ℕ) (before whole : List ℕ) → length xs ≤ i
    → before ++ flat_map row (drop i xs) ≡ whole → before ≡ whole
rows-all {A} row xs i before whole past h =
    sym (append-nil before) ∙ sym (ap (λ (ys : List A). before ++ flat_map row ys) (drop_of_length-le xs past)) ∙ h

-- one more member of a paper, and one more paper
module _ (t : Tables) where
  pub place-step : (i p : ℕ) (members : List AccountLine) (j : ℕ) (d : AccountLine) (before after whole : List Pair)
      → j < length members
      → after ≡ before ++ pair_at t i p j (get_or members j d).user
      → before ++ pairs_of_place t i p j (drop j members) ≡ whole
      → after ++ pairs_of_place t i p (j + 1) (drop (j + 1) members) ≡ whole
  place-step i p members j d before after whole low pushed h =
      ap (λ (ys : List Pair). ys ++ pairs_of_place t i p (j + 1) (drop (j + 1) members)) pushed
      ∙ append_assoc before (pair_at t i p j (get_or members j d).user)
      (pairs_of_place t i p (j + 1) (drop (j + 1) members))
      ∙ ap (λ (ms : List AccountLine). before ++ pairs_of_place t i p j ms) (sym (drop_more members j d low))
      ∙ h

  pub paper-step : (papers : List ℕ) (members : List AccountLine) (i d p : ℕ) (before after whole : List Pair)
      → i < length papers → p ≡ get_or papers i d
      → after ≡ before ++ pairs_of_place t i p 0 members
      → before ++ pairs_at t i (drop i papers) members ≡ whole
      → after ++ pairs_at t (i + 1) (drop (i + 1) papers) members ≡ whole
  paper-step papers members i d p before after whole low is pushed h =
      ap (λ (ys : List Pair). ys ++ pairs_at t (i + 1) (drop (i + 1) papers) members) pushed
      ∙ append_assoc before (pairs_of_place t i p 0 members) (pairs_at t (i + 1) (drop (i + 1) papers) members)
      ∙ ap (λ (ps : List ℕ). before ++ pairs_at t i ps members)
      (sym (drop_more papers i d low ∙ ap (λ (q : ℕ). q ∷ drop (i + 1) papers) (sym is)))
      ∙ h

  pub place-all : (i p : ℕ) (members : List AccountLine) (j : ℕ) (before whole : List Pair) → length members ≤ j
      → before ++ pairs_of_place t i p j (drop j members) ≡ whole → before ≡ whole
  place-all i p members j before whole past h =
      sym (append-nil before)
      ∙ sym (ap (λ (ms : List AccountLine). before ++ pairs_of_place t i p j ms) (drop_of_length-le members past)) ∙ h

  pub paper-all : (papers : List ℕ) (members : List AccountLine) (i : ℕ) (before whole : List Pair) → length papers ≤ i
      → before ++ pairs_at t i (drop i papers) members ≡ whole → before ≡ whole
  paper-all papers members i before whole past h =
      sym (append-nil before)
      ∙ sym (ap (λ (ps : List ℕ). before ++ pairs_at t i ps members) (drop_of_length-le papers past)) ∙ h
