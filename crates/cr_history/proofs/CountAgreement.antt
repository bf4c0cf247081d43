-- SPDX-License-Identifier: Apache-2.0 OR MIT
-- What the tables count of each user is what a history tells of her.
use Rattle.std.proofs.Common.{ℕ, Bool, true, false, cond, ◌≡◌, ◌+◌, List, [], ◌∷◌, ◌++◌, length, eqb, refl, sym, ap}
use Rattle.std.proofs.Common.{◌∙◌, arith, zero, suc, get_or, Option, Some, None, add-zero}
use Rattle.std.proofs.lemmas.Bool.Decides.{nat_tests}
use Rattle.cr_base.specs.declared.entry.Entry.{Entry}
use Rattle.cr_base.specs.declared.entry.Stamped.{Stamped}
use Rattle.cr_base.specs.Lists.{given, is_number}
use Rattle.cr_base.specs.History.{History, all_told_by}
use Rattle.cr_base.specs.Papers.{with_more}
use Rattle.cr_base.specs.Tables.{Tables, no_tables, tables_after, tables_of}
use Rattle.cr_base.proofs.Small.{eqb-suc}
use Rattle.cr_history.proofs.Folds.{told-always}

-- ---- a user's sum

-- a sum is greater by so much at its index, and every other stays
get-with_more : (i more k : ℕ) (sums : List ℕ)
    → get_or (with_more i more sums) k 0 ≡ cond (eqb k i) (get_or sums k 0 + more) (get_or sums k 0)
get-with_more zero more zero [] = plus more
  where
    plus : (more : ℕ) → more ≡ 0 + more
    plus more = omega arith
get-with_more zero more zero (n ∷ sums) = refl
get-with_more zero more (suc k) [] = ap (λ b. cond b (0 + more) 0) (never k)
  where
    never : (k : ℕ) → false ≡ eqb (suc k) 0
    never k = grind (arith, nat_tests)
get-with_more zero more (suc k) (n ∷ sums) = ap (λ b. cond b (get_or sums k 0 + more) (get_or sums k 0)) (never k)
  where
    never : (k : ℕ) → false ≡ eqb (suc k) 0
    never k = grind (arith, nat_tests)
get-with_more (suc i) more zero [] = ap (λ b. cond b (0 + more) 0) (never i)
  where
    never : (i : ℕ) → false ≡ eqb 0 (suc i)
    never i = grind (arith, nat_tests)
get-with_more (suc i) more zero (n ∷ sums) = ap (λ b. cond b (n + more) n) (never i)
  where
    never : (i : ℕ) → false ≡ eqb 0 (suc i)
    never i = grind (arith, nat_tests)
get-with_more (suc i) more (suc k) [] = get-with_more i more k [] ∙ ap (λ b. cond b (0 + more) 0) (eqb-suc k i)
get-with_more (suc i) more (suc k) (n ∷ sums) =
    get-with_more i more k sums ∙ ap (λ b. cond b (get_or sums k 0 + more) (get_or sums k 0)) (eqb-suc k i)

-- a user's sum; nobody has any
abbrev pub sum_at : List ℕ → Option ℕ → ℕ
sum_at sums None = 0
sum_at sums (Some v) = get_or sums v 0

-- what is told, where it is the user's, comes to her sum
pub sum-with_more : (u : Option ℕ) (maker more told n : ℕ) (sums : List ℕ) → told ≡ cond (is_number u maker) more 0
    → sum_at sums u + (told + n) ≡ sum_at (with_more maker more sums) u + n
sum-with_more None maker more told n sums is = omega (arith, is)
sum-with_more (Some v) maker more told n sums is =
    by (eqb v maker) (get_or sums v 0) is ∙ ap (λ m. m + n) (sym (get-with_more maker more v sums))
  where
    by : (b : Bool) (m : ℕ) → told ≡ cond b more 0 → m + (told + n) ≡ cond b (m + more) m + n
    by true m is = omega (arith, is)
    by false m is = omega (arith, is)

-- one value more, where it is the user's, is one more in her sum
pub sum-with_one : {A : Type 0} (u : Option ℕ) (maker : ℕ) (x : A) (n : ℕ) (sums : List ℕ)
    → sum_at sums u + (length (given (is_number u maker) x) + n) ≡ sum_at (with_more maker 1 sums) u + n
sum-with_one u maker x n sums =
    sum-with_more u maker 1 (length (given (is_number u maker) x)) n sums (by (is_number u maker))
  where
    by : (b : Bool) → length (given b x) ≡ cond b 1 0
    by true = refl
    by false = refl

-- ---- all of it

-- where each entry adds to a user's sum what it tells of her, she has what all of them tell
module _ (size : List ℕ → ℕ) (nil : size [] ≡ 0) (append : (xs ys : List ℕ) → size (xs ++ ys) ≡ size xs + size ys)
    (sums : Tables → List ℕ) (first : sums no_tables ≡ []) (u : Option ℕ) (told : ℕ → Entry → List ℕ) where
  pub sum-tables : ((t : Tables) (s : Stamped) (n : ℕ)
      → sum_at (sums t) u + (size (told s.stamp.maker s.entry) + n) ≡ sum_at (sums (tables_after t s)) u + n)
      → (H : History) → size (all_told_by told H) ≡ sum_at (sums (tables_of H)) u
  sum-tables one H =
      none u (size (all_told_by told H)) ∙ ap (λ (ns : List ℕ). sum_at ns u + size (all_told_by told H)) (sym first)
      ∙ told-always (λ n xs. n + size xs) (λ n. ap (λ m. n + m) nil
      ∙ add-zero n) (λ (t : Tables). sum_at (sums t) u) (λ (s : Stamped). told s.stamp.maker s.entry)
      (λ t s rest. ap (λ n. sum_at (sums t) u + n) (append (told s.stamp.maker s.entry) rest) ∙ one t s (size rest))
      no_tables H
    where
      none : (u : Option ℕ) (n : ℕ) → n ≡ sum_at [] u + n
      none None n = omega arith
      none (Some v) n = omega arith
