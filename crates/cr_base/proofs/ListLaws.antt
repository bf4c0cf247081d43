-- SPDX-License-Identifier: Apache-2.0 OR MIT
-- Elements by their number, and the numbers of elements.
use Rattle.std.proofs.Common.{ℕ, Bool, true, false, cond, ◌≡◌, ◌≤◌, ◌+◌, ◌-◌, List, [], ◌∷◌, ◌++◌, length, eqb, refl}
use Rattle.std.proofs.Common.{sym, ap, ◌∙◌, arith, zero, suc, Option, Some, None, ◌&&◌, ◌||◌}
use Rattle.std.specs.Prelude.{nat_le}
use Rattle.std.specs.List.{slice_get, list_any, find}
use Rattle.std.specs.Option.{option_map, option_and_then}
use Rattle.std.proofs.lemmas.Bool.{eqb-true, false≢true}
use Rattle.std.proofs.lemmas.Bool.Decides.{nat_tests}
use Rattle.cr_base.specs.declared.entry.Account.{Account}
use Rattle.cr_base.specs.declared.reply.AccountLine.{AccountLine}
use Rattle.cr_base.specs.Accounts.{lines_from, lines_of, account_at, role_at}
use Rattle.cr_base.specs.Sources.{name_in, role_among}
use Rattle.cr_base.specs.Lists.{is_number, numbered, numbers_from}
use Rattle.cr_base.proofs.Small.{eqb-suc-zero, eqb-zero-suc}

-- a number that is there and is this one
pub number-is : (u : Option ℕ) (n : ℕ) → is_number u n ≡ true → u ≡ Some n
number-is None n is = absurd (false≢true is)
number-is (Some m) n is = ap (λ k. Some k) (eqb-true m n is)

-- ---- elements by number

-- there is none
pub numbered-nil : {A : Type 0} (n : ℕ) → numbered {A = A} [] n ≡ None
numbered-nil zero = refl
numbered-nil (suc n) = refl

-- a number that no element has
pub numbered-none : {A : Type 0} (xs : List A) (n : ℕ) → length xs + 1 ≤ n → numbered xs n ≡ None
numbered-none xs zero h = refl
numbered-none [] (suc n) h = refl
numbered-none (x ∷ xs) (suc zero) h = absurd (omega arith)
numbered-none (x ∷ xs) (suc (suc n)) h = numbered-none xs (suc n) (omega arith)

-- a number that an element has
pub numbered-some : {A : Type 0} (xs : List A) (n : ℕ) → 1 ≤ n → n ≤ length xs → (x : A) × (numbered xs n ≡ Some x)
numbered-some xs zero low high = absurd (omega arith)
numbered-some [] (suc n) low high = absurd (omega arith)
numbered-some (x ∷ xs) (suc zero) low high = (x, refl)
numbered-some (x ∷ xs) (suc (suc n)) low high = numbered-some xs (suc n) (omega arith) (omega arith)

step_equal : (n k : ℕ) → eqb (suc n) (k + 1) ≡ eqb n k
step_equal n k = grind (arith, nat_tests)

get-push : {A : Type 0} (xs : List A) (x : A) (n : ℕ)
    → slice_get (xs ++ x ∷ []) n ≡ cond (eqb n (length xs)) (Some x) (slice_get xs n)
get-push [] x zero = refl
get-push {A} [] x (suc n) = let nothing : Option A = None in ap (λ b. cond b (Some x) nothing) (sym (eqb-suc-zero n))
get-push (y ∷ xs) x zero = ap (λ b. cond b (Some x) (Some y)) (sym (eqb-zero-suc (length xs)))
get-push {A} (y ∷ xs) x (suc n) =
    get-push xs x n ∙ ap (λ b. cond b (Some x) (slice_get xs n)) (sym (step n (length xs)))
  where
    step : (n k : ℕ) → eqb (suc n) (suc k) ≡ eqb n k
    step n k = grind (arith, nat_tests)

-- one more element has the next number, and every other number is whose it was
pub numbered-push : {A : Type 0} (xs : List A) (x : A) (n : ℕ)
    → numbered (xs ++ x ∷ []) n ≡ cond (eqb n (length xs + 1)) (Some x) (numbered xs n)
numbered-push {A} xs x zero = let nothing : Option A = None in ap (λ b. cond b (Some x) nothing) (never (length xs))
  where
    never : (k : ℕ) → false ≡ eqb 0 (k + 1)
    never k = grind (arith, nat_tests)
numbered-push xs x (suc n) =
    get-push xs x n ∙ ap (λ b. cond b (Some x) (slice_get xs n)) (sym (step_equal n (length xs)))

-- ---- the numbers of elements

pub length-numbers_from : {A : Type 0} (n : ℕ) (xs : List A) → length (numbers_from n xs) ≡ length xs
length-numbers_from n [] = refl
length-numbers_from n (x ∷ xs) = ap suc (length-numbers_from (n + 1) xs)

-- one more element has the number behind the others
pub numbers_from-push : {A : Type 0} (n k : ℕ) (xs : List A) (x : A) → k ≡ n + length xs
    → numbers_from n (xs ++ x ∷ []) ≡ numbers_from n xs ++ k ∷ []
numbers_from-push n k [] x is = let e : n ≡ k = omega (arith, is) in ap (λ m. m ∷ []) e
numbers_from-push n k (y ∷ xs) x is = ap (λ ms. n ∷ ms) (numbers_from-push (n + 1) k xs x (omega (arith, is)))

within : (n p k : ℕ) (rest : Bool) → rest ≡ (nat_le (n + 1) p && nat_le p (n + k))
    → (eqb n p || rest) ≡ (nat_le n p && nat_le p (n + suc k - 1))
within n p k rest is = grind (arith, nat_tests, is)

-- the numbers of elements go from the first to the last
pub list_any-numbers_from : {A : Type 0} (n p : ℕ) (xs : List A) → 1 ≤ n
    → list_any (λ q. eqb q p) (numbers_from n xs) ≡ (nat_le n p && nat_le p (n + length xs - 1))
list_any-numbers_from n p [] h = none n p h
  where
    none : (n p : ℕ) → 1 ≤ n → false ≡ (nat_le n p && nat_le p (n + 0 - 1))
    none n p h = grind (arith, nat_tests)
list_any-numbers_from n p (x ∷ xs) h =
    within n p (length xs) _ (list_any-numbers_from (n + 1) p xs (omega arith)
    ∙ ap (λ m. nat_le (n + 1) p && nat_le p m) (less n (length xs)))
  where
    less : (n k : ℕ) → n + 1 + k - 1 ≡ n + k
    less n k = omega arith

-- ---- the line of a user

-- an account as everyone sees it, where its user has this number
abbrev line_of : ℕ → Account → AccountLine
line_of n a = record { user = n; name = a.name; role = a.role }

abbrev found : ℕ → List AccountLine → Option AccountLine
found user lines = find (λ (x : AccountLine). eqb x.user user) lines

-- the accounts behind the first n
found-lines_from : (n m : ℕ) (accounts : List Account) (user : ℕ) → m ≡ n + user
    → found m (lines_from n accounts) ≡ option_map (line_of m) (slice_get accounts user)
found-lines_from n m [] user is = refl
found-lines_from n m (a ∷ accounts) zero is =
    ap (λ b. cond b (Some (line_of n a)) (found m (lines_from (n + 1) accounts))) (same n m is)
    ∙ ap (λ k. Some (line_of k a)) (last n m is)
  where
    same : (n m : ℕ) → m ≡ n + 0 → eqb n m ≡ true
    same n m is = grind (arith, nat_tests)

    last : (n m : ℕ) → m ≡ n + 0 → n ≡ m
    last n m is = omega arith
found-lines_from n m (a ∷ accounts) (suc user) is =
    ap (λ b. cond b (Some (line_of n a)) (found m (lines_from (n + 1) accounts))) (other n m user is)
    ∙ found-lines_from (n + 1) m accounts user (on n m user is)
  where
    other : (n m user : ℕ) → m ≡ n + suc user → eqb n m ≡ false
    other n m user is = grind (arith, nat_tests)

    on : (n m user : ℕ) → m ≡ n + suc user → m ≡ n + 1 + user
    on n m user is = omega arith

found-none : (n : ℕ) (accounts : List Account) → 1 ≤ n → found 0 (lines_from n accounts) ≡ None
found-none n [] h = refl
found-none n (a ∷ accounts) h =
    ap (λ b. cond b (Some (line_of n a)) (found 0 (lines_from (n + 1) accounts))) (never n h)
    ∙ found-none (n + 1) accounts (omega arith)
  where
    never : (n : ℕ) → 1 ≤ n → eqb n 0 ≡ false
    never n h = grind (arith, nat_tests)

-- the line of a user is that of her account
found-lines_of : (accounts : List Account) (user : ℕ)
    → found user (lines_of accounts) ≡ option_map (line_of user) (account_at accounts user)
found-lines_of accounts zero = found-none 1 accounts (omega arith)
found-lines_of accounts (suc user) = found-lines_from 1 (suc user) accounts user (first user)
  where
    first : (user : ℕ) → suc user ≡ 1 + user
    first user = omega arith

read-line : {A : Type 0} (f : AccountLine → A) (g : Account → A) (user : ℕ) (o : Option Account)
    → ((a : Account) → f (line_of user a) ≡ g a) → option_map f (option_map (line_of user) o) ≡ option_map g o
read-line f g user None same = refl
read-line f g user (Some a) same = ap Some (same a)

-- so the name and the role of a user among the lines are those among the accounts
pub name_in-lines_of : (accounts : List Account) (user : ℕ)
    → name_in (lines_of accounts) user ≡ option_map (λ (a : Account). a.name) (account_at accounts user)
name_in-lines_of accounts user =
    ap (option_map (λ (a : AccountLine). a.name)) (found-lines_of accounts user)
    ∙ read-line (λ (a : AccountLine). a.name) (λ (a : Account). a.name) user (account_at accounts user) (λ a. refl)

pub role_among-lines_of : (accounts : List Account) (user : Option ℕ)
    → role_among (lines_of accounts) user ≡ option_and_then (role_at accounts) user
role_among-lines_of accounts None = refl
role_among-lines_of accounts (Some user) =
    ap (option_map (λ (a : AccountLine). a.role)) (found-lines_of accounts user)
    ∙ read-line (λ (a : AccountLine). a.role) (λ (a : Account). a.role) user (account_at accounts user) (λ a. refl)
