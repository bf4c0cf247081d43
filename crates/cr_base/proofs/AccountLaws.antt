-- SPDX-License-Identifier: Apache-2.0 OR MIT
-- What is read of the accounts: by number and by name, and as everyone sees them.
use Rattle.std.proofs.Common.{ℕ, Bool, true, false, cond, ◌≡◌, ◌+◌, List, [], ◌∷◌, ◌++◌, length, refl, sym, ap, subst}
use Rattle.std.proofs.Common.{◌∙◌, arith, zero, suc, add-zero, ◌≤◌, ◌<◌, Option, Some, None, is_some, Result, Ok, Err}
use Rattle.std.specs.Prelude.{nat_le, count_by}
use Rattle.std.proofs.lemmas.List.Sums.{sum_by-cons}
use Rattle.std.proofs.lemmas.Bool.Decides.{nat_tests}
use Rattle.std.specs.List.{position_from}
use Rattle.std.specs.Option.{option_map}
use Rattle.std.specs.Str.{bytes_eq}
use Rattle.std.proofs.lemmas.Slice.Eq.{bytes_eq-Decides}
use Rattle.std.proofs.lemmas.Iterator.Adapters.{position_from-zero}
use Rattle.cr_base.specs.Accounts.{number_at, lines_of, lines_from, with_role, chair_count, AccountsFit}
use Rattle.cr_base.specs.Words.{is_chair}
use Rattle.cr_base.specs.Checks.{judged, register_checks}
use Rattle.cr_base.specs.Sources.{number_in}
use Rattle.cr_base.proofs.ChangeLaws.{changed_at-suc}
use Rattle.cr_base.specs.declared.entry.Account.{Account}
use Rattle.cr_base.specs.declared.entry.Entry.TheVariants.{Registered}
use Rattle.cr_base.specs.declared.reply.AccountLine.{AccountLine}
use Rattle.cr_base.specs.declared.reply.Rule.{Rule}
use Rattle.cr_base.specs.declared.reply.Rule.TheVariants.{NameTaken, FullAccounts}
use Rattle.cr_base.specs.declared.words.Role.{Role}

-- ---- the lines of the accounts

pub length-lines_from : (n : ℕ) (accounts : List Account) → length (lines_from n accounts) ≡ length accounts
length-lines_from n [] = refl
length-lines_from n (a ∷ accounts) = ap suc (length-lines_from (n + 1) accounts)

-- there are as many lines as accounts
pub length-lines_of : (accounts : List Account) → length (lines_of accounts) ≡ length accounts
length-lines_of accounts = length-lines_from 1 accounts

-- as many lines are of chairs as accounts
pub chair_count-lines_from : (n : ℕ) (accounts : List Account)
    → chair_count (lines_from n accounts) ≡ count_by (λ (a : Account). is_chair a.role) accounts
chair_count-lines_from n [] = refl
chair_count-lines_from n (a ∷ accounts) =
    let rest = chair_count-lines_from (n + 1) accounts in
    let line : AccountLine = record { user = n; name = a.name; role = a.role } in
    let told = sum_by-cons (λ (l : AccountLine). cond (is_chair l.role) 1 0) line (lines_from (n + 1) accounts) in
    let kept = sum_by-cons (λ (x : Account). cond (is_chair x.role) 1 0) a accounts in
    omega (arith, rest, told, kept)

-- the number of a name is found by going over the accounts
pub number_at-from : (accounts : List Account) (name : List ℕ)
    → number_at accounts name ≡ option_map (λ i. i + 1) (position_from (λ a. bytes_eq a.name name) 0 accounts)
number_at-from accounts name = ap (option_map (λ i. i + 1)) (position_from-zero (λ a. bytes_eq a.name name) accounts)

first_or-next : (b : Bool) (i : ℕ) (line : AccountLine) (found : Option AccountLine) (index : Option ℕ)
    → line.user ≡ i + 1 → option_map (λ (a : AccountLine). a.user) found ≡ option_map (λ k. k + 1) index
    → option_map (λ (a : AccountLine). a.user) (cond b (Some line) found)
    ≡ option_map (λ k. k + 1) (cond b (Some i) index)
first_or-next true i line found index e h = ap Some e
first_or-next false i line found index e h = h

pub number_in-lines_from : (i : ℕ) (accounts : List Account) (name : List ℕ)
    → number_in (lines_from (i + 1) accounts) name ≡ option_map (λ k. k + 1)
    (position_from (λ a. bytes_eq a.name name) i accounts)
number_in-lines_from i [] name = refl
number_in-lines_from i (a ∷ accounts) name = first_or-next (bytes_eq a.name name) i
    (record { user = i + 1; name = a.name; role = a.role }) _ _ refl (number_in-lines_from (i + 1) accounts name)

-- the user of a name among the lines is the one among the accounts
pub number_in-lines_of : (accounts : List Account) (name : List ℕ)
    → number_in (lines_of accounts) name ≡ number_at accounts name
number_in-lines_of accounts name = number_in-lines_from 0 accounts name ∙ sym (number_at-from accounts name)

-- ---- one account more

or_else : Option ℕ → Option ℕ → Option ℕ
or_else None y = y
or_else (Some x) y = Some x

or_else-cond : (b : Bool) (i : ℕ) (p q y : Option ℕ) → p ≡ or_else q y
    → cond b (Some i) p ≡ or_else (cond b (Some i) q) y
unfolding or_else
or_else-cond true i p q y h = refl
or_else-cond false i p q y h = h

position_from-push : (test : Account → Bool) (i : ℕ) (accounts : List Account) (a : Account)
    → position_from test i (accounts ++ a ∷ []) ≡ or_else (position_from test i accounts)
    (cond (test a) (Some (i + length accounts)) None)
unfolding or_else
position_from-push test i [] a = ap (λ n. cond (test a) (Some n) None) (sym (add-zero i))
position_from-push test i (x ∷ accounts) a =
    let n : (i + 1) + length accounts ≡ i + suc (length accounts) = omega arith in
    or_else-cond (test x) i _ _ _ (position_from-push test (i + 1) accounts a
    ∙ ap (λ m. or_else (position_from test (i + 1) accounts) (cond (test a) (Some m) None)) n)

next_number : (b : Bool) (p : Option ℕ) (n user : ℕ) → user ≡ n + 1 → (b ≡ true → option_map (λ i. i + 1) p ≡ None)
    → option_map (λ i. i + 1) (or_else p (cond b (Some (0 + n)) None)) ≡ cond b (Some user) (option_map (λ i. i + 1) p)
unfolding or_else
next_number true None n user e h = let k : (0 + n) + 1 ≡ user = omega arith in ap Some k
next_number true (Some x) n user e h = let k = h refl in cc
next_number false None n user e h = refl
next_number false (Some x) n user e h = refl

-- a new name has the next number, and every other name keeps its own
pub number_at-push : (accounts : List Account) (a : Account) (user : ℕ) → user ≡ length accounts + 1
    → number_at accounts a.name ≡ None → (name : List ℕ)
    → number_at (accounts ++ a ∷ []) name ≡ cond (bytes_eq a.name name) (Some user) (number_at accounts name)
number_at-push accounts a user e new name =
    let test : Account → Bool = λ x. bytes_eq x.name name in
    let taken : bytes_eq a.name name ≡ true → option_map (λ i. i + 1) (position_from test 0 accounts) ≡ None =
    λ h. sym (number_at-from accounts name) ∙ subst (λ q. number_at accounts q ≡ None)
    ((bytes_eq-Decides a.name name).0 h) new in
    number_at-from (accounts ++ a ∷ []) name
    ∙ ap (option_map (λ i. i + 1)) (position_from-push test 0 accounts a)
    ∙ next_number (bytes_eq a.name name) (position_from test 0 accounts) (length accounts) user e taken
    ∙ ap (cond (bytes_eq a.name name) (Some user)) (sym (number_at-from accounts name))

-- ---- another role

-- a role changes behind the first account
pub with_role-suc : (a : Account) (rest : List Account) (k : ℕ) (role : Role)
    → with_role (a ∷ rest) (suc k) role ≡ a ∷ with_role rest k role
with_role-suc a rest k role = changed_at-suc (λ (x : Account). record x { role = role }) a rest k

position_from-with_role : (name : List ℕ) (i : ℕ) (accounts : List Account) (k : ℕ) (role : Role)
    → position_from (λ a. bytes_eq a.name name) i (with_role accounts k role)
    ≡ position_from (λ a. bytes_eq a.name name) i accounts
position_from-with_role name i [] k role = refl
position_from-with_role name i (a ∷ rest) zero role = refl
position_from-with_role name i (a ∷ rest) (suc k) role = ap (position_from (λ x. bytes_eq x.name name) i)
    (with_role-suc a rest k role) ∙ ap (cond (bytes_eq a.name name) (Some i))
    (position_from-with_role name (i + 1) rest k role)

-- a name keeps its number when a role changes
pub number_at-with_role : (accounts : List Account) (k : ℕ) (role : Role) (name : List ℕ)
    → number_at (with_role accounts k role) name ≡ number_at accounts name
number_at-with_role accounts k role name = number_at-from _ name
    ∙ ap (option_map (λ i. i + 1)) (position_from-with_role name 0 accounts k role) ∙ sym (number_at-from accounts name)

-- there are as many accounts when a role changes
pub length-with_role : (accounts : List Account) (k : ℕ) (role : Role)
    → length (with_role accounts k role) ≡ length accounts
length-with_role [] k role = refl
length-with_role (a ∷ rest) zero role = refl
length-with_role (a ∷ rest) (suc k) role =
    ap length (with_role-suc a rest k role) ∙ ap suc (length-with_role rest k role)

-- ---- which entry fits

-- a registration that breaks no rule fits
pub registration-fits : (accounts : List Account) (name digest : List ℕ) (user : ℕ)
    → ◌≡◌ {A = Result ℕ Rule} (Ok user) (judged (register_checks (is_some (number_at accounts name)) (length accounts))
    (length accounts + 1)) → AccountsFit accounts (Registered user name digest)
registration-fits accounts name digest user h =
    by (number_at accounts name) (nat_le 9999 (length accounts)) (length accounts) refl h
  where
    by : (found : Option ℕ) (full : Bool) (count : ℕ) → nat_le 9999 count ≡ full
        → ◌≡◌ {A = Result ℕ Rule} (Ok user) (cond (is_some found) (Err NameTaken)
        (cond full (Err FullAccounts) (Ok (count + 1)))) → (user ≡ count + 1) × (user ≤ 9999) × (found ≡ None)
    by (Some x) full count e h = absurd (cc)
    by None true count e h = absurd (cc)
    by None false count e h =
        let same : user ≡ count + 1 = cc in
        let few : count < 9999 = grind (arith, nat_tests) in
        (same, omega arith, refl)
