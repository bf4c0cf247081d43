-- SPDX-License-Identifier: Apache-2.0 OR MIT
-- The table of accounts: what an entry makes of it, and what is read from it.
use Rattle.std.specs.Prelude.{ℕ, Bool, ◌≡◌, ◌≤◌, ◌+◌, ◌-◌, List, [], ◌∷◌, ◌++◌, length, Option, Some}
use Rattle.std.specs.Prelude.{count_by, None, slice_get, slice_set, position, unwrap_or, false, if◌then◌else◌}
use Rattle.std.specs.Option.{option_map, option_map_or, option_and_then}
use Rattle.std.specs.Str.{bytes_eq}
use Rattle.cr_base.specs.declared.words.Role.{Role}
use Rattle.cr_base.specs.declared.words.Role.TheVariants as role
use Rattle.cr_base.specs.declared.entry.Account.{Account}
use Rattle.cr_base.specs.declared.entry.Entry.{Entry}
use Rattle.cr_base.specs.declared.entry.Entry.TheVariants.{Registered, Named}
use Rattle.cr_base.specs.declared.entry.Entry.TheVariants.{Dismissed}
use Rattle.cr_base.specs.declared.reply.AccountLine.{AccountLine}
use Rattle.cr_base.specs.History.{user_about}
use Rattle.cr_base.specs.Lists.{AtSome, numbered}
use Rattle.cr_base.specs.Words.{is_chair}

-- ---- the state

-- the accounts with another role for the one at an index
abbrev pub with_role : List Account → ℕ → Role → List Account
with_role accounts at role =
    option_map_or (λ a. slice_set accounts at (record a { role = role })) (slice_get accounts at) accounts

-- the accounts after one more entry: that of user n is at index n - 1
abbrev pub accounts_after : List Account → Entry → List Account
accounts_after accounts (Registered user name digest) =
    accounts ++ record { name = name; digest = digest; role = role.Account } ∷ []
accounts_after accounts (Named user role) = with_role accounts (user - 1) role
accounts_after accounts (Dismissed user) = with_role accounts (user - 1) role.Account
accounts_after accounts _ = accounts

-- ---- what is read

-- the account of a user
abbrev pub account_at : List Account → ℕ → Option Account
account_at accounts user = numbered accounts user

-- the role of a user; `None` if there is no such account
abbrev pub role_at : List Account → ℕ → Option Role
role_at accounts user = option_map (λ a. a.role) (account_at accounts user)

-- the role of a caller; an account's for an unauthenticated one, and for a number that no user has
abbrev pub role_in : List Account → Option ℕ → Role
role_in accounts user = unwrap_or (option_and_then (role_at accounts) user) role.Account

-- the user with a name
abbrev pub number_at : List Account → List ℕ → Option ℕ
number_at accounts name = option_map (λ i. i + 1) (position (λ a. bytes_eq a.name name) accounts)

-- whether the user has this digest
abbrev pub has_digest : List Account → List ℕ → ℕ → Bool
has_digest accounts digest user = option_map_or (λ a. bytes_eq a.digest digest) (account_at accounts user) false

-- the user with a name and a digest
abbrev pub caller_at : List Account → List ℕ → List ℕ → Option ℕ
caller_at accounts name digest =
    option_and_then (λ user. if has_digest accounts digest user then Some user else None) (number_at accounts name)

-- the accounts as everyone sees them, if the first has number n
abbrev pub lines_from : ℕ → List Account → List AccountLine
lines_from n [] = []
lines_from n (a ∷ accounts) = record { user = n; name = a.name; role = a.role } ∷ lines_from (n + 1) accounts

-- the accounts as everyone sees them
abbrev pub lines_of : List Account → List AccountLine
lines_of accounts = lines_from 1 accounts

-- how many of these are chairs
abbrev pub chair_count : List AccountLine → ℕ
chair_count accounts = count_by (λ (a : AccountLine). is_chair a.role) accounts

-- ---- which entry may come next

-- the account is there
abbrev pub IsAccount : List Account → ℕ → Type 0
IsAccount accounts user = (1 ≤ user) × (user ≤ length accounts)

-- an entry fits: the number drawn is the next one and the name is new, or the account is there
abbrev pub AccountsFit : List Account → Entry → Type 0
AccountsFit accounts (Registered user name digest) =
    (user ≡ length accounts + 1) × (user ≤ 9999) × (number_at accounts name ≡ None)
AccountsFit accounts e = AtSome (IsAccount accounts) (user_about e)
