-- SPDX-License-Identifier: Apache-2.0 OR MIT
-- The users and papers that commands name are numbered within the tables.
use Rattle.std.proofs.Common.{ℕ, false, ◌≡◌, ◌≤◌, ◌+◌, ◌-◌, List, [], ◌∷◌, length, eqb, refl, sym, ap, ◌∙◌, arith, zero}
use Rattle.std.proofs.Common.{suc, Option, Some, None, ◌&&◌}
use Rattle.std.specs.Prelude.{is_none, not, nat_le, unwrap_or}
use Rattle.std.specs.List.{list_any}
use Rattle.std.specs.Option.{option_map, option_and_then}
use Rattle.std.proofs.lemmas.Bool.{true≢false}
use Rattle.std.proofs.lemmas.Bool.Decides.{nat_tests}
use Rattle.cr_base.specs.declared.entry.Account.{Account}
use Rattle.cr_base.specs.declared.target.Target.{Target}
use Rattle.cr_base.specs.declared.words.Role.{Role}
use Rattle.cr_base.specs.declared.words.Role.TheVariants as roles
use Rattle.cr_base.specs.Accounts.{role_at}
use Rattle.cr_base.specs.Checks.{of_role, target_role}
use Rattle.cr_base.specs.Lists.{at_some, numbers_from}
use Rattle.cr_base.proofs.ListLaws.{list_any-numbers_from}

-- ---- the user named

-- there is none exactly where no role is found
pub is_none-asked : (asked : Role → Target) (role : Option Role) → is_none (option_map asked role) ≡ is_none role
is_none-asked asked None = refl
is_none-asked asked (Some role) = refl

-- her role is the one found
pub target_role-of : (role : Option Role) → target_role (option_map of_role role) ≡ unwrap_or role roles.Account
target_role-of None = refl
target_role-of (Some role) = refl

-- ---- numbers

-- a user who has a role has one of the accounts' numbers
account_within : (accounts : List Account) (v : ℕ) → is_none (role_at accounts v) ≡ false
    → (1 ≤ v) × (v ≤ length accounts)
account_within accounts zero h = absurd (true≢false h)
account_within [] (suc v) h = absurd (true≢false h)
account_within (a ∷ accounts) (suc zero) h = (omega arith, omega arith)
account_within (a ∷ accounts) (suc (suc v)) h = let high =
    (account_within accounts (suc v) h).1 in (omega arith, omega (arith, high))

-- and so has a user named who has one
pub target_within : (accounts : List Account) (target : Option ℕ)
    → is_none (option_and_then (role_at accounts) target) ≡ false → (1 ≤ unwrap_or target 0)
    × (unwrap_or target 0 ≤ length accounts)
target_within accounts None h = absurd (true≢false h)
target_within accounts (Some v) h = account_within accounts v h

-- a paper that is there has one of the papers' numbers
pub paper_within : {A : Type 0} (papers : List A) (paper : Option ℕ)
    → not (at_some (λ p. list_any (λ q. eqb q p) (numbers_from 1 papers)) paper) ≡ false → (1 ≤ unwrap_or paper 0)
    × (unwrap_or paper 0 ≤ length papers)
paper_within papers None h = absurd (true≢false h)
paper_within papers (Some p) h =
    inside p (length papers) (sym (ap not (list_any-numbers_from 1 p papers (omega arith))) ∙ h)
  where
    inside : (p n : ℕ) → not (nat_le 1 p && nat_le p (1 + n - 1)) ≡ false → (1 ≤ p) × (p ≤ n)
    inside p n h = (low, high)
      where
        low : 1 ≤ p
        low = grind (arith, nat_tests)

        high : p ≤ n
        high = grind (arith, nat_tests)
