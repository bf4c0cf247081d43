-- SPDX-License-Identifier: Apache-2.0 OR MIT
-- What contracts see of the table of accounts.
use Rattle.std.specs.Prelude.{ℕ, List}
use Rattle.cr_base.specs.declared.entry.Account.{Account}

-- the accounts by user number, and for how many more entries there is room
pub record SeenAccounts : Type 0 where
  pub accounts : List Account
  pub room : ℕ
