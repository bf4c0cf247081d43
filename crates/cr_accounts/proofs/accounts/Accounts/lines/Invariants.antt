-- SPDX-License-Identifier: Apache-2.0 OR MIT
use Rattle.std.proofs.Common.{◌≡◌, ◌+◌, ◌++◌, length, drop}
use Rattle.cr_base.specs.Accounts.{lines_of, lines_from}
use Rattle.cr_accounts.proofs.accounts.Accounts.lines.Given as goal

abbrev pub invariant-loop-account : goal.invariant-loop-account
invariant-loop-account l =
    record {
      count : length l.lines.items ≡ l.account-index;
      rest : l.lines.items ++ lines_from (l.account-index + 1) (drop l.account-index l.self.accounts)
          ≡ lines_of l.self.accounts;
    }
