-- SPDX-License-Identifier: Apache-2.0 OR MIT
use Rattle.std.proofs.Common.{◌≡◌, ◌≤◌, ◌+◌, drop}
use Rattle.cr_accounts.proofs.MemberLaws.{members_from}
use Rattle.cr_accounts.proofs.accounts.Accounts.member_count.Given as goal

abbrev pub invariant-loop-account : goal.invariant-loop-account
invariant-loop-account l =
    record {
      counted : l.count + members_from (l.account-index + 1) (drop l.account-index l.self.accounts)
          ≡ members_from 1 l.self.accounts;
      few : l.count ≤ l.account-index;
    }
