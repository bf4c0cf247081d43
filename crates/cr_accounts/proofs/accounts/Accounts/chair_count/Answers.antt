-- SPDX-License-Identifier: Apache-2.0 OR MIT
use Rattle.std.proofs.Common.{List, ◌∙◌, ap, sym}
use Rattle.cr_base.specs.declared.entry.Account.{Account}
use Rattle.cr_base.specs.Accounts.{chair_count, lines_of}
use Rattle.cr_base.proofs.AccountLaws.{chair_count-lines_from}
use Rattle.cr_accounts.specs.Seen.{SeenAccounts}
use Rattle.cr_accounts.proofs.accounts.Accounts.chair_count.Goals as goal

pub returns : goal.returns
returns c =
    c.chairs_among.ensures
    ∙ sym (chair_count-lines_from 1 c.deref.result.now)
    ∙ ap (λ (accounts : List Account). chair_count (lines_of accounts))
    (c.deref.ensures.value ∙ ap (λ (v : SeenAccounts). v.accounts) c.self.view_is)
