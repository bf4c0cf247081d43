-- SPDX-License-Identifier: Apache-2.0 OR MIT
use Rattle.std.proofs.Common.{◌∙◌, ap, sym, Some, Option}
use Rattle.std.specs.Prelude.{is_some}
use Rattle.cr_base.specs.declared.words.Role.{Role}
use Rattle.cr_base.specs.Accounts.{role_at}
use Rattle.cr_base.specs.declared.entry.Account.{Account}
use Rattle.std.proofs.Common.{List}
use Rattle.cr_base.proofs.ListLaws.{role_among-lines_of}
use Rattle.cr_judge.proofs.coauthors.is_there.Goals as goal

pub returns : goal.returns
returns c =
    let accounts = c.args.live.now.tables.accounts in
    c.is_some.ensures
    ∙ ap (λ (role : Option Role). is_some role) (c.role_given.ensures
    ∙ ap (λ (seen : List Account). role_at seen c.args.user) c.account_table.ensures
    ∙ sym (role_among-lines_of accounts (Some c.args.user)))
