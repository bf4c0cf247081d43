-- SPDX-License-Identifier: Apache-2.0 OR MIT
use Rattle.cr_judge.proofs.CommandLaws.{registration-drawn, registration-refused}
use Rattle.cr_judge.proofs.JudgedLaws.{passed-up}
use Rattle.cr_judge.proofs.commands.registration.Goals as goal

pub returns : goal.returns
returns c =
    registration-drawn c.args.live.now.tables c.args.at c.args.key c.args.name c.args.digest
    c.account_table.result.now.accounts c.account_table.ensures
    c.in_ok-user.user c.in_ok-user.ensures c.behind_registration.result c.behind_registration.ensures

pub returns-in_err-user : goal.returns-in_err-user
returns-in_err-user c =
    let t = c.args.live.now.tables in
    passed-up t.accounts c.from_residual.result c.in_err-user.field-0.0 _ c.from_residual.ensures.1
    (registration-refused t c.args.at c.args.key c.args.name c.args.digest c.account_table.result.now.accounts
    c.account_table.ensures c.in_err-user.field-0.0 c.in_err-user.ensures)
