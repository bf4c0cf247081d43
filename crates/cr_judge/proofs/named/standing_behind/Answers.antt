-- SPDX-License-Identifier: Apache-2.0 OR MIT
use Rattle.std.proofs.Common.{List, ◌∙◌, ap}
use Rattle.std.specs.Prelude.{is_some}
use Rattle.cr_base.specs.declared.entry.Account.{Account}
use Rattle.cr_base.specs.Accounts.{role_in}
use Rattle.cr_base.specs.Stage.{StageState}
use Rattle.cr_judge.proofs.RowLaws.{standing-behind}
use Rattle.cr_judge.proofs.named.standing_behind.Goals as goal

pub returns : goal.returns
returns c =
    standing-behind c.args.live.now.tables c.args.earlier.now c.requires.rows c.args.user.now c.args.paper.now
    c.phase-phase.result c.mode-mode.result c.standing_for-role.result c.is_author.result c.is_conflicted.result
    c.is_some.result c.is_external.result
    (c.phase-phase.ensures.value ∙ ap (λ (x : StageState). x.phase) c.stage_table-stage.ensures)
    (c.mode-mode.ensures.value ∙ ap (λ (x : StageState). x.mode) c.stage_table-stage.ensures)
    (c.standing_for-role.ensures ∙ ap (λ (x : List Account). role_in x c.args.user.now) c.account_table.ensures)
    c.is_author.ensures c.is_conflicted.ensures (c.is_some.ensures ∙ ap is_some c.ordinal_of.ensures)
    c.is_external.ensures
