-- SPDX-License-Identifier: Apache-2.0 OR MIT
use Rattle.std.proofs.Common.{◌∙◌, ap}
use Rattle.cr_base.specs.Bulk.{command_of_row}
use Rattle.cr_judge.specs.Rows.{group_or_rule}
use Rattle.cr_book.proofs.JudgingLaws.{judged-command, judged-untold, row-resolved}
use Rattle.cr_book.proofs.judging.judge_row.Goals as goal

pub returns-in-Ok-clause-judged : goal.returns-in-Ok-clause-judged
returns-in-Ok-clause-judged c =
    judged-command c.args.live.now.tables c.args.earlier.now c.args.stamp.now c.args.row.now
    (command_of_row c.in-Ok.command) c.judge_row.result c.in-Ok.ensures
    (c.judge_row.ensures.judged
    ∙ ap group_or_rule (row-resolved c.args.live.now.tables c.args.earlier.now c.args.stamp.now c.in-Ok.command
    c.resolve_row.result c.requires c.resolve_row.ensures))

pub returns-in-Err-clause-judged : goal.returns-in-Err-clause-judged
returns-in-Err-clause-judged c = judged-untold c.args.live.now.tables c.args.earlier.now c.args.stamp.now c.args.row.now
    c.in-Err.rule c.in-Err.ensures
