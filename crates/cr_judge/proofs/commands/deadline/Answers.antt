-- SPDX-License-Identifier: Apache-2.0 OR MIT
use Rattle.std.proofs.Common.{Ok, Err}
use Rattle.cr_base.specs.declared.entry.Entry.TheVariants as entries
use Rattle.cr_base.specs.declared.entry.Stamp.{Stamp}
use Rattle.cr_judge.proofs.JudgedLaws.{one-entry, passed-up}
use Rattle.cr_judge.proofs.CommandLaws.{deadline-drawn}
use Rattle.cr_judge.proofs.commands.deadline.Goals as goal

pub returns : goal.returns
returns c =
    let t = c.args.live.now.tables in
    let stamp : Stamp = c.args.stamp.now in
    one-entry t.accounts stamp (entries.DeadlineSet c.args.phase c.args.until) c.alone.result _ c.alone.ensures
    (deadline-drawn t stamp c.standing-by.result c.standing-by.ensures c.stage_table.result.now c.stage_table.ensures
    (Ok tt) c.args.phase c.args.until c.in_ok-judge_deadline.ensures)

pub returns-in_err-judge_deadline : goal.returns-in_err-judge_deadline
returns-in_err-judge_deadline c =
    let t = c.args.live.now.tables in
    passed-up t.accounts c.from_residual.result c.in_err-judge_deadline.field-0.0 _ c.from_residual.ensures.1
    (deadline-drawn t c.args.stamp.now c.standing-by.result c.standing-by.ensures c.stage_table.result.now
    c.stage_table.ensures
    (Err c.in_err-judge_deadline.field-0.0) c.args.phase c.args.until c.in_err-judge_deadline.ensures)
