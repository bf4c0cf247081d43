-- SPDX-License-Identifier: Apache-2.0 OR MIT
use Rattle.std.proofs.Common.{Ok, Err}
use Rattle.cr_base.specs.declared.entry.Entry.TheVariants as entries
use Rattle.cr_base.specs.declared.entry.Stamp.{Stamp}
use Rattle.cr_judge.proofs.JudgedLaws.{one-entry, passed-up}
use Rattle.cr_judge.proofs.CommandLaws.{mode-drawn}
use Rattle.cr_judge.proofs.commands.mode.Goals as goal

pub returns : goal.returns
returns c =
    let t = c.args.live.now.tables in
    let stamp : Stamp = c.args.stamp.now in
    one-entry t.accounts stamp (entries.ModeSet c.args.to) c.alone.result _ c.alone.ensures
    (mode-drawn t stamp c.standing-by.result c.standing-by.ensures c.stage_table.result.now c.stage_table.ensures
    (Ok tt) c.args.to c.in_ok-judge_mode.ensures)

pub returns-in_err-judge_mode : goal.returns-in_err-judge_mode
returns-in_err-judge_mode c =
    let t = c.args.live.now.tables in
    passed-up t.accounts c.from_residual.result c.in_err-judge_mode.field-0.0 _ c.from_residual.ensures.1
    (mode-drawn t c.args.stamp.now c.standing-by.result c.standing-by.ensures c.stage_table.result.now
    c.stage_table.ensures
    (Err c.in_err-judge_mode.field-0.0) c.args.to c.in_err-judge_mode.ensures)
