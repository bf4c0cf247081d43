-- SPDX-License-Identifier: Apache-2.0 OR MIT
use Rattle.std.proofs.Common.{Ok, Err, refl}
use Rattle.cr_base.specs.declared.entry.Entry.TheVariants as entries
use Rattle.cr_base.specs.declared.entry.Stamp.{Stamp}
use Rattle.cr_judge.proofs.JudgedLaws.{one-entry, passed-up}
use Rattle.cr_judge.proofs.TargetLaws.{is-dismissed, dismissal-drawn, dismissal-made}
use Rattle.cr_judge.proofs.commands.dismissal.Goals as goal

pub held-user-requires : goal.held-user-requires
held-user-requires c =
    is-dismissed c.args.live.now.tables c.args.stamp.now c.args.user.now c.standing-by.result c.standing-by.ensures
    c.account_table.result.now.accounts c.account_table.ensures (Ok tt)
    c.in_ok-judge_dismiss.ensures refl

pub returns : goal.returns
returns c =
    let t = c.args.live.now.tables in
    let stamp : Stamp = c.args.stamp.now in
    one-entry t.accounts stamp (entries.Dismissed c.held-user.result) c.alone.result _ c.alone.ensures
    (dismissal-drawn t stamp c.args.user.now c.standing-by.result c.standing-by.ensures
    c.account_table.result.now.accounts c.account_table.ensures (Ok tt)
    c.in_ok-judge_dismiss.ensures refl
    c.held-user.result c.held-user.ensures)

pub returns-in_err-judge_dismiss : goal.returns-in_err-judge_dismiss
returns-in_err-judge_dismiss c =
    let t = c.args.live.now.tables in
    passed-up t.accounts c.from_residual.result c.in_err-judge_dismiss.field-0.0 _ c.from_residual.ensures.1
    (dismissal-made t c.args.stamp.now c.args.user.now c.standing-by.result c.standing-by.ensures
    c.account_table.result.now.accounts c.account_table.ensures
    (Err c.in_err-judge_dismiss.field-0.0) c.in_err-judge_dismiss.ensures)
