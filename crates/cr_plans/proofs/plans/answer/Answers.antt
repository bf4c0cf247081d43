-- SPDX-License-Identifier: Apache-2.0 OR MIT
use Rattle.std.proofs.Common.{sym, ◌∙◌}
use Rattle.cr_plans.proofs.Answered.{due-refused, due-told, due-none, due-unserved}
use Rattle.cr_plans.proofs.plans.answer.Goals as goal

pub returns-in-Err : goal.returns-in-Err
returns-in-Err c =
    due-refused c.args.live.now.tables c.args.caller.now c.args.per_paper c.args.load c.in-Err.rule c.in-Err.ensures

pub returns-in_err-plan : goal.returns-in_err-plan
returns-in_err-plan c =
    due-unserved c.args.live.now.tables c.args.caller.now c.args.per_paper c.args.load c.in-Ok.ensures
    c.from_residual.result c.from_residual.ensures.1

pub returns-in-Some : goal.returns-in-Some
returns-in-Some c =
    due-told c.args.live.now.tables c.args.caller.now c.args.per_paper c.args.load c.in-Ok.ensures c.in-Some.text
    (sym c.in-Some.is ∙ c.in_ok-plan.ensures)

pub returns-in-None : goal.returns-in-None
returns-in-None c =
    due-none c.args.live.now.tables c.args.caller.now c.args.per_paper c.args.load c.in-Ok.ensures
    (sym c.in-None.is ∙ c.in_ok-plan.ensures)
