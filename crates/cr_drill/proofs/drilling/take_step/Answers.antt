-- SPDX-License-Identifier: Apache-2.0 OR MIT
use Rattle.std.proofs.Common.{◌∙◌, ap, sym, subst}
use Rattle.cr_base.specs.declared.command.Command.{Command}
use Rattle.cr_base.specs.Bounds.{IsBoundedCommand}
use Rattle.cr_drill.specs.declared.drilling.Progress.{Progress}
use Rattle.cr_drill.specs.Drilling.{drilled_of}
use Rattle.cr_drill.proofs.DrillCast.{step-taken}
use Rattle.cr_drill.proofs.DrillCommands.{bounded}
use Rattle.cr_drill.proofs.drilling.take_step.Goals as goal

pub ask_as-requires-clause-bounded : goal.ask_as-requires-clause-bounded
ask_as-requires-clause-bounded c =
    subst (λ (command : Command). IsBoundedCommand command) (sym c.in_ok-command.ensures)
    (bounded c.operation_in-operation.result c.args.step c.roll-roll.result c.requires.few c.roll-roll.ensures.among.3)

pub returns-clause-stepped : goal.returns-clause-stepped
returns-clause-stepped c =
    ap (λ (p : Progress). drilled_of p c.ask_as.new.book.log) c.count.ensures
    ∙ step-taken c.args.phase c.args.step (drilled_of c.args.progress.now c.args.book.now.log) c.move_to.new.book.log
    c.ask_as.new.book.log
    c.conference.result.papers c.roll-roll.new.self.seed c.actor_of.result c.roll-roll.result
    c.operation_in-operation.result c.in_ok-command.command
    c.in_ok-is_accepted.is_accepted
    c.in_ok-move_to.ensures.moved c.conference.ensures.papers c.roll-roll.ensures.value c.roll-roll.ensures.left
    c.operation_in-operation.ensures
    c.in_ok-command.ensures c.actor_of.ensures c.in_ok-is_accepted.ensures.stepped c.in_ok-is_accepted.ensures.accepted
