-- SPDX-License-Identifier: Apache-2.0 OR MIT
use Rattle.std.proofs.Common.{◌∙◌, Some}
use Rattle.cr_base.specs.declared.command.Command.TheVariants.{SetPhase}
use Rattle.cr_policy.specs.Legal.{step}
use Rattle.cr_drill.specs.Drill.{drill_call}
use Rattle.cr_drill.proofs.drilling.set_phase.Goals as goal

pub returns-clause-set : goal.returns-clause-set
returns-clause-set c =
    c.in_ok-ask_as.ensures.stepped
    ∙ (λ i. step c.args.book.now.log (drill_call (Some (c.first_chair.ensures i)) (SetPhase c.args.phase)))
