-- SPDX-License-Identifier: Apache-2.0 OR MIT
use Rattle.std.proofs.Common.{◌∙◌, ap, Some}
use Rattle.cr_base.specs.declared.command.Command.TheVariants.{Name}
use Rattle.cr_policy.specs.Legal.{step}
use Rattle.cr_drill.specs.Cast.{cast_name}
use Rattle.cr_drill.specs.Drill.{drill_call}
use Rattle.cr_drill.proofs.drilling.name.Goals as goal

pub returns-clause-named : goal.returns-clause-named
returns-clause-named c =
    let name = c.cast_name.ensures ∙ ap cast_name c.new.ensures in
    c.in_ok-ask_as.ensures.stepped
    ∙ (λ i. step c.args.book.now.log (drill_call (Some (c.first_chair.ensures i)) (Name (Some (name i)) c.args.role)))
