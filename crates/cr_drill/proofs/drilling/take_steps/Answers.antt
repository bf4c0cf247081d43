-- SPDX-License-Identifier: Apache-2.0 OR MIT
use Rattle.std.proofs.Common.{◌∙◌, arith}
use Rattle.cr_drill.specs.Drill.{Drilled}
use Rattle.cr_drill.specs.Drilling.{drilled_of}
use Rattle.cr_drill.proofs.DrillCast.{drilled-next, stepped-in}
use Rattle.cr_drill.proofs.drilling.take_steps.Goals as goal

pub loop-step-init : goal.loop-step-init
loop-step-init c = record {
  drilled = (λ i. record { seed = c.args.seed; history = c.requires.opened i; accepted = 0; refused = 0 });
  cast = c.requires.cast;
  seed = c.requires.seed;
  counts = (omega arith, omega arith);
}

pub loop-step-preserved : goal.loop-step-preserved
loop-step-preserved c =
    let d : Drilled = drilled_of c.loop-step.progress c.loop-step.book.log in
    let told = c.in_ok-take_step.ensures in
    record {
      drilled = drilled-next c.args.seed c.args.steps c.loop-step.step d
          (drilled_of c.take_step.new.progress c.take_step.new.book.log)
          c.loop-step.invariant.drilled (told.stepped ∙ stepped-in c.args.steps c.loop-step.step c.phase_at.result d
          c.phase_at.ensures);
      cast = told.cast;
      seed = told.seed;
      counts = told.counts;
    }
