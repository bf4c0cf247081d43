-- SPDX-License-Identifier: Apache-2.0 OR MIT
use Rattle.std.proofs.Common.{◌≡◌, ◌≤◌}
use Rattle.cr_drill.specs.Drill.{drilled_for}
use Rattle.cr_drill.specs.Drilling.{HasCast, drilled_of}
use Rattle.cr_drill.proofs.drilling.take_steps.Given as goal

abbrev pub invariant-loop-step : goal.invariant-loop-step
invariant-loop-step l =
    record {
      drilled : drilled_of l.progress l.book.log ≡ drilled_for l.seed l.steps l.step;
      cast : HasCast l.book.log;
      seed : l.progress.dice.seed ≤ 4294967295;
      counts : (l.progress.accepted ≤ l.step) × (l.progress.refused ≤ l.step);
    }
