-- SPDX-License-Identifier: Apache-2.0 OR MIT
use Rattle.std.proofs.Common.{◌≡◌}
use Rattle.tests_of_ports.proofs.locks.act_often.Given as goal

abbrev pub invariant-loop-step : goal.invariant-loop-step
invariant-loop-step g l =
    (l.pass.lock ≡ l.fn.pass.lock) × (l.pass.share ≡ l.fn.pass.share) × (l.pass.turns ≡ l.step-counter)
