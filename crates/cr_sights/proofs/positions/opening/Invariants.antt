-- SPDX-License-Identifier: Apache-2.0 OR MIT
use Rattle.std.proofs.Common.{◌≡◌, ◌≤◌, ◌+◌, length, drop, ◌-◌}
use Rattle.cr_base.specs.declared.entry.Stamped.{Stamped}
use Rattle.cr_base.specs.History.{opens}
use Rattle.cr_base.specs.Lists.{until}
use Rattle.cr_sights.proofs.positions.opening.Given as goal

abbrev pub invariant-entries : goal.invariant-entries
invariant-entries l = record {
  within : l.at ≤ length l.log;
  left : l.at + length (until (λ (s : Stamped). opens l.phase s.entry) (drop l.at l.log))
      ≡ length (until (λ (s : Stamped). opens l.phase s.entry) l.log);
}

abbrev pub decreases-entries : goal.decreases-entries
decreases-entries l = length l.log - l.at
