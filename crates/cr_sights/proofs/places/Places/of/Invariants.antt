-- SPDX-License-Identifier: Apache-2.0 OR MIT
use Rattle.std.proofs.Common.{length, take, ◌-◌}
use Rattle.cr_sights.specs.Series.{AreLast}
use Rattle.cr_sights.proofs.places.Places.of.Given as goal

abbrev pub invariant-places : goal.invariant-places
invariant-places l = AreLast l.places.places.items (take l.at l.log)

abbrev pub decreases-places : goal.decreases-places
decreases-places l = length l.log - l.at
