-- SPDX-License-Identifier: Apache-2.0 OR MIT
use Rattle.std.proofs.Common.{◌≤◌, ◌-◌, length}
use Rattle.cr_pairs.proofs.Halvings.{Leaves}
use Rattle.cr_pairs.proofs.Searches.{AreBefore, AreBehind}
use Rattle.cr_pairs.proofs.pair_map.PairMap.index_of.Given as goal

abbrev pub invariant-loop-low : goal.invariant-loop-low
invariant-loop-low g l =
    (l.low ≤ l.high)
    × (l.high ≤ length l.self.ties)
    × AreBefore l.self.order l.pair l.self.ties l.low
    × AreBehind l.self.order l.pair l.self.ties l.high
    × Leaves (length l.self.ties) (l.high - l.low) l.initial.steps l.steps

abbrev pub decreases-loop-low : goal.decreases-loop-low
decreases-loop-low g l = l.high - l.low
