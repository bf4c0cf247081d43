-- SPDX-License-Identifier: Apache-2.0 OR MIT
-- The reader stands for the state that the runs before lead to.
use Rattle.std.proofs.Common.{◌-◌, ◌*◌, ◌≤◌, length}
use Rattle.cr_search_parse.specs.Reading.{State}
use Rattle.cr_search_parse.specs.Standing.{Stands, weight}
use Rattle.cr_search_parse.proofs.StopLaws.{ReadTo}
use Rattle.cr_search_parse.proofs.parsing.read_nodes.Given as goal

abbrev pub invariant-loop-at : goal.invariant-loop-at
invariant-loop-at l =
    (s : State) × ReadTo l.text l.at s × Stands l.reader s × (weight l.reader ≤ 2 * l.at) × (l.at ≤ length l.text)

abbrev pub decreases-loop-at : goal.decreases-loop-at
decreases-loop-at l = length l.text - l.at
