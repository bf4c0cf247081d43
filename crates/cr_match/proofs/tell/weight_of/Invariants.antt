-- SPDX-License-Identifier: Apache-2.0 OR MIT
use Rattle.cr_match.proofs.Common.{◌≡◌, ◌*◌, pos, ◌+ℤ◌, ◌-ℤ◌, ◌≤ℤ◌, drop, total_weight}
use Rattle.cr_match.proofs.tell.weight_of.Given as goal

abbrev pub invariant-loop-pair : goal.invariant-loop-pair
invariant-loop-pair l =
    ((l.total +ℤ total_weight (drop l.pair-index l.pairs)) ≡ total_weight l.pairs)
    × (l.total ≤ℤ pos (2147483648 * l.pair-index)) × ((pos 0 -ℤ pos (2147483648 * l.pair-index)) ≤ℤ l.total)
