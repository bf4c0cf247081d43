-- SPDX-License-Identifier: Apache-2.0 OR MIT
use Rattle.std.proofs.Common.{◌-◌, ◌≤◌, length}
use Rattle.json.specs.Written.{PlainBetween}
use Rattle.cr_json.proofs.runs.blocks_end.Given as goal

abbrev pub invariant-ahead : goal.invariant-ahead
invariant-ahead l =
    record { after : l.start ≤ l.end; within : l.end ≤ length l.text; plain : PlainBetween l.text l.start l.end }

abbrev pub decreases-ahead : goal.decreases-ahead
decreases-ahead l = length l.text - l.end
