-- SPDX-License-Identifier: Apache-2.0 OR MIT
use Rattle.std.proofs.Common.{◌≡◌, ◌++◌, List, length}
use Rattle.cr_base.specs.declared.row.Row.{Row}
use Rattle.cr_journal.specs.Grammar.{FitsGroup, payload}
use Rattle.cr_journal.proofs.reading.read_rows.Given as goal

abbrev pub invariant-rows : goal.invariant-rows
invariant-rows l = (group : List Row) × FitsGroup group × (l.bytes ≡ payload group ++ l.rest)
    × (l.rows.items ≡ l.initial.rows.items ++ group)

abbrev pub decreases-rows : goal.decreases-rows
decreases-rows l = length l.rest
