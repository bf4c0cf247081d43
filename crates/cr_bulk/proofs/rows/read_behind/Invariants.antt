-- SPDX-License-Identifier: Apache-2.0 OR MIT
use Rattle.std.proofs.Common.{◌≡◌, ◌≤◌, ◌-◌, length}
use Rattle.cr_bulk.specs.Reading.{IsReading, left_of}
use Rattle.cr_bulk.specs.Rows.{rows_told}
use Rattle.cr_bulk.proofs.RowLaws.{prepended}
use Rattle.cr_bulk.proofs.rows.read_behind.Given as goal

abbrev pub invariant-rows : goal.invariant-rows
invariant-rows l =
    IsReading l.reader × (length l.rows.items ≤ 512)
    × (rows_told (left_of l.initial.reader) ≡ prepended l.rows.items (rows_told (left_of l.reader)))

abbrev pub decreases-rows : goal.decreases-rows
decreases-rows l = 512 - length l.rows.items
