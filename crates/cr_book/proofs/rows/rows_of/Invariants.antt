-- SPDX-License-Identifier: Apache-2.0 OR MIT
use Rattle.std.proofs.Common.{◌≡◌, take}
use Rattle.cr_base.specs.Rows.{rows_of}
use Rattle.cr_book.proofs.rows.rows_of.Given as goal

abbrev pub invariant-loop-stamped : goal.invariant-loop-stamped
invariant-loop-stamped l = l.rows.items ≡ rows_of (take l.stamped-index l.group)
