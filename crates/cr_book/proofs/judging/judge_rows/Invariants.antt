-- SPDX-License-Identifier: Apache-2.0 OR MIT
use Rattle.std.proofs.Common.{◌≡◌, ◌≤◌, ◌+◌, drop, length}
use Rattle.std.specs.Prelude.{vec_capacity}
use Rattle.cr_book.proofs.JudgingLaws.{SoFar}
use Rattle.cr_book.proofs.judging.judge_rows.Given as goal

abbrev pub invariant-loop-i : goal.invariant-loop-i
invariant-loop-i l = record {
  so : SoFar l.live.tables l.stamp l.rows (l.i + 1) (drop l.i l.rows) l.entries.items;
  count : length l.entries.items ≡ l.i;
  room : length l.rows ≤ vec_capacity l.entries;
}
