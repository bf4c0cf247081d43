-- SPDX-License-Identifier: Apache-2.0 OR MIT
use Rattle.std.proofs.Common.{◌≡◌, ◌++◌, take}
use Rattle.cr_drill.specs.Drill.{views_text}
use Rattle.cr_drill.proofs.drill_summary.append_view_counts.Given as goal

abbrev pub invariant-loop-user : goal.invariant-loop-user
invariant-loop-user l = l.text.items ≡ l.fn.text.items ++ views_text l.book.log (take l.user-index l.users)
