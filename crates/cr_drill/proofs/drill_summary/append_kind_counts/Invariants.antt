-- SPDX-License-Identifier: Apache-2.0 OR MIT
use Rattle.std.proofs.Common.{◌≡◌, ◌++◌, take}
use Rattle.cr_drill.specs.Drill.{kinds_text}
use Rattle.cr_drill.proofs.drill_summary.append_kind_counts.Given as goal

abbrev pub invariant-loop-kind : goal.invariant-loop-kind
invariant-loop-kind l = l.text.items ≡ l.fn.text.items ++ kinds_text l.book.log (take l.kind-index l.kinds)
