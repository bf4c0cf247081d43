-- SPDX-License-Identifier: Apache-2.0 OR MIT
use Rattle.std.proofs.Common.{◌≡◌, ◌++◌, take}
use Rattle.std.specs.List.{flat_map}
use Rattle.cr_reports.proofs.LoadLaws.{due_line}
use Rattle.cr_reports.proofs.load_lines.append_loads.Given as goal

abbrev pub invariant-loop-line : goal.invariant-loop-line
invariant-loop-line l =
    l.into.items ≡ l.initial.into.items ++ flat_map (due_line l.live.tables l.fn.user) (take l.line-index l.lines)
