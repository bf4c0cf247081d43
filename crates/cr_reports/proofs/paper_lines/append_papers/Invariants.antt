-- SPDX-License-Identifier: Apache-2.0 OR MIT
use Rattle.std.proofs.Common.{◌≡◌, ◌++◌, Some}
use Rattle.std.specs.List.{flat_map}
use Rattle.cr_base.specs.Reports.{paper_line}
use Rattle.cr_base.specs.Sources.{facts_of_tables, shown_in_tables}
use Rattle.cr_reports.proofs.WalkLaws.{first}
use Rattle.cr_reports.proofs.paper_lines.append_papers.Given as goal

abbrev pub invariant-loop-before : goal.invariant-loop-before
invariant-loop-before l =
    l.into.items
    ≡ l.initial.into.items
    ++ flat_map (paper_line (facts_of_tables l.live.tables (Some l.fn.user)) (shown_in_tables l.live.tables))
    (first l.live.tables.papers.papers l.before)
