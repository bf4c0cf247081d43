-- SPDX-License-Identifier: Apache-2.0 OR MIT
use Rattle.std.proofs.Common.{◌≡◌, ◌++◌}
use Rattle.std.specs.List.{flat_map}
use Rattle.cr_reports.specs.ReportLines.{is_open_to, scores_line_at}
use Rattle.cr_reports.proofs.WalkLaws.{first, where_so}
use Rattle.cr_reports.proofs.score_lines.append_scores.Given as goal

abbrev pub invariant-loop-before : goal.invariant-loop-before
invariant-loop-before l =
    l.into.items
    ≡ l.initial.into.items
    ++ flat_map (where_so (is_open_to l.live.tables l.fn.user) (scores_line_at l.live.tables))
    (first l.live.tables.papers.papers l.before)
