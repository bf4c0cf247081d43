-- SPDX-License-Identifier: Apache-2.0 OR MIT
use Rattle.std.proofs.Common.{◌≡◌, ◌++◌, ◌≤◌}
use Rattle.std.specs.List.{flat_map}
use Rattle.cr_base.specs.Reports.{is_accepting, is_undecided, is_rejecting}
use Rattle.cr_reports.specs.ReportLines.{decided, decision_line_at, is_open_to}
use Rattle.cr_reports.proofs.OpenLaws.{passing}
use Rattle.cr_reports.proofs.WalkLaws.{first, where_so}
use Rattle.cr_reports.proofs.decision_lines.append_decisions.Given as goal

abbrev pub invariant-loop-before : goal.invariant-loop-before
invariant-loop-before l = record {
  text : l.into.items
      ≡ l.initial.into.items ++ flat_map (where_so (is_open_to l.live.tables l.fn.user)
      (decision_line_at l.live.tables)) (first l.live.tables.papers.papers l.before);
  accepted : l.tally.accepted ≡ passing l.live.tables l.fn.user (λ p. is_accepting (decided l.live.tables p)) l.before;
  rejected : l.tally.rejected ≡ passing l.live.tables l.fn.user (λ p. is_rejecting (decided l.live.tables p)) l.before;
  undecided : l.tally.undecided ≡ passing l.live.tables l.fn.user (λ p. is_undecided (decided l.live.tables p))
      l.before;
  few : (l.tally.accepted ≤ l.before) × (l.tally.rejected ≤ l.before) × (l.tally.undecided ≤ l.before);
}
