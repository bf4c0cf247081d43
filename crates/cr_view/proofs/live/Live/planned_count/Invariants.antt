-- SPDX-License-Identifier: Apache-2.0 OR MIT
use Rattle.std.proofs.Common.{◌≡◌, ◌≤◌, ◌+◌, length}
use Rattle.std.specs.Prelude.{filter}
use Rattle.cr_base.specs.Papers.{paper_numbers}
use Rattle.cr_view.specs.Plans.{is_planned_in}
use Rattle.cr_view.proofs.PlanLaws.{left}
use Rattle.cr_view.proofs.live.Live.planned_count.Given as goal

abbrev pub invariant-loop-before : goal.invariant-loop-before
invariant-loop-before l =
    record {
      counted : l.count + length (left (is_planned_in l.self.tables l.user l.per_paper) l.self.tables.papers.papers
          l.before)
          ≡ length (filter (is_planned_in l.self.tables l.user l.per_paper) (paper_numbers l.self.tables.papers));
      few : l.count ≤ l.before;
    }
