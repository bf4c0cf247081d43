-- SPDX-License-Identifier: Apache-2.0 OR MIT
use Rattle.std.proofs.Common.{◌≡◌, ◌≤◌, ◌*◌}
use Rattle.cr_base.specs.Labels.{by_labels}
use Rattle.cr_view.specs.Reports.{score_sum, score_under}
use Rattle.cr_view.proofs.live.Live.scores.Given as goal

abbrev pub invariant-loop-before : goal.invariant-loop-before
invariant-loop-before l =
    (l.scores ≡ score_sum (by_labels (score_under l.self.tables l.fn.paper) l.before)) × (l.scores.count ≤ l.before)
    × (l.scores.sum ≤ 5 * l.scores.count)
