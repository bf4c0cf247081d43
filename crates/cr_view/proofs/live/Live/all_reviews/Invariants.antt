-- SPDX-License-Identifier: Apache-2.0 OR MIT
use Rattle.std.proofs.Common.{◌≡◌}
use Rattle.cr_base.specs.Labels.{by_labels}
use Rattle.cr_view.specs.Reviews.{label_reviews}
use Rattle.cr_view.proofs.live.Live.all_reviews.Given as goal

abbrev pub invariant-loop-before : goal.invariant-loop-before
invariant-loop-before l = l.lines.items ≡ by_labels (label_reviews l.self.tables l.by l.paper) l.before
