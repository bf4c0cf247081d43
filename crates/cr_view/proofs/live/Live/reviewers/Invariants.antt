-- SPDX-License-Identifier: Apache-2.0 OR MIT
use Rattle.std.proofs.Common.{◌≡◌, ◌++◌, drop}
use Rattle.cr_reviews.specs.Labels.{has_label}
use Rattle.cr_view.specs.Replies.{seated, reviewers_of}
use Rattle.cr_view.proofs.live.Live.reviewers.Given as goal

abbrev pub invariant-loop-seat : goal.invariant-loop-seat
invariant-loop-seat l =
    l.reviewers.items ++ reviewers_of l.self.tables l.by (has_label l.written) (seated (drop l.seat-index l.seats))
    ≡ reviewers_of l.self.tables l.by (has_label l.written) (seated l.seats)
