-- SPDX-License-Identifier: Apache-2.0 OR MIT
use Rattle.std.proofs.Common.{ℕ, Bool, List, ◌++◌, ◌∙◌, Option, ap}
use Rattle.cr_base.specs.declared.page.Reviewer.{Reviewer}
use Rattle.cr_base.specs.declared.pairs.Tie.{Tie}
use Rattle.cr_base.specs.declared.seat.Seat.{Seat}
use Rattle.cr_base.specs.Lists.{listed}
use Rattle.cr_reviews.specs.Labels.{has_label}
use Rattle.cr_view.specs.Replies.{holder_name, reviewer_of}
use Rattle.cr_view.proofs.ReviewingLaws.{reviewers-step}
use Rattle.cr_view.proofs.live.Live.reviewers.Goals as goal

pub loop-seat-preserved : goal.loop-seat-preserved
loop-seat-preserved c =
    let t = c.args.self.now.tables in
    let by = c.args.by.now in
    let before : List Reviewer = c.loop-seat.reviewers.items in
    let has : ℕ → Bool = has_label c.args.written.now in
    let pushed =
    c.in_ok-push_some.ensures
    ∙ ap (λ (o : Option Reviewer). before ++ listed o) c.reviewer.ensures
    ∙ ap (λ (name : Option (List ℕ)). before ++ listed (reviewer_of by c.seat-item.result c.has-done.result name))
    c.reviewer_name-name.ensures
    ∙ ap
    (λ (done : Bool). before ++ listed (reviewer_of by c.seat-item.result done (holder_name t by c.seat-item.result)))
    c.has-done.ensures
    ∙ ap (λ (seat : Tie Seat). before ++ listed (reviewer_of by seat (has seat.value.ordinal) (holder_name t by seat)))
    c.seat-item.is in
    reviewers-step t by has c.args.seats.now c.loop-seat.seat-index c.seat-item.result before _ _ c.loop-seat-test.true
    pushed c.loop-seat.invariant
