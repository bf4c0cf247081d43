-- SPDX-License-Identifier: Apache-2.0 OR MIT
use Rattle.std.proofs.Common.{ℕ, List, ◌++◌, ◌∙◌, Option, ap}
use Rattle.cr_base.specs.declared.page.Bidder.{Bidder}
use Rattle.cr_base.specs.declared.pairs.Tie.{Tie}
use Rattle.cr_base.specs.Accounts.{lines_of}
use Rattle.cr_base.specs.Answering.{bidder_told}
use Rattle.cr_base.specs.Lists.{listed}
use Rattle.cr_view.specs.Replies.{bid_of}
use Rattle.cr_view.proofs.ReviewingLaws.{bidders-step}
use Rattle.cr_view.proofs.live.Live.bidders.Goals as goal

pub loop-tie-preserved : goal.loop-tie-preserved
loop-tie-preserved c =
    let t = c.args.self.now.tables in
    let before : List Bidder = c.loop-tie.bids.items in
    let pushed =
    c.in_ok-push_some.ensures
    ∙ ap (λ (o : Option Bidder). before ++ listed o) c.bidder.ensures
    ∙ ap (λ (tie : Tie ℕ). before ++ listed (bidder_told (lines_of t.accounts) (bid_of tie))) c.tie-item.is in
    bidders-step t c.args.ties.now c.loop-tie.tie-index c.tie-item.result before _ _ c.loop-tie-test.true pushed
    c.loop-tie.invariant
