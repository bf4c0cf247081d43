-- SPDX-License-Identifier: Apache-2.0 OR MIT
use Rattle.std.proofs.Common.{length}
use Rattle.cr_base.specs.Ties.{bids_in}
use Rattle.cr_base.proofs.StepLaws.{halves-at_most}
use Rattle.cr_view.proofs.live.Live.bid_or_zero.Goals as goal

pub returns-in-Some-clause-steps : goal.returns-in-Some-clause-steps
returns-in-Some-clause-steps g c =
    rw (← c.self.view_is) (halves-at_most (length (bids_in c.self.inside.ties.ties c.args.paper)) c.args.steps.now
    c.bid_of.new.steps c.bid_of.ensures.steps)

pub returns-in-None-clause-steps : goal.returns-in-None-clause-steps
returns-in-None-clause-steps g c =
    rw (← c.self.view_is) (halves-at_most (length (bids_in c.self.inside.ties.ties c.args.paper)) c.args.steps.now
    c.bid_of.new.steps c.bid_of.ensures.steps)
