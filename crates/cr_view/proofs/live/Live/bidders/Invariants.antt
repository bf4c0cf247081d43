-- SPDX-License-Identifier: Apache-2.0 OR MIT
use Rattle.std.proofs.Common.{◌≡◌, ◌++◌, drop}
use Rattle.std.specs.Prelude.{map}
use Rattle.cr_view.specs.Replies.{bid_of, bidders_of}
use Rattle.cr_view.proofs.live.Live.bidders.Given as goal

abbrev pub invariant-loop-tie : goal.invariant-loop-tie
invariant-loop-tie l = l.bids.items ++ bidders_of l.self.tables (map bid_of (drop l.tie-index l.ties))
    ≡ bidders_of l.self.tables (map bid_of l.ties)
