-- SPDX-License-Identifier: Apache-2.0 OR MIT
use Rattle.std.proofs.Common.{◌∙◌}
use Rattle.cr_view.proofs.PlanLaws.{bid-is}
use Rattle.cr_view.proofs.live.Live.bid_by.Goals as goal

pub returns : goal.returns
returns c = c.bid_or_zero.ensures.bid ∙ bid-is c.args.self.now.tables c.args.paper c.args.user
