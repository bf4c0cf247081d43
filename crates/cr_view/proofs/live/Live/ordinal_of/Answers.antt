-- SPDX-License-Identifier: Apache-2.0 OR MIT
use Rattle.cr_view.proofs.NobodyLaws.{nobody-seat}
use Rattle.cr_view.proofs.live.Live.ordinal_of.Goals as goal

pub returns-in-None : goal.returns-in-None
returns-in-None c = nobody-seat c.args.self.now.tables.seats c.args.user.now c.args.paper c.in-None.is
