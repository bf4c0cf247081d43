-- SPDX-License-Identifier: Apache-2.0 OR MIT
use Rattle.std.proofs.Common.{Some}
use Rattle.cr_view.proofs.NobodyLaws.{nobody-author, nobody-conflicted, nobody-external, nobody-seat}
use Rattle.cr_view.proofs.live.Live.tie_to.Goals as goal

pub returns-in-None-clause-tie : goal.returns-in-None-clause-tie
returns-in-None-clause-tie g c =
    let t = c.args.self.now.tables in
    let u = c.args.user.now in
    λ i. record {
      author = nobody-author t.ties u (Some c.args.paper) c.in-None.is i;
      conflicted = nobody-conflicted t.ties u (Some c.args.paper) c.in-None.is i;
      label = nobody-seat t.seats u c.args.paper c.in-None.is i;
      external = nobody-external t u c.args.paper c.in-None.is i;
    }
