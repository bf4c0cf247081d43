-- SPDX-License-Identifier: Apache-2.0 OR MIT
use Rattle.std.proofs.Common.{◌≡◌, arith}
use Rattle.cr_reports.proofs.CountLaws.{filled}
use Rattle.cr_reports.proofs.counting.no_loads.Goals as goal

pub returns : goal.returns
returns c =
    let end : c.loop.counter ≡ 10000 = omega arith in
    filled c.loop.counter 10000 c.loop.loads.items c.loop.invariant end
