-- SPDX-License-Identifier: Apache-2.0 OR MIT
use Rattle.cr_workers.proofs.Lists.{total-cut}
use Rattle.cr_workers.proofs.doors.halve.Goals as goal

pub returns-in-Ok-clause-lefts : goal.returns-in-Ok-clause-lefts
returns-in-Ok-clause-lefts g c =
    total-cut g.D.Door.left _ c.args.doors.items c.split_off.new.self.items c.in-Ok.others.items c.in-Ok.ensures.items
    c.in-Ok.ensures.tail
