-- SPDX-License-Identifier: Apache-2.0 OR MIT
use Rattle.std.proofs.Common.{arith}
use Rattle.cr_assign.proofs.EarlierLaws.{labels_in-from}
use Rattle.cr_assign.proofs.seats.Seats.labels_behind.Goals as goal

pub returns : goal.returns
returns c =
    let n = labels_in-from c.args.paper c.args.self.now.seats c.args.earlier.now in
    omega (arith, n, c.labels_drawn.ensures.value, c.labels_given.ensures)
