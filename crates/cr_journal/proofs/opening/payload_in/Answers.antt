-- SPDX-License-Identifier: Apache-2.0 OR MIT
use Rattle.std.proofs.Common.{◌+◌, ◌<◌, arith}
use Rattle.cr_journal.proofs.Gating.{no_length, open_there, too_long}
use Rattle.cr_journal.proofs.opening.payload_in.Goals as goal
use Rattle.cr_journal.proofs.opening.payload_in.Goals.{then-many-lt9-via-then-many-lt9}
use Rattle.cr_journal.proofs.opening.payload_in.Goals.{then-many-lt9-via-else-many-lt9+then-many-len}

pub returns-in_default-clause-gate : goal.returns-in_default-clause-gate
returns-in_default-clause-gate c =
    λ bytes is size. no_length bytes c.args.behind.now c.args.many is size c.in_default.ensures

pub returns-then-many-lt9-clause-gate : goal.returns-then-many-lt9-clause-gate
returns-then-many-lt9-clause-gate c = λ bytes is size.
    let few : c.args.many < 9 + c.in-Some.len = elim c.then-many-lt9.branch [
      | then-many-lt9-via-then-many-lt9 w ↦ omega (arith, w.if-many-lt9.true)
      | then-many-lt9-via-else-many-lt9+then-many-len w ↦ omega (arith, w.if-many-lt9.false, w.if-many-len.true)
    ] in
    too_long bytes c.args.behind.now c.args.many is size c.in-Some.len c.in-Some.field-0-1.now
    (λ i. omega (arith, c.type_inv.behind i)) c.in-Some.ensures few

pub returns-clause-gate : goal.returns-clause-gate
returns-clause-gate c = λ bytes is size.
    open_there bytes c.args.behind.now c.args.many is size c.in-Some.len c.in-Some.field-0-1.now
    (λ i. omega (arith, c.type_inv.behind i)) c.in-Some.ensures
    (omega (arith, c.if-many-lt9.false, c.if-many-len.false))
