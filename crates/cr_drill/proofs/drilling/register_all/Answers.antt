-- SPDX-License-Identifier: Apache-2.0 OR MIT
use Rattle.std.proofs.Common.{◌≡◌, ◌∙◌, ap, arith}
use Rattle.cr_drill.specs.Cast.{cast_digest}
use Rattle.cr_drill.specs.Drill.{registered_first}
use Rattle.cr_drill.proofs.DrillCast.{cast-registered}
use Rattle.cr_drill.proofs.drilling.register_all.Goals as goal

pub returns-clause-cast : goal.returns-clause-cast
returns-clause-cast c =
    let all : c.loop-before.before ≡ 8 = omega (arith, c.loop-before-test.false, c.loop-before.auto.before-end) in
    cast-registered cast_digest c.loop-before.book.log c.loop-before.invariant.legal
    (c.loop-before.invariant.registered ∙ ap (registered_first cast_digest) all)
