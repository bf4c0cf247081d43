-- SPDX-License-Identifier: Apache-2.0 OR MIT
use Rattle.std.proofs.Common.{◌∙◌, arith}
use Rattle.cr_http.proofs.Moving.{moves_on, reads_below}
use Rattle.cr_http.proofs.fill.fill_to.Goals as goal

pub returns-then-ne-clause-needed : goal.returns-then-ne-clause-needed
returns-then-ne-clause-needed g c =
    let m = c.reading.invariant in
    reads_below _ _ _ _ _ _ _ _ _ m.moves m.needed (omega arith) c.read_more-step.ensures.once

pub reading-preserved : goal.reading-preserved
reading-preserved g c =
    let m = c.reading.invariant in
    let step = c.read_more-step.ensures in
    record {
      moves = moves_on _ _ _ _ _ _ m.moves step.moves;
      needed = reads_below _ _ _ _ _ _ _ _ _ m.moves m.needed (omega arith) step.once;
      count = omega arith;
      steady = step.steady (λ is. let e = rw is at c.ne.ensures in let f = c.if-ne.false in cc (e, f)) ∙ m.steady;
    }
