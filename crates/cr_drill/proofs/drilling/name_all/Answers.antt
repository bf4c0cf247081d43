-- SPDX-License-Identifier: Apache-2.0 OR MIT
use Rattle.cr_drill.proofs.DrillCast.{members-next}
use Rattle.cr_drill.proofs.drilling.name_all.Goals as goal

pub loop-before-preserved : goal.loop-before-preserved
loop-before-preserved c = record {
  named = members-next c.loop-before.before _ c.loop-before.book.log _ c.loop-before.invariant.named
      c.in_ok-name-2.ensures.named;
  cast = c.in_ok-name-2.ensures.cast;
}
