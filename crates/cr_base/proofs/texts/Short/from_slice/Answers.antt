-- SPDX-License-Identifier: Apache-2.0 OR MIT
use Rattle.std.proofs.Common.{arith, ap, length, length-append, length-drop}
use Rattle.cr_base.proofs.RowLaws.{zeros_behind}
use Rattle.cr_base.proofs.texts.Short.from_slice.Goals as goal

pub invariant_of-result : goal.invariant_of-result
invariant_of-result c = (
  c.requires,
  simp (length-append, length-drop) (omega (arith, ap length c.copy_from_slice.ensures.after)),
  zeros_behind _ _ (ap length c.copy_from_slice.ensures.after) c.requires,
)
