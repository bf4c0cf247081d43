-- SPDX-License-Identifier: Apache-2.0 OR MIT
use Rattle.cr_match.proofs.Distinct.{AreApart, Marks}
use Rattle.cr_match.proofs.asked.are_distinct.Given as goal

abbrev pub invariant-loop-i : goal.invariant-loop-i
invariant-loop-i l = AreApart l.pairs l.i × Marks l.seen l.members l.pairs l.i
