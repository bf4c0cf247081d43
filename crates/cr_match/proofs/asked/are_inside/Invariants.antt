-- SPDX-License-Identifier: Apache-2.0 OR MIT
use Rattle.cr_match.proofs.Common.{drop, AreInside}
use Rattle.cr_match.proofs.asked.are_inside.Given as goal

abbrev pub invariant-loop-pair : goal.invariant-loop-pair
invariant-loop-pair l =
    (AreInside l.papers l.members l.pairs → AreInside l.papers l.members (drop l.pair-index l.pairs))
    × (AreInside l.papers l.members (drop l.pair-index l.pairs) → AreInside l.papers l.members l.pairs)
