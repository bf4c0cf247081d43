-- SPDX-License-Identifier: Apache-2.0 OR MIT
use Rattle.cr_match.proofs.Common.{IsSearched, IsSettling}
use Rattle.cr_match.proofs.settle.settle_all.Given as goal

abbrev pub invariant-loop-i : goal.invariant-loop-i
invariant-loop-i l =
    IsSettling l.pairs l.board l.levels l.draft.choice l.draft.moves l.i l.i
    × IsSearched l.board l.draft.moves l.order.searched l.order.trail
