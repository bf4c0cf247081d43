-- SPDX-License-Identifier: Apache-2.0 OR MIT
use Rattle.cr_match.proofs.Common.{◌≡◌, ◌++◌, chosen, drop}
use Rattle.cr_match.proofs.tell.chosen_pairs.Given as goal

abbrev pub invariant-loop-i : goal.invariant-loop-i
invariant-loop-i l =
    l.chosen.items ++ chosen l.board l.choice (drop l.i l.pairs) ≡ chosen l.board l.choice l.pairs
