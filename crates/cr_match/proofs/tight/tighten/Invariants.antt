-- SPDX-License-Identifier: Apache-2.0 OR MIT
use Rattle.cr_match.proofs.Common.{ℕ, ◌<◌, AreTold}
use Rattle.cr_match.specs.Tight.{Stays}
use Rattle.cr_match.proofs.tight.tighten.Given as goal

abbrev pub invariant-loop-p : goal.invariant-loop-p
invariant-loop-p l =
    Stays l.board l.initial.moves l.moves
    × ((q m : ℕ) → q < l.p → m < l.board.members → AreTold l.board l.levels l.choice l.moves q m)
