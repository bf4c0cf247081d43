-- SPDX-License-Identifier: Apache-2.0 OR MIT
use Rattle.cr_match.proofs.Common.{ℕ, ◌<◌, ◌≢◌, AreTold}
use Rattle.cr_match.specs.Tight.{IsSame, Stays}
use Rattle.cr_match.proofs.tight.tighten_paper.Given as goal

abbrev pub invariant-loop-m : goal.invariant-loop-m
invariant-loop-m l =
    Stays l.board l.initial.moves l.moves × ((x : ℕ) → x < l.m → AreTold l.board l.levels l.choice l.moves l.p x)
    × ((q x : ℕ) → q < l.board.papers → x < l.board.members → q ≢ l.p → IsSame l.board l.initial.moves l.moves q x)
