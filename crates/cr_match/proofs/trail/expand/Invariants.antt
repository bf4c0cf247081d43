-- SPDX-License-Identifier: Apache-2.0 OR MIT
use Rattle.cr_match.proofs.Common.{◌≡◌, ℕ, ◌+◌, ◌-◌, ◌<◌, ◌≤◌, Has, Drops, step_of, IsRoomy, AreSteps, IsReached}
use Rattle.cr_match.proofs.Common.{GoesOn}
use Rattle.cr_match.proofs.trail.expand.Given as goal

abbrev pub invariant-papers : goal.invariant-papers
invariant-papers l =
    IsRoomy l.board l.trail × AreSteps l.board l.moves l.trail.path
    × IsReached l.board l.moves l.target l.trail.papers.items l.trail.path × GoesOn l.initial.trail l.trail
    × (l.trail.next ≡ l.initial.trail.next) × (l.member ≡ (step_of l.trail.path l.from).member)
    × ((j : ℕ) → j < l.at → Drops l.board l.moves l.member j → Has l.trail.papers.items j) × (l.at ≤ l.board.papers + 1)

abbrev pub decreases-papers : goal.decreases-papers
decreases-papers l = l.board.papers + 1 - l.at
