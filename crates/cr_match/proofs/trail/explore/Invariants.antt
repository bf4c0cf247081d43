-- SPDX-License-Identifier: Apache-2.0 OR MIT
use Rattle.cr_match.proofs.Common.{ℕ, ◌+◌, ◌-◌, ◌<◌, ◌≤◌, IsRoomy, AreSteps, IsReached, IsExpanded, GoesOn}
use Rattle.cr_match.proofs.trail.explore.Given as goal

abbrev pub invariant-steps : goal.invariant-steps
invariant-steps l =
    IsRoomy l.board l.trail × AreSteps l.board l.moves l.trail.path
    × IsReached l.board l.moves l.target l.trail.papers.items l.trail.path × GoesOn l.initial.trail l.trail
    × (l.trail.next ≤ l.trail.path.count) × (l.trail.path.root ≤ l.trail.next)
    × ((i : ℕ) → i < l.trail.next → IsExpanded l.board l.moves l.trail.papers.items l.trail.path i)

abbrev pub decreases-steps : goal.decreases-steps
decreases-steps l = l.board.members + 1 - l.trail.next
