-- SPDX-License-Identifier: Apache-2.0 OR MIT
use Rattle.cr_match.proofs.Common.{◌≡◌, ◌*◌, ◌≤◌, IsRoomy, IsFitting, placed}
use Rattle.cr_match.proofs.raise.fill.Given as goal

abbrev pub invariant-loop-place : goal.invariant-loop-place
invariant-loop-place l =
    IsFitting l.board l.levels l.draft.choice l.draft.moves × IsRoomy l.board l.trail
    × (l.levels.nobody ≤ 400040 * l.place) × (placed l.board l.draft.choice ≡ l.place)
