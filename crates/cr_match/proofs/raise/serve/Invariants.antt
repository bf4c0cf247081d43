-- SPDX-License-Identifier: Apache-2.0 OR MIT
use Rattle.cr_match.proofs.Common.{◌≡◌, ◌+◌, ◌-◌, ◌*◌, ◌≤◌, IsFitting, IsBegun, placed}
use Rattle.cr_match.proofs.raise.serve.Given as goal

abbrev pub invariant-prices : goal.invariant-prices
invariant-prices l =
    IsFitting l.board l.levels l.draft.choice l.draft.moves
    × IsBegun l.board l.levels l.draft.moves l.trail l.fn.levels.nobody
    × (placed l.board l.draft.choice ≡ placed l.board l.fn.draft.choice)
    × (l.levels.nobody ≤ l.fn.levels.nobody + 40 * (l.board.members + 1))

abbrev pub decreases-prices : goal.decreases-prices
decreases-prices l = l.fn.levels.nobody + 40 * (l.board.members + 1) + 1 - l.levels.nobody
