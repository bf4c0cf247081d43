-- SPDX-License-Identifier: Apache-2.0 OR MIT
use Rattle.cr_match.proofs.Common.{◌≡◌, ◌↔◌, ℕ, ◌<◌, get_or, AreMoves, Takes}
use Rattle.cr_match.proofs.greatest.tell_spare.Given as goal

abbrev pub invariant-loop-m : goal.invariant-loop-m
invariant-loop-m l =
    AreMoves l.board l.moves × (l.moves.drops.items ≡ l.fn.moves.drops.items)
    × ((q x : ℕ) → q < l.board.papers → x < l.board.members → Takes l.board l.moves q x ↔ Takes l.board l.fn.moves q x)
    × ((x : ℕ) → x < l.m → Takes l.board l.moves l.board.papers x ↔ (get_or l.levels.members.items x 0 ≡ 0))
