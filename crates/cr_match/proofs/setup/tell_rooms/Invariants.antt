-- SPDX-License-Identifier: Apache-2.0 OR MIT
use Rattle.cr_match.proofs.Common.{◌≡◌, ◌≢◌, ◌⊎◌, ◌↔◌, ℕ, ◌<◌, ◌≤◌, true, AreMoves, Drops}
use Rattle.cr_match.proofs.setup.tell_rooms.Given as goal

abbrev pub invariant-loop-m : goal.invariant-loop-m
invariant-loop-m l =
    AreMoves l.board l.moves × (l.moves.takes.items ≡ l.fn.moves.takes.items)
    × ((x : ℕ) → x < l.m → Drops l.board l.moves x l.board.papers ↔ (l.room ≡ true))
    × ((x q : ℕ) → q ≤ l.board.papers → (q ≢ l.board.papers) ⊎ (x ≡ l.board.members)
    → Drops l.board l.moves x q ↔ Drops l.board l.fn.moves x q)
