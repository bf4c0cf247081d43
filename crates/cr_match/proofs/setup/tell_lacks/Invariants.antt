-- SPDX-License-Identifier: Apache-2.0 OR MIT
use Rattle.cr_match.proofs.Common.{◌≡◌, ◌≢◌, ◌⊎◌, ◌↔◌, ℕ, ◌<◌, ◌≤◌, true, AreMoves, Drops}
use Rattle.cr_match.proofs.setup.tell_lacks.Given as goal

abbrev pub invariant-loop-p : goal.invariant-loop-p
invariant-loop-p l =
    AreMoves l.board l.moves × (l.moves.takes.items ≡ l.fn.moves.takes.items)
    × ((q : ℕ) → q < l.p → Drops l.board l.moves l.board.members q ↔ (l.lacks ≡ true))
    × ((x q : ℕ) → q ≤ l.board.papers → (x ≢ l.board.members) ⊎ (q ≡ l.board.papers)
    → Drops l.board l.moves x q ↔ Drops l.board l.fn.moves x q)
