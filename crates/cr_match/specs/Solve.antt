-- SPDX-License-Identifier: Apache-2.0 OR MIT
-- What is kept on the way from a problem to its answer.
use Rattle.std.specs.Prelude.{◌≡◌, ℕ, ◌*◌, ◌<◌, ◌≤◌, ◌↔◌, length, slice_index}
use Rattle.cr_match.specs.Draft.{IsDraft}
use Rattle.cr_match.specs.Raise.{IsFitting, placed}
use Rattle.cr_match.specs.Search.{AreMoves, IsRoomy, Takes}
use Rattle.cr_match.specs.Settle.{IsBest, IsBoardOf, IsSettling}
use Rattle.cr_match.specs.declared.board.Board.{Board}
use Rattle.cr_match.specs.declared.board.Levels.{Levels}
use Rattle.cr_match.specs.declared.moves.Moves.{Moves}
use Rattle.cr_match.specs.declared.problem.Problem.{Problem}
use Rattle.cr_match.specs.declared.setup.Work.{Work}

-- each paper has all its members, and no prices are far
pub record IsFilled (problem : Problem) (w : Work) : Type 0 where
  pub board : IsBoardOf problem w.board
  pub fitting : IsFitting w.board w.levels w.draft.choice w.draft.moves
  pub full : placed w.board w.draft.choice ≡ w.board.want * w.board.papers
  pub top : w.levels.nobody ≤ 210000000
  pub trail : IsRoomy w.board w.order.trail

-- a full plan with prices that show that none is worth more
pub record IsSolution (problem : Problem) (w : Work) : Type 0 where
  pub board : IsBoardOf problem w.board
  pub best : IsBest w.board w.levels w.draft.choice
  pub draft : IsDraft w.board w.draft.choice w.draft.moves

-- each pair is settled
abbrev pub IsOrdered : Problem → Work → Type 0
IsOrdered problem w = IsBoardOf problem w.board × IsSettling problem.pairs.items w.board w.levels w.draft.choice
    w.draft.moves (length problem.pairs.items) (length problem.pairs.items)

-- the spare paper may take whoever has no price; all else stays
pub record Spares (b : Board) (v : Levels) (u w : Moves) : Type 0 where
  pub moves : AreMoves b w
  pub drops : w.drops.items ≡ u.drops.items
  pub takes : (q x : ℕ) → q < b.papers → x < b.members → Takes b w q x ↔ Takes b u q x
  pub spare : (x : ℕ) → x < b.members → Takes b w b.papers x ↔ (slice_index v.members.items x ≡ 0)
