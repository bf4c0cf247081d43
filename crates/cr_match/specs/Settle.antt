-- SPDX-License-Identifier: Apache-2.0 OR MIT
-- Pairs settled one after another: the table of a problem, and what is kept meanwhile.
use Rattle.std.specs.Prelude.{◌≡◌, ℕ, ◌<◌, ◌≤◌, ◌⊎◌, ◌↔◌, ◌==◌, Bool, List, length, map, slice_index}
use Rattle.std.specs.Prelude.{slice_index_or}
use Rattle.std.specs.Prelude.{true, false, pos, ◌+ℤ◌, ◌≤ℤ◌}
use Rattle.cr_match.specs.Answer.{AreDistinct, AreInside}
use Rattle.cr_match.specs.Board.{IsBoard, worth, price_of, AreLong, Suits}
use Rattle.cr_match.specs.Draft.{cell, Alters, Fits, IsDraft, IsFree, Limits, Turns}
use Rattle.cr_match.specs.Plan.{above, kept, IsPlan, total_weight}
use Rattle.cr_match.specs.Search.{Takes}
use Rattle.cr_match.specs.declared.board.Board.{Board}
use Rattle.cr_match.specs.declared.board.Levels.{Levels}
use Rattle.cr_match.specs.declared.draft.Choice.{Choice}
use Rattle.cr_match.specs.declared.moves.Moves.{Moves}
use Rattle.cr_match.specs.declared.problem.Pair.{Pair}
use Rattle.cr_match.specs.declared.problem.Problem.{Problem}

abbrev pub zero_pair : Pair
zero_pair = record { paper = 0; member = 0; weight = pos 0 }

-- pair j
abbrev pub nth : List Pair → ℕ → Pair
nth es j = slice_index_or es j zero_pair

-- what the pair weighs, lifted
abbrev pub lifted : Pair → ℕ
lifted e = above (e.weight +ℤ pos 1073741824)

-- the table of pairs: what each weighs, lifted, and 0 where there is none
pub record IsBoardFor (es : List Pair) (b : Board) : Type 0 where
  pub board : IsBoard b
  pub inside : AreInside b.papers b.members es
  pub distinct : AreDistinct es
  pub weights : (j : ℕ) → j < length es → worth b (nth es j).paper (nth es j).member ≡ lifted (nth es j)
  pub none : (p m : ℕ) → p < b.papers → m < b.members → (worth b p m ≡ 0)
      ⊎ ((j : ℕ) × (j < length es) × ((nth es j).paper ≡ p) × ((nth es j).member ≡ m))

-- the table of a problem
pub record IsBoardOf (problem : Problem) (b : Board) : Type 0 where
  pub table : IsBoardFor problem.pairs.items b
  pub sides : (b.papers ≡ problem.papers) × (b.members ≡ problem.members)
  pub limits : (b.want ≡ problem.per_paper) × (b.load ≡ problem.load)

-- whether the pair is held
abbrev pub is_held : Board → Choice → Pair → Bool
is_held b c e = cell b c e.paper e.member == 1

-- the pairs that are held
abbrev pub chosen : Board → Choice → List Pair → List Pair
chosen b c es = kept (map (is_held b c) es) es

-- a full plan with prices that show that none is worth more
pub record IsBest (b : Board) (v : Levels) (c : Choice) : Type 0 where
  pub long : AreLong b v
  pub suits : Suits b v c
  pub full : (p : ℕ) → p < b.papers → slice_index c.given.items p ≡ b.want
  pub fits : Fits b v.members.items b.members c
  pub priced : (p : ℕ) → p < b.papers → 0 < slice_index v.papers.items p

-- marks that are the same before pair i
abbrev pub SameTo : (Pair → Bool) → List Pair → List Bool → ℕ → Type 0
SameTo h es cs i = (j : ℕ) → j < i → slice_index_or cs j false ≡ h (nth es j)

-- of the plans that are worth as much, one that is the same before pair i has it only where this one does
abbrev pub IsTurned : ℕ → ℕ → ℕ → List Pair → (Pair → Bool) → ℕ → Type 0
IsTurned papers want load es h i = (cs : List Bool) → IsPlan papers want load (kept cs es)
    → total_weight (kept (map h es) es) ≤ℤ total_weight (kept cs es) → SameTo h es cs i
    → slice_index_or cs i false ≡ true → h (nth es i) ≡ true

-- none comes before it within the first n pairs
abbrev pub NoneBefore : ℕ → ℕ → ℕ → List Pair → (Pair → Bool) → ℕ → Type 0
NoneBefore papers want load es h n = (i : ℕ) → i < n → IsTurned papers want load es h i

-- of the pairs those before the i-th are settled: only later ones may change, if they are worth their prices; and no
-- other plan that is worth as much comes before this one within the first k pairs
pub record IsSettling (es : List Pair) (b : Board) (v : Levels) (c : Choice) (u : Moves) (i k : ℕ) : Type 0 where
  pub best : IsBest b v c
  pub draft : IsDraft b c u
  pub free : (p m : ℕ) → p < b.papers → m < b.members → IsFree b u p m → worth b p m ≡ price_of v p m
  pub tight : (j : ℕ) → i ≤ j → j < length es
      → worth b (nth es j).paper (nth es j).member ≡ price_of v (nth es j).paper (nth es j).member
      → IsFree b u (nth es j).paper (nth es j).member
  pub closed : (j : ℕ) → j < i → j < length es → IsFree b u (nth es j).paper (nth es j).member → ⊥
  pub spare : (x : ℕ) → x < b.members → Takes b u b.papers x ↔ (slice_index v.members.items x ≡ 0)
  pub first : NoneBefore b.papers b.want b.load es (is_held b c) k

-- a turn makes room for the pair, which then comes in, and may not change
pub record Brings (b : Board) (p m : ℕ) (c : Choice) (u : Moves) (e : Choice) (z : Moves) : Type 0 where
  pub choice : Choice
  pub moves : Moves
  pub turns : Turns b p m c u choice moves
  pub alters : Alters b p m true choice e
  pub limits : Limits b e p m moves z
