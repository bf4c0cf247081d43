-- SPDX-License-Identifier: Apache-2.0 OR MIT
-- A search: whom it reaches, by which steps, and when it has reached all.
use Rattle.std.specs.Prelude.{◌≡◌, ◌≢◌, ℕ, ◌+◌, ◌*◌, ◌<◌, ◌≤◌, ◌⊎◌, ◌↔◌, List, length, slice_index_or, slice_set}
use Rattle.cr_match.specs.Rows.{Has, RowHas, gone}
use Rattle.cr_match.specs.declared.board.Board.{Board}
use Rattle.cr_match.specs.declared.moves.Moves.{Moves}
use Rattle.cr_match.specs.declared.trail.Path.{Path}
use Rattle.cr_match.specs.declared.trail.Step.{Step}
use Rattle.cr_match.specs.declared.trail.Trail.{Trail}

-- paper q may take member m
abbrev pub Takes : Board → Moves → ℕ → ℕ → Type 0
Takes b v q m = RowHas b.wide v.takes.items q m

-- member m may drop paper q
abbrev pub Drops : Board → Moves → ℕ → ℕ → Type 0
Drops b v m q = RowHas b.tall v.drops.items m q

abbrev pub step_of : Path → ℕ → Step
step_of t i = slice_index_or t.steps.items i (record { member = 0; paper = 0; from = 0 })

-- rows that have a place for each member, and for each paper and the spare one
pub record IsSized (b : Board) : Type 0 where
  pub few : (b.papers ≤ 10000) × (b.members ≤ 10000) × (b.wide ≤ 10000) × (b.tall ≤ 10000)
  pub wide : b.members ≤ 64 * b.wide
  pub tall : b.papers < 64 * b.tall

-- rows for one more paper and one more member, with nothing beyond
pub record AreMoves (b : Board) (v : Moves) : Type 0 where
  pub sized : IsSized b
  pub takes : length v.takes.items ≡ (b.papers + 1) * b.wide
  pub drops : length v.drops.items ≡ (b.members + 1) * b.tall
  pub taken : (q m : ℕ) → m < 64 * b.wide → Takes b v q m → m < b.members
  pub dropped : (m q : ℕ) → q < 64 * b.tall → Drops b v m q → q ≤ b.papers

-- the lists of a search are as long as it needs
pub record IsLong (b : Board) (t : Path) : Type 0 where
  pub members : (b.wide ≤ length t.members.items) × (b.members < 64 * length t.members.items)
      × (length t.members.items ≤ 10001)
  pub steps : length t.steps.items ≡ b.members + 1

abbrev pub IsRoomy : Board → Trail → Type 0
IsRoomy b t = (length t.papers.items ≡ b.tall) × IsLong b t.path

-- each step but a root is of a paper that may take its member, and that the member of an earlier step may drop; no two
-- are of the same member, and what is marked as reached has a step; those behind the last root lead back to it
pub record AreSteps (b : Board) (v : Moves) (t : Path) : Type 0 where
  pub count : t.count ≡ gone t.members.items (b.members + 1)
  pub inside : (i : ℕ) → i < t.count → (step_of t i).member ≤ b.members
  pub taken : (i : ℕ) → t.root < i → i < t.count → (step_of t i).member < b.members
  pub rows : (i : ℕ) → i < t.count → (step_of t i).paper ≤ b.papers
  pub seen : (i : ℕ) → i < t.count → Has t.members.items (step_of t i).member
  pub apart : (i j : ℕ) → j < i → i < t.count → (step_of t i).member ≢ (step_of t j).member
  pub found : (m : ℕ) → m ≤ b.members → Has t.members.items m → (i : ℕ) × (i < t.count) × ((step_of t i).member ≡ m)
  pub leads : (i : ℕ) → i < t.count → ((step_of t i).from ≡ i) ⊎ (((step_of t i).from < i)
      × Takes b v (step_of t i).paper (step_of t i).member
      × Drops b v (step_of t (step_of t i).from).member (step_of t i).paper)
  pub after : (i : ℕ) → t.root < i → i < t.count → (t.root ≤ (step_of t i).from) × ((step_of t i).from < i)

-- no member that is reached may drop the target
abbrev pub NoneDrops : Board → Moves → ℕ → Path → Type 0
NoneDrops b v target t = (i : ℕ) → i < t.count → Drops b v (step_of t i).member target → ⊥

-- all that the paper may take is reached
abbrev pub IsSpread : Board → Moves → Path → ℕ → Type 0
IsSpread b v t q = (m : ℕ) → m < b.members → Takes b v q m → Has t.members.items m

-- later in the same search
pub record Goes (s t : Path) : Type 0 where
  pub count : s.count ≤ t.count
  pub steps : (i : ℕ) → i < s.count → step_of t i ≡ step_of s i
  pub members : (m : ℕ) → Has s.members.items m → Has t.members.items m

-- the same, where papers are reached too, behind the same root
abbrev pub GoesOn : Trail → Trail → Type 0
GoesOn s t = Goes s.path t.path × ((q : ℕ) → Has s.papers.items q → Has t.papers.items q) × (t.path.root ≡ s.path.root)

-- the target is out of reach so far; of the papers that are reached, all that they may take is reached, and each of
-- them may be dropped by a member who is
pub record IsReached (b : Board) (v : Moves) (target : ℕ) (papers : List ℕ) (t : Path) : Type 0 where
  pub none : NoneDrops b v target t
  pub away : Has papers target → ⊥
  pub spread : (q : ℕ) → Has papers q → IsSpread b v t q
  pub dropped : (q : ℕ) → q ≤ b.papers → Has papers q → (i : ℕ) × (i < t.count) × Drops b v (step_of t i).member q

-- what the member of step i may drop is reached
abbrev pub IsExpanded : Board → Moves → List ℕ → Path → ℕ → Type 0
IsExpanded b v papers t i = (q : ℕ) → q ≤ b.papers → Drops b v (step_of t i).member q → Has papers q

-- the target is out of reach, and all steps are expanded
abbrev pub IsDone : Board → Moves → ℕ → Trail → Type 0
IsDone b v target t = IsReached b v target t.papers.items t.path × (t.next ≡ t.path.count)
    × ((i : ℕ) → i < t.path.count → IsExpanded b v t.papers.items t.path i)

-- all that leads from those who are reached is reached, each a member, and none of them may drop the target
pub record IsSearched (b : Board) (v : Moves) (target : ℕ) (t : Trail) : Type 0 where
  pub roomy : IsRoomy b t
  pub steps : AreSteps b v t.path
  pub done : IsDone b v target t
  pub real : (i : ℕ) → i < t.path.count → (step_of t.path i).member < b.members

-- one more step: the paper takes the member, who is reached now
pub record Reaches (m p f : ℕ) (s t : Path) : Type 0 where
  pub steps : t.steps.items ≡ slice_set s.steps.items s.count (record { member = m; paper = p; from = f })
  pub count : t.count ≡ s.count + 1
  pub long : length t.members.items ≡ length s.members.items
  pub same : Has t.members.items m
  pub others : (j : ℕ) → j ≢ m → Has t.members.items j ↔ Has s.members.items j
  pub more : (n : ℕ) → (Has s.members.items m → ⊥) → m < n → gone t.members.items n ≡ gone s.members.items n + 1
