-- SPDX-License-Identifier: Apache-2.0 OR MIT
-- How far prices are from leading a search on, and a step of prices.
use Rattle.std.specs.Prelude.{◌≡◌, ◌≢◌, ℕ, ◌+◌, ◌<◌, ◌≤◌, ◌⊎◌, List, length, slice_index}
use Rattle.cr_match.specs.Rows.{Has}
use Rattle.cr_match.specs.Search.{Takes, Drops, step_of, IsRoomy, AreSteps, IsReached}
use Rattle.cr_match.specs.Plan.{total_below}
use Rattle.cr_match.specs.Board.{worth, price_of, far, low, AreBounded, AreLong, Suits, IsTight}
use Rattle.cr_match.specs.Draft.{Holds, IsDraft, Fits}
use Rattle.cr_match.specs.declared.board.Board.{Board}
use Rattle.cr_match.specs.declared.board.Levels.{Levels}
use Rattle.cr_match.specs.declared.draft.Choice.{Choice}
use Rattle.cr_match.specs.declared.moves.Moves.{Moves}
use Rattle.cr_match.specs.declared.trail.Trail.{Trail}

-- the paper is reached, and the member, whom it lacks, isn't
pub record Wants (b : Board) (c : Choice) (t : Trail) (p m : ℕ) : Type 0 where
  pub paper : Has t.papers.items p
  pub member : Has t.path.members.items m → ⊥
  pub lacks : Holds b c p m → ⊥

-- the member is reached, and the paper, which has her, isn't
pub record Owes (b : Board) (c : Choice) (t : Trail) (p m : ℕ) : Type 0 where
  pub paper : Has t.papers.items p → ⊥
  pub member : Has t.path.members.items m
  pub has : Holds b c p m

-- prices may move by n, as far as the pair goes
abbrev pub Clears : Board → Levels → Choice → Trail → ℕ → ℕ → ℕ → Type 0
Clears b v c t n p m =
    (Wants b c t p m → worth b p m + n ≤ price_of v p m) × (Owes b c t p m → price_of v p m + n ≤ worth b p m)

-- and then the pair leads the search on
abbrev pub Meets : Board → Levels → Choice → Trail → ℕ → ℕ → ℕ → Type 0
Meets b v c t n p m =
    (Wants b c t p m × (worth b p m + n ≡ price_of v p m)) ⊎ (Owes b c t p m × (price_of v p m + n ≡ worth b p m))

-- how far the nearest pair is, or `far`
pub record IsGap (b : Board) (v : Levels) (c : Choice) (t : Trail) (n : ℕ) : Type 0 where
  pub most : n ≤ far
  pub clears : (p m : ℕ) → p < b.papers → m < b.members → Clears b v c t n p m
  pub meets : (n ≡ far) ⊎ ((p : ℕ) × (m : ℕ) × (p < b.papers) × (m < b.members) × Meets b v c t n p m)

-- the same, of one paper
pub record IsGapOf (b : Board) (v : Levels) (c : Choice) (t : Trail) (p n : ℕ) : Type 0 where
  pub most : n ≤ far
  pub clears : (m : ℕ) → m < b.members → Clears b v c t n p m
  pub meets : (n ≡ far) ⊎ ((m : ℕ) × (m < b.members) × Meets b v c t n p m)

-- prices of what is reached are lower
abbrev pub AreLower : List ℕ → ℕ → List ℕ → List ℕ → Type 0
AreLower reached n old new = (k : ℕ) → k < length old
    → (Has reached k → slice_index new k + n ≡ slice_index old k)
    × ((Has reached k → ⊥) → slice_index new k ≡ slice_index old k)

-- or higher
abbrev pub AreHigher : List ℕ → ℕ → List ℕ → List ℕ → Type 0
AreHigher reached n old new = (k : ℕ) → k < length old
    → (Has reached k → slice_index new k ≡ slice_index old k + n)
    × ((Has reached k → ⊥) → slice_index new k ≡ slice_index old k)

-- a step of prices: those of the papers that are reached fall, those of the members who are, and nobody's, rise
pub record IsRepriced (t : Trail) (n : ℕ) (v w : Levels) : Type 0 where
  pub long : (length w.papers.items ≡ length v.papers.items) × (length w.members.items ≡ length v.members.items)
  pub papers : AreLower t.papers.items n v.papers.items w.papers.items
  pub members : AreHigher t.path.members.items n v.members.items w.members.items
  pub nobody : w.nobody ≡ v.nobody + n

-- a plan as far as it has come, with prices that suit it, before a paper gets one more member
pub record IsFitting (b : Board) (v : Levels) (c : Choice) (u : Moves) : Type 0 where
  pub long : AreLong b v
  pub draft : IsDraft b c u
  pub suits : Suits b v c
  pub tight : IsTight b v u
  pub bounded : AreBounded b v c
  pub most : (p : ℕ) → p < b.papers → slice_index c.given.items p ≤ b.want
  pub fits : Fits b v.members.items b.members c
  pub spare : (x : ℕ) → x < b.members → Takes b u b.papers x → ⊥

-- a search from nobody to the spare paper, before it looks at the first step: where nobody's price was `most` at first,
-- whoever isn't reached has no higher price now, and no paper that can't be reached is priced lower than that allows
pub record IsBegun (b : Board) (v : Levels) (u : Moves) (t : Trail) (most : ℕ) : Type 0 where
  pub roomy : IsRoomy b t
  pub steps : AreSteps b u t.path
  pub reached : IsReached b u b.papers t.papers.items t.path
  pub start : (t.next ≡ 0) × (t.path.root ≡ 0) × (0 < t.path.count) × ((step_of t.path 0).member ≡ b.members)
  pub members : (m : ℕ) → m < b.members → (Has t.path.members.items m → ⊥) → slice_index v.members.items m ≤ most
  pub papers : (p : ℕ) → p < b.papers → (low ≤ slice_index v.papers.items p + most)
      ⊎ ((i : ℕ) × (i < t.path.count) × Drops b u (step_of t.path i).member p)
  pub nobody : most ≤ v.nobody

-- how many members all papers have
abbrev pub placed : Board → Choice → ℕ
placed b c = total_below (λ p. slice_index c.given.items p) b.papers

-- papers that are reached, and members who are, whatever the prices: no pair leads on, and none of the members has room
pub record IsStuck (b : Board) (c : Choice) (u : Moves) (t : Trail) : Type 0 where
  pub draft : IsDraft b c u
  pub wants : (p m : ℕ) → p < b.papers → m < b.members → Wants b c t p m → worth b p m ≡ 0
  pub owes : (p m : ℕ) → p < b.papers → m < b.members → Owes b c t p m → ⊥
  pub full : (m : ℕ) → m < b.members → Has t.path.members.items m → slice_index c.used.items m ≡ b.load
  pub lacks : (p : ℕ) → p < b.papers → slice_index c.given.items p < b.want → Has t.papers.items p
  pub most : (p : ℕ) → p < b.papers → slice_index c.given.items p ≤ b.want
  pub pairs : (p m : ℕ) → p < b.papers → m < b.members → Holds b c p m → worth b p m ≢ 0
  pub trail : IsRoomy b t
