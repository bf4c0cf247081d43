-- SPDX-License-Identifier: Apache-2.0 OR MIT
-- A problem as a table, prices, and how a plan suits them.
use Rattle.std.specs.Prelude.{◌≡◌, ℕ, ◌+◌, ◌*◌, ◌<◌, ◌≤◌, ◌⊎◌, ◌↔◌, length, slice_index}
use Rattle.cr_match.specs.declared.board.Board.{Board}
use Rattle.cr_match.specs.declared.board.Levels.{Levels}
use Rattle.cr_match.specs.declared.draft.Choice.{Choice}
use Rattle.cr_match.specs.declared.moves.Moves.{Moves}
use Rattle.cr_match.specs.Draft.{Holds, IsFree}
use Rattle.cr_match.specs.Search.{IsSized}

-- what the pair is worth, or 0 where that is no pair
abbrev pub worth : Board → ℕ → ℕ → ℕ
worth b p m = slice_index b.worth.items (p * b.members + m)

-- the least that a pair is worth: 20 below the lift
abbrev pub low : ℕ
low = 1073741804

-- more than any pair is from its prices
abbrev pub far : ℕ
far = 536870912

-- a table of one number a pair, each that is one worth `low` to 40 more
pub record IsBoard (b : Board) : Type 0 where
  pub sized : IsSized b
  pub long : length b.worth.items ≡ b.papers * b.members
  pub grid : b.papers * b.members ≤ 4096
  pub places : b.want * b.papers ≤ 512
  pub cells : (p m : ℕ) → p < b.papers → m < b.members
      → (worth b p m ≡ 0) ⊎ ((low ≤ worth b p m) × (worth b p m ≤ low + 40))

-- the two prices of a pair
abbrev pub price_of : Levels → ℕ → ℕ → ℕ
price_of v p m = slice_index v.papers.items p + slice_index v.members.items m

-- a price for each paper and each member
abbrev pub AreLong : Board → Levels → Type 0
AreLong b v = (length v.papers.items ≡ b.papers) × (length v.members.items ≡ b.members)

-- what is held is worth its prices or more, all else its prices or less
pub record Suits (b : Board) (v : Levels) (c : Choice) : Type 0 where
  pub held : (p m : ℕ) → p < b.papers → m < b.members → Holds b c p m → price_of v p m ≤ worth b p m
  pub left : (p m : ℕ) → p < b.papers → m < b.members → (Holds b c p m → ⊥) → worth b p m ≤ price_of v p m

-- what may change is what is worth its prices
abbrev pub IsTight : Board → Levels → Moves → Type 0
IsTight b v u = (p m : ℕ) → p < b.papers → m < b.members → IsFree b u p m ↔ (worth b p m ≡ price_of v p m)

-- how far prices go below the price of nobody
pub record AreBounded (b : Board) (v : Levels) (c : Choice) : Type 0 where
  pub lacking : (p : ℕ) → p < b.papers → slice_index c.given.items p < b.want
      → slice_index v.papers.items p + v.nobody ≤ low + 40
  pub floor : (p : ℕ) → p < b.papers → low ≤ slice_index v.papers.items p + v.nobody
  pub ceiling : (p : ℕ) → p < b.papers → slice_index v.papers.items p ≤ low + 40
  pub members : (m : ℕ) → m < b.members → slice_index v.members.items m ≤ v.nobody

-- prices that can be added
pub record AreSmall (b : Board) (v : Levels) : Type 0 where
  pub long : AreLong b v
  pub papers : (p : ℕ) → p < b.papers → slice_index v.papers.items p ≤ low + 40
  pub members : (m : ℕ) → m < b.members → slice_index v.members.items m ≤ far
