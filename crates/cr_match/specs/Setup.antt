-- SPDX-License-Identifier: Apache-2.0 OR MIT
-- What a search works on, as it is made.
use Rattle.std.specs.Prelude.{◌≡◌, ℕ, ◌+◌, ◌*◌, ◌<◌, ◌≤◌, List, length, slice_index}
use Rattle.cr_match.specs.Board.{AreLong, worth, low}
use Rattle.cr_match.specs.declared.board.Board.{Board}
use Rattle.cr_match.specs.declared.board.Levels.{Levels}
use Rattle.cr_match.specs.declared.draft.Draft.{Draft}

-- each paper's price is that of its best pair, or the least that any pair has
abbrev pub AreBestPrices : Board → List ℕ → Type 0
AreBestPrices b prices = (p : ℕ) → p < b.papers → (low ≤ slice_index prices p) × (slice_index prices p ≤ low + 40)
    × ((m : ℕ) → m < b.members → worth b p m ≤ slice_index prices p)

-- and no member has a price
pub record AreFirst (b : Board) (v : Levels) : Type 0 where
  pub long : AreLong b v
  pub best : AreBestPrices b v.papers.items
  pub free : (m : ℕ) → slice_index v.members.items m ≡ 0
  pub nobody : v.nobody ≡ 0

-- nothing is held, and nothing may change
pub record IsBlank (b : Board) (d : Draft) : Type 0 where
  pub held : (length d.choice.held.items ≡ b.papers * b.wide) × ((k : ℕ) → slice_index d.choice.held.items k ≡ 0)
  pub given : (length d.choice.given.items ≡ b.papers) × ((k : ℕ) → slice_index d.choice.given.items k ≡ 0)
  pub used : (length d.choice.used.items ≡ b.members) × ((k : ℕ) → slice_index d.choice.used.items k ≡ 0)
  pub takes : (length d.moves.takes.items ≡ (b.papers + 1) * b.wide) × ((k : ℕ) → slice_index d.moves.takes.items k ≡ 0)
  pub drops : (length d.moves.drops.items ≡ (b.members + 1) * b.tall)
      × ((k : ℕ) → slice_index d.moves.drops.items k ≡ 0)
