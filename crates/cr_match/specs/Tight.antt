-- SPDX-License-Identifier: Apache-2.0 OR MIT
-- What may change at no cost, told anew.
use Rattle.std.specs.Prelude.{◌≡◌, ◌≢◌, ℕ, ◌<◌, ◌≤◌, ◌⊎◌, ◌↔◌, Bool, true}
use Rattle.cr_match.specs.Search.{Takes, Drops, AreMoves}
use Rattle.cr_match.specs.Board.{worth, price_of}
use Rattle.cr_match.specs.Draft.{Holds}
use Rattle.cr_match.specs.declared.board.Board.{Board}
use Rattle.cr_match.specs.declared.board.Levels.{Levels}
use Rattle.cr_match.specs.declared.draft.Choice.{Choice}
use Rattle.cr_match.specs.declared.moves.Moves.{Moves}

-- of one pair, whether the paper may take the member, and whether she may drop it
pub record Tells (b : Board) (p m : ℕ) (take drop : Bool) (u v : Moves) : Type 0 where
  pub moves : AreMoves b v
  pub taken : Takes b v p m ↔ (take ≡ true)
  pub dropped : Drops b v m p ↔ (drop ≡ true)
  pub takes : (q x : ℕ) → x < b.members → (q ≢ p) ⊎ (x ≢ m) → Takes b v q x ↔ Takes b u q x
  pub drops : (x q : ℕ) → q ≤ b.papers → (q ≢ p) ⊎ (x ≢ m) → Drops b v x q ↔ Drops b u x q

-- all but what papers may take of members, and members drop of papers
pub record Stays (b : Board) (u v : Moves) : Type 0 where
  pub moves : AreMoves b v
  pub spare : (x : ℕ) → x < b.members → Takes b v b.papers x ↔ Takes b u b.papers x
  pub lack : (q : ℕ) → q ≤ b.papers → Drops b v b.members q ↔ Drops b u b.members q
  pub room : (x : ℕ) → x ≤ b.members → Drops b v x b.papers ↔ Drops b u x b.papers

-- the pair may change if `tight`: what is held the member may drop, what isn't the paper may take
abbrev pub IsTold : Type 0 → Board → Choice → Moves → ℕ → ℕ → Type 0
IsTold tight b c v p m = (Takes b v p m ↔ ((Holds b c p m → ⊥) × tight)) × (Drops b v m p ↔ (Holds b c p m × tight))

-- if it is worth its prices
abbrev pub AreTold : Board → Levels → Choice → Moves → ℕ → ℕ → Type 0
AreTold b v c u p m = IsTold (worth b p m ≡ price_of v p m) b c u p m

-- a pair is as it was
abbrev pub IsSame : Board → Moves → Moves → ℕ → ℕ → Type 0
IsSame b u v p m = (Takes b v p m ↔ Takes b u p m) × (Drops b v m p ↔ Drops b u m p)
