-- SPDX-License-Identifier: Apache-2.0 OR MIT
-- A choice of pairs as far as it has come, cell by cell, and what changes it.
use Rattle.std.specs.Prelude.{◌≡◌, ◌≢◌, ℕ, ◌+◌, ◌*◌, ◌/◌, ◌%◌, ◌<◌, ◌≤◌, ◌⊎◌, ◌↔◌, ◌==◌, Bool, true, false}
use Rattle.std.specs.Prelude.{List, length, slice_index, if◌then◌else◌}
use Rattle.std.specs.Int.{bit_at}
use Rattle.cr_match.specs.Rows.{RowHas}
use Rattle.cr_match.specs.Plan.{total_below}
use Rattle.cr_match.specs.Search.{Takes, Drops, AreMoves}
use Rattle.cr_match.specs.declared.board.Board.{Board}
use Rattle.cr_match.specs.declared.draft.Choice.{Choice}
use Rattle.cr_match.specs.declared.moves.Moves.{Moves}

-- paper p has member m
abbrev pub Holds : Board → Choice → ℕ → ℕ → Type 0
Holds b c p m = RowHas b.wide c.held.items p m

-- 1 if it has, 0 if not
abbrev pub cell : Board → Choice → ℕ → ℕ → ℕ
cell b c p m = bit_at (slice_index c.held.items (p * b.wide + m / 64)) (m % 64)

-- counts are those of what is held
pub record IsCounted (b : Board) (c : Choice) : Type 0 where
  pub held : length c.held.items ≡ b.papers * b.wide
  pub long : (length c.given.items ≡ b.papers) × (length c.used.items ≡ b.members)
  pub given : (p : ℕ) → p < b.papers → slice_index c.given.items p ≡ total_below (cell b c p) b.members
  pub used : (m : ℕ) → m < b.members → slice_index c.used.items m ≡ total_below (λ p. cell b c p m) b.papers

-- what may change fits what is held: nobody may drop who lacks a member, and the spare paper whoever has room
pub record IsDraft (b : Board) (c : Choice) (u : Moves) : Type 0 where
  pub counted : IsCounted b c
  pub moves : AreMoves b u
  pub takes : (p m : ℕ) → p < b.papers → m < b.members → Takes b u p m → Holds b c p m → ⊥
  pub drops : (p m : ℕ) → p < b.papers → m < b.members → Drops b u m p → Holds b c p m
  pub lack : (p : ℕ) → p < b.papers → Drops b u b.members p ↔ (slice_index c.given.items p < b.want)
  pub room : (m : ℕ) → m < b.members → Drops b u m b.papers ↔ (slice_index c.used.items m < b.load)
  pub never : Drops b u b.members b.papers → ⊥

-- the pair may change at no cost
abbrev pub IsFree : Board → Moves → ℕ → ℕ → Type 0
IsFree b u p m = Takes b u p m ⊎ Drops b u m p

abbrev pub at : ℕ → ℕ → ℕ
at c x = if c == x then 1 else 0

-- n is o and a more, or a less
abbrev pub Counts : Bool → ℕ → ℕ → ℕ → Type 0
Counts true a o n = n ≡ o + a
Counts false a o n = n + a ≡ o

-- the paper has the member now, or no longer
pub record Alters (b : Board) (p m : ℕ) (holds : Bool) (c d : Choice) : Type 0 where
  pub counted : IsCounted b d
  pub here : Holds b d p m ↔ (holds ≡ true)
  pub others : (q x : ℕ) → x < b.members → (q ≢ p) ⊎ (x ≢ m) → Holds b d q x ↔ Holds b c q x
  pub given : (q : ℕ) → q < b.papers → Counts holds (at p q) (slice_index c.given.items q) (slice_index d.given.items q)
  pub used : (x : ℕ) → x < b.members → Counts holds (at m x) (slice_index c.used.items x) (slice_index d.used.items x)

-- whether nobody may drop the paper, and whether the member may drop the spare one, is told anew
pub record Limits (b : Board) (d : Choice) (p m : ℕ) (u w : Moves) : Type 0 where
  pub moves : AreMoves b w
  pub takes : (q x : ℕ) → Takes b w q x ↔ Takes b u q x
  pub lack : Drops b w b.members p ↔ (slice_index d.given.items p < b.want)
  pub room : Drops b w m b.papers ↔ (slice_index d.used.items m < b.load)
  pub drops : (x q : ℕ) → q ≤ b.papers → (x ≢ b.members) ⊎ (q ≢ p) → (x ≢ m) ⊎ (q ≢ b.papers)
      → Drops b w x q ↔ Drops b u x q

-- what may change is what might before, and nothing else has changed
pub record Loosens (b : Board) (c : Choice) (u : Moves) (d : Choice) (w : Moves) : Type 0 where
  pub free : (q x : ℕ) → q < b.papers → x < b.members → IsFree b w q x ↔ IsFree b u q x
  pub closed : (q x : ℕ) → q < b.papers → x < b.members → (IsFree b u q x → ⊥) → Holds b d q x ↔ Holds b c q x
  pub spare : (x : ℕ) → x < b.members → Takes b w b.papers x ↔ Takes b u b.papers x

-- a pair that may change is held now, or no longer, and may change back; the spare paper and nobody hold nothing
pub record Flips (b : Board) (p m : ℕ) (holds : Bool) (c : Choice) (u : Moves) (d : Choice) (w : Moves) : Type 0 where
  pub draft : IsDraft b d w
  pub loose : Loosens b c u d w
  pub others : (q x : ℕ) → q ≤ b.papers → x < b.members → x ≢ m
      → (Takes b u q x → Takes b w q x) × (Drops b u x q → Drops b w x q)
  pub column : (q : ℕ) → q ≤ b.papers → m < b.members → (q ≢ p) ⊎ (p ≡ b.papers) → Takes b u q m → Takes b w q m
  pub given : (q : ℕ) → q < b.papers → m < b.members
      → Counts holds (at p q) (slice_index c.given.items q) (slice_index d.given.items q)
  pub none : m ≡ b.members → (q : ℕ) → slice_index d.given.items q ≡ slice_index c.given.items q
  pub used : (x : ℕ) → x < b.members → p < b.papers
      → Counts holds (at m x) (slice_index c.used.items x) (slice_index d.used.items x)
  pub idle : p ≡ b.papers → (x : ℕ) → slice_index d.used.items x ≡ slice_index c.used.items x

-- with one paper more for member `cur`, none has more than her load, and who has a price just that
abbrev pub Fits : Board → List ℕ → ℕ → Choice → Type 0
Fits b prices cur c = (x : ℕ) → x < b.members → (slice_index c.used.items x + at cur x ≤ b.load)
    × (0 < slice_index prices x → slice_index c.used.items x + at cur x ≡ b.load)

-- whoever the spare paper may take has no price
abbrev pub AreSpare : Board → Moves → List ℕ → Type 0
AreSpare b u prices = (x : ℕ) → x < b.members → Takes b u b.papers x → slice_index prices x ≡ 0

-- the target gives up one member, and paper p has one more
pub record Lends (b : Board) (target p : ℕ) (c : Choice) (u : Moves) (d : Choice) (w : Moves) : Type 0 where
  pub loose : Loosens b c u d w
  pub given : (q : ℕ) → q < b.papers → slice_index d.given.items q + at target q ≡ slice_index c.given.items q + at p q
  pub fits : (prices : List ℕ) → AreSpare b u prices → Fits b prices b.members c → Fits b prices b.members d

-- the target has one member fewer; where the root is nobody, some paper has one more
abbrev pub Gives : Board → ℕ → ℕ → Choice → Choice → Type 0
Gives b target root c d =
    ((root ≢ b.members) × ((q : ℕ) → q < b.papers
    → slice_index d.given.items q + at target q ≡ slice_index c.given.items q))
    ⊎ ((root ≡ b.members) × (r : ℕ) × (r < b.papers) × (slice_index c.given.items r < b.want) × ((q : ℕ) → q < b.papers
    → slice_index d.given.items q + at target q ≡ slice_index c.given.items q + at r q))

-- pairs that may change have changed, so that the target gives up one for the root
pub record Turns (b : Board) (target root : ℕ) (c : Choice) (u : Moves) (d : Choice) (w : Moves) : Type 0 where
  pub loose : Loosens b c u d w
  pub given : Gives b target root c d
  pub fits : (prices : List ℕ) → AreSpare b u prices → Fits b prices b.members c → Fits b prices root d
