-- SPDX-License-Identifier: Apache-2.0 OR MIT
-- What contracts see of a lock and of its passes.
use Rattle.std.specs.Prelude.{◌≡◌, ℕ, ◌+◌, ◌-◌, ◌/◌, List, [], ◌∷◌, ◌++◌, length, drop, max, Option, Some, None, IfSome}
use Rattle.atomic_table.specs.Seated.{TableId}
use Rattle.atomic_table.specs.declared.shared.Seat.{Seat}
use Rattle.cr_lock.specs.declared.pass_state.Turn.{Turn}
use Rattle.cr_lock.specs.declared.pass_state.PassState.{PassState}
use Rattle.cr_lock.specs.Counts.{Every}
use Rattle.cr_lock.specs.Turns.{turn_at, merged, longer, StandsIn, InCommon}

-- which lock it is, and the value that it was made with
pub record Origin (T : Type 0) : Type 0 where
  pub lock : TableId
  pub first : T

-- The lock that a pass is of, its share of 64, how many turns it has made, the history as it last saw it, and its
-- turns; and the value as it left it, where it wasn't split or joined since.
pub record Known (T E : Type 0) : Type 0 where
  pub lock : TableId
  pub share : ℕ
  pub turns : ℕ
  pub seen : List E
  pub mine : List (Turn T E)
  pub left : Option T

-- what is shown of a pass's seat
abbrev pub known_of : {T E : Type 0} → Seat (Option T) (PassState T E) → Known T E
known_of seat = record {
  lock = seat.table_id;
  share = seat.me.0.share;
  turns = seat.me.0.turns;
  seen = seat.me.0.seen;
  mine = seat.me.0.mine;
  left = seat.me.0.left;
}

module _ {T E : Type 0} where
  -- the first pass of a lock round this value, which stands for this list
  abbrev pub first_pass : TableId → T → List E → Known T E
  first_pass lock value log = record { lock = lock; share = 64; turns = 0; seen = log; mine = []; left = Some value }

  -- of a pass that was split the first one, which keeps the turns
  abbrev pub larger_half : Known T E → Known T E
  larger_half p = record p { share = p.share - p.share / 2; left = None }

  -- the second one
  abbrev pub smaller_half : Known T E → Known T E
  smaller_half p = record p { share = p.share / 2; mine = []; left = None }

  -- two passes in one
  abbrev pub united : Known T E → Known T E → Known T E
  united p q = record {
    lock = p.lock;
    share = p.share + q.share;
    turns = max p.turns q.turns;
    seen = longer p.seen q.seen;
    mine = merged p.mine q.mine;
    left = None;
  }

  -- a pass with the whole share takes its next turn with the value that it left, since no other pass takes turns
  abbrev pub IsAsLeft : Known T E → T → Type 0
  IsAsLeft p x = p.share ≡ 64 → IfSome p.left (λ value. x ≡ value)

  -- after a turn that found the value x and left y: it stood for the list xs and stands for ys, and its count of faults
  -- went from m to n
  abbrev pub after_turn : Known T E → T → T → List E → List E → ℕ → ℕ → Known T E
  after_turn p x y xs ys m n = record p {
    turns = p.turns + 1;
    seen = ys;
    mine = p.mine ++ turn_at (length xs) (drop (length xs) ys) m n x y ∷ [];
    left = Some y;
  }

  -- one of the two had seen a beginning of what the other had, and no entry was added by both
  abbrev pub Agree : Known T E → Known T E → Type 0
  Agree p q = InCommon p.seen q.seen p.mine q.mine

  -- each group is at its place in what was seen
  abbrev pub Stand : Known T E → Type 0
  Stand p = Every (StandsIn p.seen) p.mine
