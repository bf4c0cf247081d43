-- SPDX-License-Identifier: Apache-2.0 OR MIT
-- What each kind of step tells the pass that makes it: of what it knew before and the number that
-- it found, what it knows after.
use Rattle.std.specs.Prelude.{◌≡◌, ◌≢◌, ℕ, ◌+◌, ◌<◌, ◌≤◌, List, [], ◌∷◌, ◌++◌, length, drop, Option, Some, None, IfSome}
use mathlib.Core.List.{IsPrefix}
use Rattle.atomic_table.specs.Table.{Me, Step}
use Rattle.atomic_table.specs.declared.shared.Seat.{Seat}
use Rattle.cr_lock.specs.declared.pass_state.Activity.TheVariants.{Idle, Waiting, Holding, Joined}
use Rattle.cr_lock.specs.declared.pass_state.Turn.{Turn}
use Rattle.cr_lock.specs.declared.pass_state.PassState.{PassState}
use Rattle.cr_lock.specs.Counts.{Every}
use Rattle.cr_lock.specs.Turns.{turn_at, StandsIn, InCommon}

-- a state, and the slots that are out with it
abbrev pub Holder : Type 0 → Type 0 → Type 0
Holder T E = Me (Option T) (PassState T E)

module _ {T E : Type 0} where
  -- between turns, with this share and count of turns
  abbrev pub Rests : Seat (Option T) (PassState T E) → ℕ → ℕ → Type 0
  Rests seat share turns =
      (seat.me.1 ≡ []) × (seat.me.0.activity ≡ Idle) × (seat.me.0.share ≡ share)
      × (seat.me.0.turns ≡ turns) × (0 < share)
      × Every (StandsIn seat.me.0.seen) seat.me.0.mine

  abbrev pub state : Seat (Option T) (PassState T E) → PassState T E
  state seat = seat.me.0

  -- draw: it waits with the ticket that it found
  abbrev pub Drew : Step (Option T) → Holder T E → ℕ → Holder T E → Type 0
  Drew st m r m' = m' ≡ (record m.0 { turns = m.0.turns + 1; activity = Waiting r }, m.1)

  module _ (list : T → List E) where
    -- look: where its ticket is served, it has the value and has seen what that stands for; else nothing changes
    abbrev pub Looked : Step (Option T) → Holder T E → ℕ → Holder T E → Type 0
    Looked st m r m' = (t : ℕ) → m.0.activity ≡ Waiting t
        → (r ≡ t → (x : T) × IsPrefix m.0.seen (list x)
        × (m.0.share ≡ 64 → IfSome m.0.left (λ value. x ≡ value))
        × (m' ≡ (record m.0 { seen = list x; activity = Holding t x }, (0, Some x) ∷ m.1)))
        × (r ≢ t → m' ≡ m)

    module _ (faults : T → ℕ) where
      -- a state with ticket t that took the value x, and has noted that it is y now
      abbrev pub noted_at : ℕ → PassState T E → T → T → PassState T E
      noted_at t v x y = record v {
        seen = list y;
        mine = v.mine ++ turn_at (length v.seen) (drop (length v.seen) (list y)) (faults x) (faults y) x y ∷ [];
        left = Some y;
        activity = Holding t y;
      }

      -- note: its turns are longer by one
      abbrev pub Noted : Step (Option T) → Holder T E → ℕ → Holder T E → Type 0
      Noted st m r m' = (t : ℕ) (x y : T) → m.0.activity ≡ Holding t x → m.1 ≡ (0, Some y) ∷ []
          → m' ≡ (noted_at t m.0 x y, m.1)

  -- next: it rests, without the value
  abbrev pub WentOn : Step (Option T) → Holder T E → ℕ → Holder T E → Type 0
  WentOn st m r m' = (m' ≡ (record m.0 { activity = Idle }, [])) × Every (StandsIn m.0.seen) m.0.mine

  -- look after a join: it rests, and learns what the two had in common
  abbrev pub LookedAfterJoin : Step (Option T) → Holder T E → ℕ → Holder T E → Type 0
  LookedAfterJoin st m r m' = (a b : List E) (t u : List (Turn T E)) → m.0.activity ≡ Joined a b t u
      → InCommon a b t u × (m.0.share ≤ 64) × Every (StandsIn m.0.seen) m.0.mine
      × (m' ≡ (record m.0 { left = None; activity = Idle }, m.1))
