-- SPDX-License-Identifier: Apache-2.0 OR MIT
-- What the table keeps of each pass, and what splits and joins make of it.
use Rattle.std.specs.Prelude.{ℕ, ◌+◌, ◌-◌, ◌/◌, List, [], Option, Some, None, max}
use Rattle.cr_lock.specs.declared.pass_state.Turn.{Turn}
use Rattle.cr_lock.specs.declared.pass_state.Activity.{Activity}
use Rattle.cr_lock.specs.declared.pass_state.Activity.TheVariants.{Idle, Joined}
use Rattle.cr_lock.specs.declared.pass_state.PassState.{PassState}
use Rattle.cr_lock.specs.Turns.{merged, longer}

module _ {T E : Type 0} where
  abbrev pub state_of : ℕ → ℕ → List E → List (Turn T E) → Option T → Activity T E → PassState T E
  state_of share turns seen mine left activity =
      record { share = share; turns = turns; seen = seen; mine = mine; left = left; activity = activity }

  -- the first pass, of this value, which stands for this list
  abbrev pub first_state : T → List E → PassState T E
  first_state value log = state_of 64 0 log [] (Some value) Idle

  -- of a state cut in two the part that keeps the turns
  abbrev pub left_half : PassState T E → PassState T E
  left_half v = record v { share = v.share - v.share / 2; left = None }

  -- of a state cut in two the part that begins without turns
  abbrev pub right_half : PassState T E → PassState T E
  right_half v = record v { share = v.share / 2; mine = []; left = None }

  -- two states in one
  abbrev pub joined : PassState T E → PassState T E → PassState T E
  joined v w =
      state_of (v.share + w.share) (max v.turns w.turns) (longer v.seen w.seen) (merged v.mine w.mine) None Idle

  -- the same, until it has been looked what the two had in common
  abbrev pub joining : PassState T E → PassState T E → PassState T E
  joining v w = record (joined v w) { activity = Joined v.seen w.seen v.mine w.mine }

  -- what is left of a state that was joined to another
  abbrev pub spent_state : PassState T E
  spent_state = state_of 0 0 [] [] None Idle
