-- SPDX-License-Identifier: Apache-2.0 OR MIT
-- The rule of the table, which is a ticket lock (Mellor-Crummey and Scott, 1991). Its words are the next ticket to be
-- drawn, the ticket that is served and the length of the history. Its slot has the value.
use Rattle.std.specs.Prelude.{◌≡◌, ℕ, ◌+◌, ◌*◌, ◌<◌, ◌≤◌, ◌⊎◌, List, [], ◌∷◌, length, Option, Some, IfSome, ⊤}
use mathlib.Core.Option.{some, none}
use mathlib.Core.List.{IsPrefix}
use lib.ListN.{get_elem?}
use Rattle.atomic_table.specs.Table.{State}
use Rattle.cr_lock.specs.declared.pass_state.Activity.{Activity}
use Rattle.cr_lock.specs.declared.pass_state.Activity.TheVariants.{Idle, Waiting, Holding, Joined}
use Rattle.cr_lock.specs.declared.pass_state.PassState.{PassState}
use Rattle.cr_lock.specs.declared.pass_state.Turn.{Turn}
use Rattle.cr_lock.specs.Counts.{last_count, within, total, Every, Any, Among}
use Rattle.cr_lock.specs.Turns.{InOrder, groups_with, marks, rises, StandsIn, Reached}
use Rattle.cr_lock.specs.PassStates.{spent_state}

module _ {T E : Type 0} where
  -- 1 where the pass holds this ticket
  abbrev pub holds_ticket : ℕ → Activity T E → ℕ
  holds_ticket t Idle = 0
  holds_ticket t (Waiting u) = within u (u + 1) t
  holds_ticket t (Holding u x) = within u (u + 1) t
  holds_ticket t (Joined a b m o) = 0

  -- 1 where the pass has the value
  abbrev pub has_value : Activity T E → ℕ
  has_value Idle = 0
  has_value (Waiting u) = 0
  has_value (Holding u x) = 1
  has_value (Joined a b m o) = 0

-- of a state v, where `log` is the history, of which `start` entries were there at first, `serving` the ticket that is
-- served, and x may be the value where `risen x`
module _ {T E : Type 0} (start : ℕ) (log : List E) (serving : ℕ) (risen : T → Type 0) (v : PassState T E) where
  -- what the pass is doing agrees with what the table has
  abbrev pub FitsActivity : Activity T E → Type 0
  FitsActivity Idle = Unit {0}
  FitsActivity (Waiting u) = Unit {0}
  FitsActivity (Holding u x) = (u ≡ serving) × (v.seen ≡ log) × risen x
  FitsActivity (Joined a b m o) = IsPrefix a log × IsPrefix b log × ((k : ℕ) → groups_with k m + groups_with k o ≤ 1)

  -- what the pass knows is so
  pub record FitsLock : Type 0 where
    -- it has seen a beginning of the history
    pub seen : IsPrefix v.seen log
    -- it has made at most 2^40 turns
    pub few : v.turns ≤ 1099511627776
    -- its groups stand in what it has seen
    pub stand : Every (StandsIn v.seen) v.mine
    -- in the order of their places
    pub sorted : InOrder v.mine
    pub activity : FitsActivity v.activity
    -- it has a share and has seen what was there at first, or it was joined to another
    pub alive : ((0 < v.share) × (start ≤ length v.seen)) ⊎ (v ≡ spent_state)

-- the pass rests, or waits for its turn
abbrev pub IsOutside : {T E : Type 0} → Activity T E → Type 0
IsOutside Idle = ⊤
IsOutside (Waiting u) = ⊤
IsOutside (Holding u x) = ⊥
IsOutside (Joined a b m o) = ⊥

-- the value that the pass left is at home, where it has the whole share and isn't at a turn
abbrev pub LeftHome : {T E : Type 0} → List (mathlib.Core.Option.Option (Option T)) → PassState T E → Type 0
LeftHome homes v = v.share ≡ 64 → IsOutside v.activity → IfSome v.left (λ value. homes ≡ some (Some value) ∷ [])

-- one of the passes made this turn
abbrev pub IsMade : {T E : Type 0} → List (PassState T E) → Turn T E → Type 0
IsMade states t = Any (λ v. Among v.mine t) states

module _ {T E Root : Type 0} (list : T → List E) (faults : T → ℕ) (root : T → Root) (first : T) where
  -- x may be the value
  pub record Risen (states : List (PassState T E)) (x : T) : Type 0 where
    -- its count of faults has risen since `first` by what it rose in the turns of all passes
    pub count : faults x ≡ faults first + total (λ v. rises v.mine) states
    -- so by no less than there are marks, unless it ends at its last value
    pub marks : (faults first + total (λ v. marks v.mine) states ≤ faults x) ⊎ (last_count ≤ faults x)
    -- the root stays
    pub stays : root x ≡ root first
    -- turns of the passes lead to it
    pub reached : Reached (IsMade states) first x

  -- the value is in the slot and stands for the history, and no pass has it
  abbrev pub Home : List E → State (Option T) (PassState T E) → Type 0
  Home log s =
      (x : T) × (s.homes ≡ some (Some x) ∷ []) × (list x ≡ log) × Risen s.views x
      × (total (λ v. has_value v.activity) s.views ≡ 0)

  -- the value is not in the slot, and one pass has it
  abbrev pub Away : State (Option T) (PassState T E) → Type 0
  Away s = (s.homes ≡ none ∷ []) × (total (λ v. has_value v.activity) s.views ≡ 1)

  -- there is one history, of which each pass has seen a beginning and in which its turns stand
  pub record OneHistory (s : State (Option T) (PassState T E)) : Type 0 where
    pub log : List E
    pub ticket : ℕ
    pub serving : ℕ
    pub words : s.words ≡ ticket ∷ serving ∷ length log ∷ []
    pub order : serving ≤ ticket
    -- the history begins with what was there at first
    pub begins : IsPrefix (list first) log
    -- the tickets from `serving` to below `ticket` are each held by one pass, and no others are
    pub tickets : (t : ℕ) → total (λ v. holds_ticket t v.activity) s.views ≡ within serving ticket t
    pub shares : total (λ v. v.share) s.views ≡ 64
    -- so no ticket is beyond 64 times 2^40, and none of the words overflows
    pub drawn : ticket ≤ total (λ v. v.share * v.turns) s.views
    -- each entry behind what was there at first is in one group of one pass
    pub groups : (k : ℕ) → total (λ v. groups_with k v.mine) s.views ≡ within (length (list first)) (length log) k
    pub each : (j : ℕ) (v : PassState T E) → get_elem? s.views j ≡ some v
        → FitsLock (length (list first)) log serving (Risen s.views) v
    -- what a pass left that has the whole share is at home
    pub lone : (j : ℕ) (v : PassState T E) → get_elem? s.views j ≡ some v → LeftHome s.homes v
    pub value : Home log s ⊎ Away s
