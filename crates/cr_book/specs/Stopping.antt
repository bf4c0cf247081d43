-- SPDX-License-Identifier: Apache-2.0 OR MIT
-- CrashKeepsGroups: what a stop of the machine may leave of the rows that a book has kept.
use Rattle.std.specs.Prelude.{◌≡◌, ◌⊎◌, ℕ, ◌≤◌, List, [], ◌∷◌, ◌++◌, Option, IfSome, IsTrue, Result}
use mathlib.Core.List.{IsPrefix}
use Rattle.cr_base.specs.declared.row.Row.{Row}
use Rattle.cr_base.specs.History.{History}
use Rattle.cr_base.specs.Rows.{rows_of}
use Rattle.cr_policy.specs.Legal.{IsMoveAllowed, Legal, Move, moved}
use Rattle.cr_ports.specs.Count.{Rises}
use Rattle.cr_ports.specs.Stopping.{IsAmong, LeavesOnly, OpensTo, TriedAfter}
use Rattle.cr_ports.specs.declared.keeper.Keeper.{Ghosts}

-- one command or one bulk, which is allowed on this history, adds this group to it
pub record AddsOne (H group : History) : Type 0 where
  pub move : Move
  pub allowed : IsMoveAllowed H move
  pub adds : moved H move ≡ H ++ group

-- What was left opens to the rows of a legal history, or to these and then the whole group of one command or bulk after
-- it. That history goes on from the rows that were opened, if they are told, and is a beginning of the log.
pub record OpensAmid (opens : List ℕ → List Row → Type 0) (opened : Option (List Row)) (log : History)
    (image : List ℕ) : Type 0 where
  pub history : History
  pub legal : Legal history
  pub goes_on : IfSome opened (λ first. IsPrefix first (rows_of history))
  pub part : IsPrefix history log
  pub opens_to : opens image (rows_of history)
      ⊎ ((group : History) × AddsOne history group × opens image (rows_of (history ++ group)))

-- ---- of a book that was opened over one keeper and has another now, whose history is the log

-- what is told of keepers of one type, each by the name that the trait `Keeper` gives it
abbrev pub Keepers : Type 0 → Type 1
Keepers K = Ghosts K

module _ {K : Type 0} (keepers : Keepers K) where
  -- what a stop at some moment since the opening may have left
  pub record KeepsGroups (opened now : K) (log : History) : Type 0 where
    pub later : keepers.moment opened ≤ keepers.moment now
    pub goes_on : IfSome (keepers.rows opened) (λ first. IsPrefix first (rows_of log))
    -- what was tried is the group of one command or bulk behind the log
    pub tried_follow : (added : List Row) → IsAmong (keepers.tried now) added
        → (group : History) × AddsOne log group × (added ≡ rows_of group)
    pub since : (image : List ℕ) → keepers.left_since now (keepers.moment opened) image
        → OpensAmid keepers.opens (keepers.rows opened) log image

  -- what a stop may leave now; and what one may have left since the opening, of a keeper with which nothing had been
  -- tried in vain
  pub record StopsWell (opened now : K) (log : History) : Type 0 where
    pub between : (image : List ℕ) → keepers.left_since now (keepers.moment now) image
        → OpensTo keepers.opens (rows_of log) (keepers.tried now) image
    pub groups : keepers.tried opened ≡ [] → KeepsGroups opened now log

  -- While a group was being put behind the log, by a call that ended so: a stop leaves the rows of the log, or these
  -- and then whole one group, this one or one that had been tried since the last that was kept.
  pub record Adding {T E : Type 0} (result : Result T E) (log group : History) (old new : K) : Type 0 where
    -- the keeper tells as it did before what a stop may leave
    pub telling : keepers.tells_stops new ≡ keepers.tells_stops old
    pub tried_after : TriedAfter result (keepers.tried old) (rows_of group) (keepers.tried new)
    pub stops : LeavesOnly keepers.moment keepers.left_since old new
        (OpensTo keepers.opens (rows_of log) (rows_of group ∷ keepers.tried old))

  -- what was kept since the opening, where the keeper tells what a stop may leave
  abbrev pub KeepsTold : K → K → History → Type 0
  KeepsTold opened now log =
      IsTrue (keepers.tells_stops now) → keepers.tried opened ≡ [] → KeepsGroups opened now log

  -- A group was tried in vain since the opening only where the keeper's count of faults rose.
  pub record CountsTried (opened now : K) : Type 0 where
    pub later : keepers.faults opened ≤ keepers.faults now
    pub counted : keepers.tried opened ≡ [] → (keepers.tried now ≡ [])
        ⊎ Rises (keepers.faults opened) (keepers.faults now)
