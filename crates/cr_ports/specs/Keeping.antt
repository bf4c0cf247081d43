-- SPDX-License-Identifier: Apache-2.0 OR MIT
-- What a keeper's calls do to its rows and to its count of faults.
use Rattle.std.specs.Prelude.{◌≡◌, ◌≢◌, ℕ, ◌≤◌, List, ◌++◌, Bool, true, false, Option, Some, None, Result, Ok, Err}
use Rattle.cr_base.specs.declared.row.Row.{Row}
use Rattle.cr_ports.specs.Count.{Rises, counted}
use Rattle.cr_ports.specs.Calls.{Listed}
use Rattle.cr_ports.specs.declared.keeper.KeeperError.{KeeperError}
use Rattle.cr_ports.specs.declared.keeper.KeeperError.TheVariants.{Failed}

-- the rows, where they are told, and then these
abbrev pub and_rows : Option (List Row) → List Row → Option (List Row)
and_rows None added = None
and_rows (Some rows) added = Some (rows ++ added)

-- The count never falls; it rose where the call failed, and nowhere else.
pub record HasCause {T : Type 0} (before now : ℕ) (result : Result T KeeperError) : Type 0 where
  pub later : before ≤ now
  pub failed : result ≡ Err Failed → Rises before now
  pub steady : result ≢ Err Failed → now ≡ before

-- a keeper in memory: its rows, its appends and its other calls, numbered apart, and its faults
pub record Kept : Type 0 where
  pub rows : List Row
  pub appends : Listed
  pub reads : Listed
  pub faults : ℕ

-- how many faults are counted after a call that is to fail, or isn't
abbrev pub faults_after : Bool → ℕ → ℕ
faults_after true faults = counted faults
faults_after false faults = faults

-- the answer of a call that takes no memory
abbrev pub failed_or : {T : Type 0} → Bool → T → Result T KeeperError
failed_or true value = Err Failed
failed_or false value = Ok value
