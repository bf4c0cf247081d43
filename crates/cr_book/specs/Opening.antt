-- SPDX-License-Identifier: Apache-2.0 OR MIT
-- Which rows open as which history, and at which row others are bad.
use Rattle.std.specs.Prelude.{ℕ, ◌≡◌, ◌≢◌, ◌+◌, ◌++◌, ◌⊎◌, List, length, take, slice_get, Some, Result, Ok, Err, ◌≤◌}
use Rattle.cr_ports.specs.Count.{Rises}
use Rattle.cr_base.specs.declared.row.Row.{Row}
use Rattle.cr_base.specs.History.{History}
use Rattle.cr_base.specs.Rows.{rows_of}
use Rattle.cr_policy.specs.Legal.{Legal}
use Rattle.cr_book.specs.declared.opening.OpenError.{OpenError}
use Rattle.cr_book.specs.declared.opening.OpenError.TheVariants as errors
use Rattle.cr_book.specs.Seen.{SeenBook}

-- The rows continue a legal history: they are the first of one's rows. The groups among them are legal, and what
-- follows the last whole group begins one that an allowed command or bulk would add.
pub record Continue (rows : List Row) : Type 0 where
  pub history : History
  pub legal : Legal history
  pub after : List Row
  pub rows_are : rows_of history ≡ rows ++ after

-- the rows, all of which continue a legal history, end inside a group: the last one has the mark that another follows
pub record AreCutOff (rows : List Row) (last : Row) : Type 0 where
  pub continue : Continue rows
  pub more : last.more ≡ 1

-- The row of this number, from 0, is the first that doesn't continue a legal history: those before it do, and with it
-- they don't. Or it is the last one, and the rows end inside a group.
pub record IsBadAt (rows : List Row) (at : ℕ) (found : Row) : Type 0 where
  pub here : slice_get rows at ≡ Some found
  pub before : Continue (take at rows)
  pub bad : (Continue (take (at + 1) rows) → ⊥) ⊎ ((at + 1 ≡ length rows) × AreCutOff rows found)

-- an error says of these rows at most that they are bad: faults of the keeper and a lack of memory say nothing of them
abbrev pub Explains : List Row → OpenError → Type 0
Explains rows (errors.BadStore at found) = IsBadAt rows at found
Explains rows errors.KeeperFault = Unit {0}
Explains rows errors.OutOfMemory = Unit {0}

-- What opening answers where the keeper tells these rows. It is the book of the one legal history that
-- has them; or they are bad at the row that is told, and then no legal history has them.
abbrev pub Opens : {K : Type 0} → List Row → Result (SeenBook K) (OpenError × K) → Type 0
Opens rows (Ok book) =
    Legal book.log × (rows_of book.log ≡ rows) × ((H : History) → Legal H → rows_of H ≡ rows → H ≡ book.log)
Opens rows (Err (errors.BadStore at found, keeper)) =
    IsBadAt rows at found × ((H : History) → Legal H → rows_of H ≢ rows)
Opens rows (Err (errors.KeeperFault, keeper)) = Unit {0}
Opens rows (Err (errors.OutOfMemory, keeper)) = Unit {0}

-- the keeper's count of faults rose where it is told that it failed, and nowhere else
pub record IsCounted {T : Type 0} (before now : ℕ) (result : Result T OpenError) : Type 0 where
  pub later : before ≤ now
  pub failed : result ≡ Err errors.KeeperFault → Rises before now
  pub steady : result ≢ Err errors.KeeperFault → now ≡ before
