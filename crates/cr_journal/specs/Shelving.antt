-- SPDX-License-Identifier: Apache-2.0 OR MIT
-- A shelf of journals, as contracts see it.
use Rattle.std.specs.Prelude.{◌≢◌, ℕ, List, [], Bool, true, false, Option, None}
use Rattle.std.specs.Option.{option_map_or}
use Rattle.cr_base.specs.declared.row.Row.{Row}
use Rattle.cr_journal.specs.Grammar.{IsJournalOf}
use Rattle.cr_journal.specs.Stored.{stored_rows}

-- a shelf: its disks; how many files were refused as no journals; whether the last that was to be opened is none, or
-- was left half made; and the disk of the last journal as it was when that was open
pub record Shelved (D F : Type 0) : Type 0 where
  pub disks : D
  pub refused : ℕ
  pub found_none : Bool
  pub left_half_made : Bool
  pub last : Option F

-- the moment at which that was open
abbrev pub opened_at : {D F : Type 0} → (F → ℕ) → Shelved D F → ℕ
opened_at moment shelf = option_map_or moment shelf.last 0

-- the rows at a path, if its disks tell their bytes and a journal is there
abbrev pub rows_at : Bool → (List ℕ → List ℕ) → List ℕ → Option (List Row)
rows_at true files path = stored_rows (files path)
rows_at false files path = None

-- a file that isn't empty, and is the journal of no groups
pub record IsNoJournal (file : List ℕ) : Type 0 where
  pub some : file ≢ []
  pub none : (groups : List (List Row)) → IsJournalOf groups file → ⊥
