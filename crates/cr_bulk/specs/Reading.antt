-- SPDX-License-Identifier: Apache-2.0 OR MIT
-- A reader in the midst of a file, and what it has left.
use Rattle.std.specs.Prelude.{◌≡◌, ◌+◌, ℕ, List, [], ◌∷◌, length, Bool, true, false}
use Rattle.std.specs.Prelude.{Option, Some, None, IsSome, Result, Ok, Err, option_and_then}
use Rattle.std.specs.Borrow.{Bor}
use Rattle.csv.specs.Machine.{ends_at_end}
use Rattle.csv.specs.Reading.{Ready, default_config, is_flexible, reader_config}
use Rattle.csv.specs.Reading.{reader_state, reader_trim, records_from, source_of}
use Rattle.csv.specs.declared.parser.State.{State}
use Rattle.csv.specs.declared.reader.Reader.{Reader}
use Rattle.csv.specs.declared.reader.Trim.TheVariants as trim
use Rattle.cr_base.specs.declared.decode.DecodeError.{DecodeError}
use Rattle.cr_base.specs.declared.decode.DecodeError.TheVariants.{OutOfMemory}
use Rattle.cr_base.specs.Decoding.{Fails}
use Rattle.cr_bulk.specs.Rows.{rows_under, rows_told, if_few}

-- a reader over bytes that are lent
abbrev pub Lent : Type 0
Lent = Reader (Bor (List ℕ))

-- the bytes that it has left
abbrev pub bytes_left : Lent → Option (List ℕ)
bytes_left a = source_of (λ s. Some s.now) a

-- it stands between two records, reads with the default settings but for the lengths of
-- records, and takes none for a header
pub record IsReading (a : Lent) : Type 0 where
  pub trim : reader_trim a ≡ trim.None
  pub ready : Ready a
  pub config : reader_config a ≡ default_config
  pub flexible : is_flexible a ≡ true
  pub known : IsSome (bytes_left a)
  pub between : ends_at_end (reader_state a) ≡ false

-- the records that these bytes give, from a state
abbrev pub records_by : State → Option (List ℕ) → List (List (List ℕ))
records_by state None = []
records_by state (Some bytes) = records_from default_config (length bytes + 1) state bytes

-- the records that a reader has left
unfoldable pub left_of : Lent → List (List (List ℕ))
left_of a = records_by (reader_state a) (bytes_left a)

-- what a read finds: the first of what is left, or that nothing is
abbrev pub Finds : Bool → Lent → Lent → List (List ℕ) → Type 0
Finds true old new fields = IsReading new × (left_of old ≡ fields ∷ left_of new)
Finds false old new fields = left_of old ≡ []

abbrev pub NextTold : Result Bool DecodeError → Lent → Lent → List (List ℕ) → Type 0
NextTold (Ok found) old new fields = Finds found old new fields
NextTold (Err e) old new fields = e ≡ OutOfMemory

-- what reading the header leaves
abbrev pub HeaderTold : Result (Unit {0}) DecodeError → Lent → Lent → Type 0
HeaderTold (Ok done) old new =
    IsReading new × (rows_under (left_of old) ≡ option_and_then if_few (rows_told (left_of new)))
HeaderTold (Err e) old new = Fails e (rows_under (left_of old))
