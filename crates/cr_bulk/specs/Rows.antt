-- SPDX-License-Identifier: Apache-2.0 OR MIT
-- The rows that a file spells: comma-separated values (RFC 4180), as the crate `csv` reads
-- them with its default settings.
use Rattle.std.specs.Prelude.{ℕ, List, [], ◌∷◌, length, Bool, ◌&&◌, nat_le, Option}
use Rattle.std.specs.Prelude.{Some, None, option_and_then, if◌then◌else◌, codes}
use Rattle.std.specs.Str.{bytes_eq, is_utf8}
use Rattle.csv.specs.Reading.{default_config, records, strip_bom}
use Rattle.cr_base.specs.declared.bulk.BulkRow.{BulkRow}

-- the records of a text, the header among them
abbrev pub records_of : List ℕ → List (List (List ℕ))
records_of text = records default_config (strip_bom text)

-- the row of a record, which has four fields
abbrev pub parse_row : List (List ℕ) → Option BulkRow
parse_row (paper ∷ action ∷ user ∷ tag ∷ []) = Some (record { paper = paper; action = action; user = user; tag = tag })
parse_row fields = None

-- one row more
abbrev pub and_row : Option BulkRow → Option (List BulkRow) → Option (List BulkRow)
and_row None rows = None
and_row (Some row) None = None
and_row (Some row) (Some rows) = Some (row ∷ rows)

-- the rows of records, each of which has four fields
abbrev pub rows_told : List (List (List ℕ)) → Option (List BulkRow)
rows_told [] = Some []
rows_told (fields ∷ more) = and_row (parse_row fields) (rows_told more)

-- at most 512 of them
abbrev pub if_few : List BulkRow → Option (List BulkRow)
if_few rows = if nat_le (length rows) 512 then Some rows else None

-- the names of the columns
abbrev pub is_header : BulkRow → Bool
is_header row =
    bytes_eq row.paper (codes "paper") && bytes_eq row.action (codes "action") && bytes_eq row.user (codes "user")
    && bytes_eq row.tag (codes "tag")

-- the rows behind what stands first
abbrev pub rows_behind : Option BulkRow → List (List (List ℕ)) → Option (List BulkRow)
rows_behind None more = None
rows_behind (Some row) more = if is_header row then option_and_then if_few (rows_told more) else None

-- the rows under the header; None where it is missing
abbrev pub rows_under : List (List (List ℕ)) → Option (List BulkRow)
rows_under [] = None
rows_under (fields ∷ more) = rows_behind (parse_row fields) more

-- the rows of a file: it is UTF-8, its records have four fields each, the first is the header, and at most 512 follow
unfoldable pub parse_rows : List ℕ → Option (List BulkRow)
parse_rows text = if is_utf8 text then rows_under (records_of text) else None
