-- SPDX-License-Identifier: Apache-2.0 OR MIT
-- The rows of a file as a journal.
use Rattle.std.specs.Prelude.{ℕ, zero, suc, List, [], ◌∷◌, ◌++◌, length, take, drop, Option, Some, None, ◌==◌}
use Rattle.std.specs.Prelude.{if◌then◌else◌}
use Rattle.std.specs.Str.{bytes_eq}
use Rattle.cr_base.specs.declared.row.Row.{Row}
use Rattle.cr_journal.specs.Grammar.{magic}
use Rattle.cr_journal.specs.Reading.{◌>>=◌, field_at, row_at}

-- the rows of a payload, each of which takes one byte or more of so many
unfoldable pub rows_at : List ℕ → ℕ → Option (List Row)
rows_at [] size = Some []
rows_at (b ∷ bytes) zero = None
rows_at (b ∷ bytes) (suc size) = do
  first ← row_at (b ∷ bytes)
  others ← rows_at first.1 size
  Some (first.0 ∷ others)

-- the rows of the payloads from a gate on, each of which takes one byte or more of so many
unfoldable pub groups_at : List ℕ → ℕ → Option (List Row)
groups_at [] size = None
groups_at (gate ∷ bytes) zero = if gate == 1 then None else Some []
groups_at (gate ∷ bytes) (suc size) =
    if gate == 1 then (do
      payload ← field_at bytes
      first ← rows_at payload.0 (length payload.0)
      others ← groups_at payload.1 size
      Some (first ++ others)
    ) else Some []

-- the rows of a file: none of one that is empty, and those of its groups of a journal
abbrev pub stored_rows : List ℕ → Option (List Row)
stored_rows [] = Some []
stored_rows (b ∷ bytes) =
    if bytes_eq (take 8 (b ∷ bytes)) magic then groups_at (drop 8 (b ∷ bytes)) (length bytes) else None
