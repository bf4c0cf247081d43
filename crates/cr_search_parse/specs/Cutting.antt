-- SPDX-License-Identifier: Apache-2.0 OR MIT
-- The run that a text begins with, as the code tells it.
use Rattle.std.specs.Prelude.{ℕ, suc, Bool, not, ◌&&◌, ◌||◌, ◌==◌, List, [], ◌∷◌, if◌then◌else◌}
use Rattle.cr_search_parse.specs.declared.runs.Run.{Run as Told}
use Rattle.cr_search_parse.specs.declared.runs.Run.TheVariants as told
use Rattle.cr_search_parse.specs.Runs.{Run, spaces, opening, closing, chunk}

-- the run that the code tells, as a value
abbrev pub run_told : Told → Run
run_told (told.Spaces n) = spaces n
run_told told.Opening = opening
run_told told.Closing = closing
run_told (told.Chunk bytes) = chunk bytes.now

-- how many spaces a text begins with
abbrev pub spaces_length : List ℕ → ℕ
spaces_length [] = 0
spaces_length (byte ∷ text) = if byte == 32 then suc (spaces_length text) else 0

-- the byte ends a chunk, if it is outside quotation marks
abbrev pub ends_chunk : ℕ → Bool
ends_chunk byte = byte == 32 || byte == 40 || byte == 41

-- the byte after this one is inside quotation marks, by whether this one is
abbrev pub quoted_behind : Bool → ℕ → Bool
quoted_behind quoted byte = if byte == 34 then not quoted else quoted

-- how many of the first bytes of a text belong to a chunk that began before it, by whether the text begins inside
-- quotation marks
abbrev pub chunk_length : Bool → List ℕ → ℕ
chunk_length quoted [] = 0
chunk_length quoted (byte ∷ text) =
    if not quoted && ends_chunk byte then 0 else suc (chunk_length (quoted_behind quoted byte) text)
