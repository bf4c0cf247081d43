-- SPDX-License-Identifier: Apache-2.0 OR MIT
-- How a text falls into runs: spaces, parentheses, and chunks, the longest runs of everything else. A quotation mark
-- makes a chunk of everything up to the next such mark; without one, of the rest of the text.
use Rattle.std.specs.Prelude.{ℕ, Bool, true, false, not, ◌==◌, ◌+◌, List, [], ◌∷◌, length, if◌then◌else◌}

-- one run of a text
pub data Run : Type 0 where
  -- this many spaces in a row
  spaces : ℕ → Run
  -- a parenthesis
  opening closing : Run
  -- anything else
  chunk : List ℕ → Run

-- the runs of a text that begins with this byte of a chunk, if these are the runs of the rest: the byte begins their
-- first chunk, or is a chunk of its own
abbrev pub chunked : ℕ → List Run → List Run
chunked byte (chunk bytes ∷ runs) = chunk (byte ∷ bytes) ∷ runs
chunked byte runs = chunk (byte ∷ []) ∷ runs

-- the runs of a text that begins with a space, if these are the runs of the rest
abbrev pub spaced : List Run → List Run
spaced (spaces n ∷ runs) = spaces (n + 1) ∷ runs
spaced runs = spaces 1 ∷ runs

-- the runs of a text that begins inside quotation marks, or outside
abbrev pub runs_within : Bool → List ℕ → List Run
runs_within quoted [] = []
runs_within true (byte ∷ text) = chunked byte (runs_within (not (byte == 34)) text)
runs_within false (byte ∷ text) =
    if byte == 32 then spaced (runs_within false text)
    else (if byte == 40 then opening ∷ runs_within false text
    else (if byte == 41 then closing ∷ runs_within false text
    else chunked byte (runs_within (byte == 34) text)))

-- the runs of a text
abbrev pub runs_of : List ℕ → List Run
runs_of text = runs_within false text

-- how many bytes a run has
abbrev pub run_length : Run → ℕ
run_length (spaces n) = n
run_length opening = 1
run_length closing = 1
run_length (chunk bytes) = length bytes

-- how many bytes these runs have together
abbrev pub runs_length : List Run → ℕ
runs_length [] = 0
runs_length (run ∷ runs) = run_length run + runs_length runs
