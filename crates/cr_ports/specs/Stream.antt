-- SPDX-License-Identifier: Apache-2.0 OR MIT
-- What a read and a write do to the bytes that are left, and to those that were taken, where these are told.
use Rattle.std.specs.Prelude.{ℕ, ◌<◌, ◌≤◌, List, [], ◌++◌, length, take, Option, Some, None, ⊤}
use Rattle.cr_ports.specs.Count.{counted}
use Rattle.cr_ports.specs.declared.source.ReadStep.{ReadStep}
use Rattle.cr_ports.specs.declared.source.ReadStep.TheVariants as reads
use Rattle.cr_ports.specs.declared.sink.WriteStep.{WriteStep}
use Rattle.cr_ports.specs.declared.sink.WriteStep.TheVariants as writes

-- these bytes, and then what is left, if that is told
abbrev pub and_left : List ℕ → Option (List ℕ) → Option (List ℕ)
and_left piece None = None
and_left piece (Some rest) = Some (piece ++ rest)

-- what a sink took: the bytes, in order; how many answers were begun, up to 2^64 - 1; and how many bytes had been
-- taken when the last of these was begun
pub record Taken : Type 0 where
  pub bytes : List ℕ
  pub begun : ℕ
  pub begun_at : ℕ

-- nothing was taken yet, and no answer was begun
abbrev pub untaken : Taken
untaken = record { bytes = []; begun = 0; begun_at = 0 }

-- what was taken, if that is told, and then these bytes
abbrev pub taken_and : Option Taken → List ℕ → Option Taken
taken_and None piece = None
taken_and (Some t) piece = Some (record { bytes = t.bytes ++ piece; begun = t.begun; begun_at = t.begun_at })

-- what was taken, if that is told, with one more answer begun
abbrev pub and_begun : Option Taken → Option Taken
and_begun None = None
and_begun (Some t) = Some (record { bytes = t.bytes; begun = counted t.begun; begun_at = length t.bytes })

-- the bytes that a read gave
abbrev pub gave : ReadStep → List ℕ → List ℕ
gave (reads.Got n) buf = take n buf
gave reads.End buf = []
gave reads.Failed buf = []

-- from 1 byte to the whole buffer, if any
abbrev pub FillsWithin : ReadStep → ℕ → Type 0
FillsWithin (reads.Got n) room = (0 < n) × (n ≤ room)
FillsWithin reads.End room = ⊤
FillsWithin reads.Failed room = ⊤

-- the bytes that a write took
abbrev pub took : WriteStep → List ℕ → List ℕ
took (writes.Took n) piece = take n piece
took writes.Failed piece = []

-- not more than the piece has, and something of a piece that isn't empty
abbrev pub TakesWithin : WriteStep → ℕ → Type 0
TakesWithin (writes.Took n) len = (n ≤ len) × (0 < len → 0 < n)
TakesWithin writes.Failed len = ⊤
