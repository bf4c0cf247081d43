-- SPDX-License-Identifier: Apache-2.0 OR MIT
-- A stream of std behind a port: what a write does to the bytes that the stream itself tells.
use Rattle.std.specs.Prelude.{ℕ, List, take, Option}
use Rattle.std.specs.Io.KnownBytes.{Appends}
use Rattle.cr_ports.specs.declared.sink.WriteStep.{WriteStep}
use Rattle.cr_ports.specs.declared.sink.WriteStep.TheVariants.{Took, Failed}

-- a stream of std, and how many of its faults were counted
pub record Adapter (T : Type 0) : Type 0 where
  pub stream : T
  pub faults : ℕ

-- after what was there comes the front of the piece that was taken; if the write failed, some front of it
abbrev pub HasWritten : WriteStep → Option (List ℕ) → Option (List ℕ) → List ℕ → Type 0
HasWritten (Took n) old new piece = Appends old new (take n piece)
HasWritten Failed old new piece = (n : ℕ) × Appends old new (take n piece)
