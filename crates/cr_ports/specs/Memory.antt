-- SPDX-License-Identifier: Apache-2.0 OR MIT
-- Streams in memory, as contracts see them, and what each of their calls does.
use Rattle.std.specs.Prelude.{◌≡◌, ℕ, List, length, ◌++◌, ◌||◌, ◌&&◌, not, ◌==◌, min, if◌then◌else◌}
use Rattle.cr_ports.specs.Count.{counted}
use Rattle.cr_ports.specs.Calls.{fails}
use Rattle.cr_ports.specs.Script.{FollowsScript, Scripted, moved}
use Rattle.cr_ports.specs.Stream.{Taken}
use Rattle.cr_ports.specs.declared.source.ReadStep.{ReadStep}
use Rattle.cr_ports.specs.declared.source.ReadStep.TheVariants as reads
use Rattle.cr_ports.specs.declared.sink.WriteStep.{WriteStep}
use Rattle.cr_ports.specs.declared.sink.WriteStep.TheVariants as writes

-- a source: the bytes that it has left, and how its calls behave
pub record Input : Type 0 where
  pub left : List ℕ
  pub script : Scripted

-- a read into a buffer of this length
abbrev pub read_step : Input → ℕ → ReadStep
read_step s room =
    if fails s.script.calls then reads.Failed
    else if length s.left == 0 then reads.End
    else reads.Got (moved s.script (min (length s.left) room))

-- a sink: what it took, how many more bytes it has room for, and how its calls behave
pub record Output : Type 0 where
  pub taken : Taken
  pub room : ℕ
  pub script : Scripted

-- a write of a piece of this length
abbrev pub write_step : Output → ℕ → WriteStep
write_step s len =
    if fails s.script.calls || (s.room == 0 && not (len == 0)) then writes.Failed
    else writes.Took (moved s.script (min s.room len))

-- how many faults are counted after this call
abbrev pub read_faults : ReadStep → ℕ → ℕ
read_faults (reads.Got n) faults = faults
read_faults reads.End faults = faults
read_faults reads.Failed faults = counted faults

-- the fault counter after a write
abbrev pub write_faults : WriteStep → ℕ → ℕ
write_faults (writes.Took n) faults = faults
write_faults writes.Failed faults = counted faults

-- a read that never fails, of so many bytes that are left into a buffer of this length
abbrev pub plain_step : ℕ → ℕ → ReadStep
plain_step left room = if left == 0 then reads.End else reads.Got (min left room)

-- how many bytes a read gives
abbrev pub given_len : ReadStep → ℕ
given_len (reads.Got n) = n
given_len reads.End = 0
given_len reads.Failed = 0

-- One read of a source in memory, into a buffer of some length, leads from the one to the other and gives these bytes.
pub record ReadGives (old new : Input) (piece : List ℕ) : Type 0 where
  pub room : ℕ
  pub len : length piece ≡ given_len (read_step old room)
  pub bytes : old.left ≡ piece ++ new.left
  pub script : FollowsScript old.script new.script

-- The same of a source that never fails, by the bytes that are left.
pub record PlainReadGives (old new : List ℕ) (piece : List ℕ) : Type 0 where
  pub room : ℕ
  pub len : length piece ≡ given_len (plain_step (length old) room)
  pub bytes : old ≡ piece ++ new
