-- SPDX-License-Identifier: Apache-2.0 OR MIT
-- Doors and gates in memory, as contracts see them, and what each of their calls does.
use Rattle.std.specs.Prelude.{◌≡◌, ℕ, zero, suc, ◌-◌, List, [], ◌∷◌, ◌++◌, length}
use Rattle.std.specs.Prelude.{replicate, ◌==◌, if◌then◌else◌, slice_get, Option, None, Some}
use Rattle.cr_ports.specs.Calls.{Advances, Listed, fails}
use Rattle.cr_ports.specs.Clocks.{Timed}
use Rattle.cr_ports.specs.Count.{counted}
use Rattle.cr_ports.specs.Doors.{DoorLog}
use Rattle.cr_ports.specs.Memory.{Input, Output}
use Rattle.cr_ports.specs.Script.{Scripted}
use Rattle.cr_ports.specs.Stream.{untaken}
use Rattle.cr_ports.specs.declared.door.DoorAnswer.{DoorAnswer}
use Rattle.cr_ports.specs.declared.door.DoorAnswer.TheVariants as answers
use Rattle.cr_ports.specs.declared.door.NextConnection.{NextConnection}
use Rattle.cr_ports.specs.declared.door.NextConnection.TheVariants as next

-- ---- a door

-- a door: the connections that it has still to give, what it did, its calls that found one to give, and its faults
pub record Doored : Type 0 where
  pub coming : List (Input × Output × Timed)
  pub log : DoorLog Input Output Timed
  pub calls : Listed
  pub faults : ℕ

-- an answer, without the connection
abbrev pub answer_of : {I O C : Type 0} → NextConnection I O C → DoorAnswer
answer_of (next.Conn source sink clock) = answers.Conn
answer_of next.Done = answers.Done
answer_of next.Failed = answers.Failed

-- how a door answers
abbrev pub next_answer : Doored → DoorAnswer
next_answer door =
    if length door.coming == 0 then answers.Done
    else if fails door.calls then answers.Failed
    else answers.Conn

-- the connection that an answer gave, if any, and then those still to come
abbrev pub and_coming : {I O C : Type 0} → NextConnection I O C → List (I × O × C) → List (I × O × C)
and_coming (next.Conn source sink clock) coming = (source, sink, clock) ∷ coming
and_coming next.Done coming = coming
and_coming next.Failed coming = coming

-- A call counts where there was a connection to give.
abbrev pub CallsAfter : {I O C : Type 0} → NextConnection I O C → Listed → Listed → Type 0
CallsAfter (next.Conn source sink clock) old new = Advances old new
CallsAfter next.Done old new = new ≡ old
CallsAfter next.Failed old new = Advances old new

-- how many faults are counted after this answer
abbrev pub next_faults : {I O C : Type 0} → NextConnection I O C → ℕ → ℕ
next_faults (next.Conn source sink clock) faults = faults
next_faults next.Done faults = faults
next_faults next.Failed faults = counted faults

-- ---- gates

-- gates: the connections that no door took yet, the openings and the addresses that they were asked for at, which
-- calls of each door fail, the doors that were shut last, and the faults
pub record Gated : Type 0 where
  pub coming : List (Input × Output × Timed)
  pub opens : Listed
  pub asked : List (List ℕ)
  pub failing : List (List ℕ)
  pub shut : List Doored
  pub faults : ℕ

-- a stream's script without a line
abbrev pub unscripted : Scripted
unscripted = record { pieces = []; calls = record { failing = []; made = 0 }; faults = 0 }

-- a connection that sends nothing and takes nothing, and is told no moment
abbrev pub silent : Input × Output × Timed
silent = (
  record { left = []; script = unscripted },
  record { taken = untaken; room = 0; script = unscripted },
  record { coming = []; calls = record { failing = []; made = 0 }; faults = 0 },
)

-- these connections, and then silent ones up to so many
abbrev pub filled : ℕ → List (Input × Output × Timed) → List (Input × Output × Timed)
filled connections coming = coming ++ replicate (connections - length coming) silent

-- the listed calls of door number i, none where none are listed
abbrev pub listed_at : Option (List ℕ) → Listed
listed_at None = record { failing = []; made = 0 }
listed_at (Some failing) = record { failing = failing; made = 0 }

-- the calls of the doors below number i, in their order
abbrev pub calls_below : ℕ → List (List ℕ) → List Listed
calls_below zero failing = []
calls_below (suc i) failing = calls_below i failing ++ listed_at (slice_get failing i) ∷ []
