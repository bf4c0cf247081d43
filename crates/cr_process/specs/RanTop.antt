-- SPDX-License-Identifier: Apache-2.0 OR MIT
-- What the process says of its run of `top`.
use Rattle.std.specs.Prelude.{◌≡◌, ℕ, List, Option, String}
use Rattle.std.specs.declared.alloc.Global.{Global}
use Rattle.cr_ports.specs.Doors.{DoorLog}
use Rattle.cr_ports.specs.declared.clock.Clock as clocks
use Rattle.cr_ports.specs.declared.keeper.Keeper as keepers
use Rattle.cr_ports.specs.declared.shelf.Shelf as shelves
use Rattle.cr_ports.specs.declared.sink.Sink as sinks
use Rattle.cr_ports.specs.declared.source.Source as sources
use Rattle.cr_session.specs.Tries.{tries_of}
use Rattle.cr_workers.specs.Connections.{streams_of}
use Rattle.cr_top.specs.declared.exit.Exit.{Exit}
use Rattle.cr_top.specs.Jobs.{around_of}
use Rattle.cr_top.specs.Program.{RunsProgram}
use Rattle.cr_top.specs.Stores.{keeping_of}

-- `top` came to this exit: by some words, over some input, output, clock, stores and gates of these types. Of each it
-- takes what its trait tells: of a shelf's keepers too, and of the sources, sinks and clocks that gates' doors give. A
-- caller that makes all of them says so of its run.
pub record RanTop {I O C S K G A B D : Type 0} (source : sources.Ghosts I) (sink : sinks.Ghosts O)
    (ticks : clocks.Ghosts C) (stores : shelves.Ghosts S K) (kept : keepers.Ghosts K) (gate_faults : G → ℕ)
    (logs : G → Option (List (DoorLog A B D))) (asked : G → Option (List (List ℕ))) (door_source : sources.Ghosts A)
    (door_sink : sinks.Ghosts B) (door_clock : clocks.Ghosts D) (exit : Exit) : Type 0 where
  -- the arguments
  pub words : List (String Global)
  -- the input as it was found, and as it was left
  pub input : I
  pub input' : I
  -- and so the output
  pub out : O
  pub out' : O
  -- the clock
  pub clock : C
  pub clock' : C
  -- the shelf
  pub shelf : S
  pub shelf' : S
  -- and the gates
  pub gates : G
  pub gates' : G
  -- what was done between the two
  pub runs : RunsProgram words (stores.tells_stops shelf)
      (keeping_of (stores.tells_stops shelf) kept.opens (stores.left shelf')) source.left source.read_gives
      (streams_of (tries_of kept) door_source.left door_source.read_gives door_source.faults door_sink.taken
      door_sink.faults door_clock.coming door_clock.faults)
      ((shelf' ≡ shelf) × (gates' ≡ gates)) exit
      (around_of source.faults sink.taken sink.faults ticks.coming ticks.faults stores.rows stores.faults gate_faults
      logs asked input out shelf gates clock)
      (around_of source.faults sink.taken sink.faults ticks.coming ticks.faults stores.rows stores.faults gate_faults
      logs asked input' out' shelf' gates' clock')
