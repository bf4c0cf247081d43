-- SPDX-License-Identifier: Apache-2.0 OR MIT
-- What a run did, by the job that its words name.
use Rattle.std.specs.Prelude.{◌≡◌, ◌⊎◌, ℕ, Bool, List, [], Option, Some, None}
use Rattle.cr_base.specs.History.{History}
use Rattle.cr_base.specs.Rows.{rows_of}
use Rattle.cr_ports.specs.Count.{Rises}
use Rattle.cr_ports.specs.Doors.{DoorLog}
use Rattle.cr_ports.specs.Stream.{Taken}
use Rattle.cr_policy.specs.Legal.{Legal}
use Rattle.cr_words.specs.Job.{NamedJob, pipe_job, serve_job, view_job, drill_job}
use Rattle.cr_workers.specs.Connections.{Streams}
use Rattle.cr_top.specs.declared.exit.Exit.{Exit}
use Rattle.cr_top.specs.declared.exit.Exit.TheVariants as exits
use Rattle.cr_top.specs.Runs.{Outside, outside_of, ReadsNothing, ServesPipe, TellsDrill, IsFaultless, AnswersAll}
use Rattle.cr_top.specs.Serves.{GatesState, gates_of, ServesGates}
use Rattle.cr_top.specs.Stores.{Keeping, RowsByPath, ShelfState, state_of, PipesStore, TellsStore, AnswersView}

-- all that a run works on: input, output and clock, the stores, and the gates with what their doors' connections are
pub record Surroundings (I A B D : Type 0) : Type 0 where
  pub outside : Outside I
  pub stores : ShelfState
  pub gates : GatesState A B D

-- what contracts see of all that a run works on, by the members of its traits
abbrev pub around_of : {I O C S G A B D : Type 0} → (I → ℕ) → (O → Option Taken) → (O → ℕ)
    → (C → Option (List ℕ)) → (C → ℕ) → (S → RowsByPath) → (S → ℕ)
    → (G → ℕ) → (G → Option (List (DoorLog A B D))) → (G → Option (List (List ℕ)))
    → I → O → S → G → C → Surroundings I A B D
around_of read_faults taken write_faults coming clock_faults rows shelf_faults gate_faults logs asked
    input out shelf gates clock = record {
      outside = outside_of read_faults taken write_faults coming clock_faults input out clock;
      stores = state_of rows shelf_faults shelf;
      gates = gates_of gate_faults logs asked gates;
    }

-- memory ran out before anything was read or written
pub record IsUntouched {I A B D : Type 0} (exit : Exit) (a a' : Surroundings I A B D) : Type 0 where
  pub exit_is : exit ≡ exits.OutOfMemory
  pub same : a' ≡ a

-- an exit that tells of a fault is returned only if the counter of what failed rose, or is at its last value
pub record IsCounted {I A B D : Type 0} (exit : Exit) (a a' : Surroundings I A B D) : Type 0 where
  pub read : exit ≡ exits.ReadFault → Rises a.outside.read_faults a'.outside.read_faults
  pub write : exit ≡ exits.WriteFault → Rises a.outside.output.faults a'.outside.output.faults
  pub keeper : exit ≡ exits.KeeperFault → Rises a.stores.faults a'.stores.faults
  pub listen : exit ≡ exits.ListenFault → Rises a.gates.faults a'.gates.faults
  pub clock : exit ≡ exits.ClockFault → Rises a.outside.clock.faults a'.outside.clock.faults

-- what the run did, by its job: one connection from the empty history on, or from that of a store; many connections
-- over a store; the view of a store; or a drill. The last three read no input and ask no clock except those of doors,
-- and only serving asks the gates. A drill has no store.
abbrev pub DoesJob : {I K A B D : Type 0} → (List ℕ → Bool) → (List ℕ → Keeping) → (I → Option (List ℕ))
    → (I → I → List ℕ → Type 0) → Streams K A B D
    → NamedJob → Exit → Surroundings I A B D → Surroundings I A B D → Type 0
DoesJob tells_stops keeps left gives streams (pipe_job None) exit a a' =
    ServesPipe left gives [] exit a.outside a'.outside × (a'.stores ≡ a.stores) × (a'.gates ≡ a.gates)
DoesJob tells_stops keeps left gives streams (pipe_job (Some path)) exit a a' =
    PipesStore (tells_stops path) (keeps path) path left gives exit a.outside a'.outside a.stores a'.stores
    × (a'.gates ≡ a.gates)
DoesJob tells_stops keeps left gives streams (serve_job listen workers connections path) exit a a' =
    ServesGates (tells_stops path) (keeps path) path streams listen workers connections exit a.outside.output
    a'.outside.output a.stores a'.stores a.gates a'.gates
    × ReadsNothing a.outside a'.outside
DoesJob tells_stops keeps left gives streams (view_job path name) exit a a' =
    TellsStore (tells_stops path) path name exit a.outside.output a'.outside.output a.stores a'.stores
    × ReadsNothing a.outside a'.outside × (a'.gates ≡ a.gates)
DoesJob tells_stops keeps left gives streams (drill_job seed steps) exit a a' =
    TellsDrill seed steps exit a.outside.output a'.outside.output × (a'.stores ≡ a.stores)
    × ReadsNothing a.outside a'.outside × (a'.gates ≡ a.gates)

-- the run did the job (`DoesJob`), or memory ran out before anything was read or written
abbrev pub Does : {I K A B D : Type 0} → (List ℕ → Bool) → (List ℕ → Keeping) → (I → Option (List ℕ))
    → (I → I → List ℕ → Type 0) → Streams K A B D
    → NamedJob → Exit → Surroundings I A B D → Surroundings I A B D → Type 0
Does tells_stops keeps left gives streams job exit a a' =
    IsUntouched exit a a' ⊎ DoesJob tells_stops keeps left gives streams job exit a a'

-- the rows at the path are those of a legal history, over a shelf of which no call failed
pub record HasHistory (path : List ℕ) (H : History) (s s' : ShelfState) : Type 0 where
  pub legal : Legal H
  pub told : s.rows path ≡ Some (rows_of H)
  pub faultless : Rises s.faults s'.faults → ⊥

-- if nothing fails, all that the input's bytes spell is answered, from the empty history on or from the store's; each
-- door serves its share of connections; the view of the store's history is told whole, or no user there has the name;
-- and the summary of a drill is told. Memory may run out.
abbrev pub AnswersJob : {I A B D : Type 0} → (I → Option (List ℕ)) → NamedJob → Exit → Surroundings I A B D
    → Surroundings I A B D → Type 0
AnswersJob left (pipe_job None) exit a a' =
    (b : List ℕ) → left a.outside.input ≡ Some b → IsFaultless a.outside a'.outside
    → (exit ≡ exits.OutOfMemory) ⊎ AnswersAll [] exit b a.outside a'.outside
AnswersJob left (pipe_job (Some path)) exit a a' =
    (b : List ℕ) → left a.outside.input ≡ Some b → IsFaultless a.outside a'.outside → (H : History)
    → HasHistory path H a.stores a'.stores
    → (exit ≡ exits.OutOfMemory) ⊎ AnswersAll H exit b a.outside a'.outside
AnswersJob left (serve_job listen workers connections path) exit a a' =
    (Rises a.outside.output.faults a'.outside.output.faults → ⊥) → (Rises a.gates.faults a'.gates.faults → ⊥)
    → (H : History) → HasHistory path H a.stores a'.stores → (exit ≡ exits.OutOfMemory) ⊎ (exit ≡ exits.Done)
AnswersJob left (view_job path name) exit a a' =
    (Rises a.outside.output.faults a'.outside.output.faults → ⊥) → (H : History) → HasHistory path H a.stores a'.stores
    → (exit ≡ exits.OutOfMemory) ⊎ AnswersView H name exit a.outside.output a'.outside.output
AnswersJob left (drill_job seed steps) exit a a' =
    (Rises a.outside.output.faults a'.outside.output.faults → ⊥) → (exit ≡ exits.OutOfMemory) ⊎ (exit ≡ exits.Done)
