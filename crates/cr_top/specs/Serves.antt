-- SPDX-License-Identifier: Apache-2.0 OR MIT
-- What a run does that serves many connections over a store.
use Rattle.std.specs.Prelude.{◌≡◌, ◌≢◌, ◌≤◌, ◌⊎◌, ℕ, ◌+◌, List, [], ◌∷◌, ◌++◌, length, map, Bool, true, false}
use Rattle.std.specs.Prelude.{Option, Some, IfSome}
use Rattle.cr_base.specs.History.{History}
use Rattle.cr_base.specs.Lists.{listed}
use Rattle.cr_base.specs.Rows.{rows_of}
use Rattle.cr_drill.specs.Drill.{entries_line}
use Rattle.cr_lock.specs.Counts.{Every, total}
use Rattle.cr_ports.specs.Count.{Gains, Rises}
use Rattle.cr_ports.specs.Doors.{DoorLog, shares, unasked}
use Rattle.cr_ports.specs.Opening.{AsksAtMost, and_asked}
use Rattle.cr_ports.specs.Writing.{Outlet, Writes, BreaksOff}
use Rattle.cr_ports.specs.declared.door.DoorAnswer.TheVariants as answers
use Rattle.cr_policy.specs.Legal.{Legal}
use Rattle.cr_session.specs.Replay.{JudgedWish, lost_count}
use Rattle.cr_workers.specs.Connections.{Streams, ServedConnection, IsServedWithin}
use Rattle.cr_workers.specs.Doors.{SeenDoor, DoorWork, NoneLacked, connections_of, ends_of}
use Rattle.cr_workers.specs.OneHistory.{ServesHistory}
use Rattle.cr_workers.specs.declared.worked.Worked.{Worked}
use Rattle.cr_workers.specs.declared.worked.Worked.TheVariants as worked
use Rattle.cr_top.specs.declared.exit.Exit.{Exit}
use Rattle.cr_top.specs.declared.exit.Exit.TheVariants as exits
use Rattle.cr_top.specs.Exits.{exit_of_workers}
use Rattle.cr_top.specs.Stores.{Keeping, KeepsRows, LeavesExactly, ShelfState, StaysShut}

-- gates: their count of faults; what the doors that were shut last did, and at which addresses doors were asked for,
-- where they tell it
pub record GatesState (I O C : Type 0) : Type 0 where
  pub faults : ℕ
  pub logs : Option (List (DoorLog I O C))
  pub asked : Option (List (List ℕ))

-- what contracts see of gates, by the members of their trait
abbrev pub gates_of : {G I O C : Type 0} → (G → ℕ) → (G → Option (List (DoorLog I O C))) → (G → Option (List (List ℕ)))
    → G → GatesState I O C
gates_of faults logs asked gates = record { faults = faults gates; logs = logs gates; asked = asked gates }

-- gates that were asked for doors at this address, and opened them
pub record OpensAt {I O C : Type 0} (listen : List ℕ) (g g' : GatesState I O C) : Type 0 where
  pub asked : g'.asked ≡ and_asked g.asked listen
  pub faults : g'.faults ≡ g.faults
  pub logs : g'.logs ≡ g.logs

-- the line with the number of entries was written, or its write broke off
abbrev pub TellsEntries : Bool → ℕ → Outlet → Outlet → Type 0
TellsEntries true entries o o' = Writes (entries_line entries) o o'
TellsEntries false entries o o' = BreaksOff (entries_line entries) o o'

-- ---- the doors

-- A door as gates open it: no connection is out, it has counted no fault, and it tells that it wasn't asked
-- yet, where it tells what it did.
pub record IsNew {I O C : Type 0} (d : SeenDoor I O C) : Type 0 where
  pub back : d.is_out ≡ false
  pub faults : d.faults ≡ 0
  pub log : IfSome d.log (λ log. log ≡ unasked)

-- each of the doors, by what contracts see of it, is new
abbrev pub AreNew : {D I O C : Type 0} → (D → SeenDoor I O C) → List D → Type 0
AreNew seen doors = Every IsNew (map seen doors)

-- a door's last answer, by how the workers ended: that its share was given; that, or that it failed; or, if memory ran
-- out, any
abbrev pub DoorEndsBy : {I O C : Type 0} → Worked → DoorLog I O C → Type 0
DoorEndsBy worked.Done log = log.last ≡ Some answers.Done
DoorEndsBy worked.DoorFailed log = (log.last ≡ Some answers.Done) ⊎ (log.last ≡ Some answers.Failed)
DoorEndsBy worked.OutOfMemory log = Unit {0}

-- Doors that were shut, with the connections that were served by each, by what the gates tell: each connection as it
-- was given and as it came back, in order, and the door's last answer.
pub record AreDoorsTold {K I O C : Type 0} (ended : Worked) (works : List (DoorWork K I O C))
    (logs : List (DoorLog I O C)) : Type 0 where
  pub served : map (λ (log : DoorLog I O C). log.served) logs
      ≡ map (λ (w : DoorWork K I O C). ends_of w.connections) works
  pub last : Every (DoorEndsBy ended) logs

-- ---- the wishes of all connections

-- the wishes of these connections that were judged: those answered whole, and those whose answer's write failed
abbrev pub judged_in : {K I O C : Type 0}
    → (streams : Streams K I O C) (first last : History) (connections : List (ServedConnection K I O C))
    → Every (IsServedWithin streams first last) connections → List JudgedWish
judged_in streams first last [] served = []
judged_in streams first last (c ∷ cs) served =
    (served.0.served.connection.answered ++ listed served.0.served.connection.failed)
    ++ judged_in streams first last cs served.1

-- ---- connections were served

-- The gates were asked to listen at the address, once and at no other. From the history of the rows at the path on
-- workers served the connections that their doors gave, one door each, and the exit is by how they ended: 0 or 5
-- where each door gave its share, 7 where one failed, and 9 where memory ran out. The last history is kept, and the
-- output has the number of its entries.
pub record ServesMany {K I O C : Type 0} (keeps : Keeping) (path : List ℕ) (streams : Streams K I O C) (listen : List ℕ)
    (workers connections : ℕ) (exit : Exit) (o o' : Outlet) (s s' : ShelfState)
    (g g' : GatesState I O C) : Type 0 where
  pub opening : History
  pub opens : Legal opening
  pub found : IfSome (s.rows path) (λ there. rows_of opening ≡ there)
  -- the doors as they were opened, with their shares of the connections, and as they were shut
  pub doors : List (SeenDoor I O C)
  pub doors' : List (SeenDoor I O C)
  pub shared : map (λ (d : SeenDoor I O C). d.left) doors ≡ shares workers connections
  pub new : Every IsNew doors
  -- the last history, and the keeper's count of faults
  pub history : History
  pub legal : Legal history
  pub faults : ℕ
  -- What the connections did, on one history: each as it came, on beginnings of it, however their turns interleave.
  pub ended : Worked
  pub serves : ServesHistory streams ended doors doors' (record { history = opening; faults = 0 })
      (record { history = history; faults = faults })
  -- With exit 0 or 5 as many connections were served by each door as its share was, and with 0, 5 or 7
  -- none ended for lack of memory.
  pub all : ended ≡ worked.Done
      → map (λ (w : DoorWork K I O C). length w.connections) serves.works ≡ shares workers connections
  pub none_lacked : ended ≢ worked.OutOfMemory → NoneLacked (connections_of serves.works)
  -- the line at the end
  pub written : Bool
  pub line : TellsEntries written (length history) o o'
  pub exit_is : exit ≡ exit_of_workers ended written
  -- The store: behind the rows of the last history stands nothing, or the group of one wish that was lost on it. The
  -- shelf's count rose by as many at least as wishes were lost, its last value aside.
  pub leaves : keeps.store opening history s s'
  pub behind : keeps.behind history
      (judged_in streams opening history (connections_of serves.works) serves.served) s s'
  pub counted : Gains s.faults faults s'.faults
  pub lost : Gains s.faults (lost_count (judged_in streams opening history (connections_of serves.works) serves.served))
      s'.faults
  -- Where none was, the rows are those of the last history and no more.
  pub exact : lost_count (judged_in streams opening history (connections_of serves.works) serves.served) ≡ 0
      → LeavesExactly path history s s'
  pub asked : g'.asked ≡ and_asked g.asked listen
  -- the gates tell what each door did, and count its faults
  pub told : IfSome g'.logs (λ logs. AreDoorsTold ended serves.works logs)
  pub gates : Gains g.faults (total (λ (d : SeenDoor I O C). d.faults) doors') g'.faults

-- ---- no connection was served

-- why no connection was served, by the exit, though the store was opened: the gates failed, which was counted; or
-- memory ran out
abbrev pub IsWhyClosed : {I O C : Type 0} → Exit → GatesState I O C → GatesState I O C → Type 0
IsWhyClosed exits.ListenFault g g' = Rises g.faults g'.faults
IsWhyClosed exits.OutOfMemory g g' = Unit {0}
IsWhyClosed _ g g' = ⊥

-- The store was opened and shut again, with its rows as they were. The gates were asked to listen at no address but
-- this one.
pub record StaysClosed {I O C : Type 0} (listen : List ℕ) (exit : Exit) (s s' : ShelfState)
    (g g' : GatesState I O C) : Type 0 where
  pub refused : IsWhyClosed exit g g'
  pub rows : KeepsRows s s'
  pub count : s.faults ≤ s'.faults
  pub gates : g.faults ≤ g'.faults
  pub asked : AsksAtMost listen g.asked g'.asked

-- what serving did: connections were served; or none was, and nothing was written; or the store didn't open, and the
-- gates weren't asked
abbrev pub ServesGates : {K I O C : Type 0} → Bool → Keeping → List ℕ → Streams K I O C → List ℕ → ℕ → ℕ → Exit
    → Outlet → Outlet → ShelfState → ShelfState → GatesState I O C → GatesState I O C → Type 0
ServesGates tells_stops keeps path streams listen workers connections exit o o' s s' g g' =
    (StaysShut tells_stops path exit s s' × (o' ≡ o) × (g' ≡ g))
    ⊎ ((StaysClosed listen exit s s' g g' × (o' ≡ o))
    ⊎ ServesMany keeps path streams listen workers connections exit o o' s s' g g')
