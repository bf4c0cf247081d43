-- SPDX-License-Identifier: Apache-2.0 OR MIT
-- What workers did with their doors.
use Rattle.std.specs.Prelude.{◌≡◌, ◌≤◌, ◌⊎◌, ℕ, ◌+◌, ◌*◌, ◌^◌, List, [], ◌∷◌}
use Rattle.std.specs.Prelude.{◌++◌, length, map, flat_map, Bool, true, false}
use Rattle.std.specs.Prelude.{Option, Some, None, Result, Ok, Err}
use Rattle.cr_lock.specs.Counts.{Every, total}
use Rattle.cr_ports.specs.Count.{Rises}
use Rattle.cr_ports.specs.Doors.{DoorLog}
use Rattle.cr_ports.specs.declared.door.DoorAnswer.{DoorAnswer}
use Rattle.cr_ports.specs.declared.door.DoorAnswer.TheVariants as answers
use Rattle.cr_ports.specs.declared.door.Served.{Served}
use Rattle.cr_session.specs.declared.serve.Ending.{Ending}
use Rattle.cr_session.specs.declared.serve.Ending.TheVariants as endings
use Rattle.cr_session.specs.Passing.{KnownPass}
use Rattle.cr_workers.specs.Connections.{Streams, ServedConnection, IsServed, ServeAll}
use Rattle.cr_workers.specs.declared.worked.Worked.{Worked}
use Rattle.cr_workers.specs.declared.worked.Worked.TheVariants as worked
use Rattle.cr_workers.specs.declared.worker.Last.{Last}
use Rattle.cr_workers.specs.declared.worker.Last.TheVariants as lasts

-- ---- how workers ended

-- how these and those ended together
abbrev pub joined : Worked → Worked → Worked
joined worked.OutOfMemory w = worked.OutOfMemory
joined worked.DoorFailed worked.OutOfMemory = worked.OutOfMemory
joined worked.DoorFailed worked.DoorFailed = worked.DoorFailed
joined worked.DoorFailed worked.Done = worked.DoorFailed
joined worked.Done w = w

-- how a worker ended whose door answered so at last, and of whose connections one ended for lack of memory or none did
abbrev pub ended_by : Bool → Last → Worked
ended_by true last = worked.OutOfMemory
ended_by false lasts.Failed = worked.DoorFailed
ended_by false lasts.Done = worked.Done

-- ---- one door

-- a door: how many connections it has still to give, whether one is out, its count of faults, and what it tells
pub record SeenDoor (I O C : Type 0) : Type 0 where
  pub left : ℕ
  pub is_out : Bool
  pub faults : ℕ
  pub log : Option (DoorLog I O C)

-- what contracts see of a door, by the members of its trait
abbrev pub door_of : {D I O C : Type 0} → (D → ℕ) → (D → Bool) → (D → ℕ) → (D → Option (DoorLog I O C)) → D
    → SeenDoor I O C
door_of left is_out faults log door =
    record { left = left door; is_out = is_out door; faults = faults door; log = log door }

-- the sources, sinks and clocks of connections, as they were given and came back
abbrev pub ends_of : {K I O C : Type 0} → List (ServedConnection K I O C) → List (Served I O C)
ends_of {K} {I} {O} {C} connections = map (λ (c : ServedConnection K I O C). c.ends) connections

-- if the door tells them, the connections that it took back are more by these
abbrev pub TellsMore : {I O C : Type 0} → List (Served I O C) → Option (DoorLog I O C) → Option (DoorLog I O C)
    → Type 0
TellsMore ends None None = Unit {0}
TellsMore ends None (Some log') = ⊥
TellsMore ends (Some log) None = ⊥
TellsMore ends (Some log) (Some log') = log'.served ≡ log.served ++ ends

-- if the door tells it, this was its last answer
abbrev pub TellsLast : {I O C : Type 0} → DoorAnswer → Option (DoorLog I O C) → Type 0
TellsLast answer None = Unit {0}
TellsLast answer (Some log) = log.last ≡ Some answer

-- the door gave these connections, and took them back
pub record Visits {K I O C : Type 0} (connections : List (ServedConnection K I O C)) (d d' : SeenDoor I O C) : Type 0
  where
    pub left : d.left ≡ d'.left + length connections
    pub back : d'.is_out ≡ false
    pub faults : d'.faults ≡ d.faults
    pub log : TellsMore (ends_of connections) d.log d'.log

-- how its state tells that it has no further one: its share was given, or it failed
abbrev pub StopsBy : {I O C : Type 0} → Last → SeenDoor I O C → SeenDoor I O C → Type 0
StopsBy lasts.Done d d' = (d.left ≡ 0) × (d'.left ≡ 0) × (d'.faults ≡ d.faults) × TellsLast answers.Done d'.log
StopsBy lasts.Failed d d' = (d.faults ≤ d'.faults) × Rises d.faults d'.faults × TellsLast answers.Failed d'.log

-- the door was asked, and had no further connection
pub record Stops {I O C : Type 0} (last : Last) (d d' : SeenDoor I O C) : Type 0 where
  pub by : StopsBy last d d'
  pub back : d'.is_out ≡ false
  pub log : TellsMore [] d.log d'.log

-- what a worker did with its door, from end to end: it served these connections, and then there was no further one
abbrev pub Works : {K I O C : Type 0} → Last → List (ServedConnection K I O C) → SeenDoor I O C → SeenDoor I O C
    → Type 0
Works {K} {I} {O} {C} last connections d d' =
    (between : SeenDoor I O C) × Visits connections d between × Stops last between d'

-- a connection ended for lack of memory
abbrev pub lacks : Ending → Bool
lacks endings.Clean = false
lacks endings.Cut = false
lacks (endings.Closed why) = false
lacks endings.ReadFault = false
lacks endings.WriteFault = false
lacks endings.ClockFault = false
lacks endings.OutOfMemory = true

-- none of them did
abbrev pub NoneLacked : {K I O C : Type 0} → List (ServedConnection K I O C) → Type 0
NoneLacked {K} {I} {O} {C} connections = Every (λ (c : ServedConnection K I O C). lacks c.ending ≡ false) connections

-- ---- all doors

-- a door with the connections that were served by it
pub record DoorWork (K I O C : Type 0) : Type 0 where
  pub before : SeenDoor I O C
  pub after : SeenDoor I O C
  pub connections : List (ServedConnection K I O C)

-- By how workers ended: each door gave its share; or it did, or failed; or, for lack of memory, it did, or failed, or
-- wasn't asked.
abbrev pub IsWorkedOn : {K I O C : Type 0} → Worked → DoorWork K I O C → Type 0
IsWorkedOn worked.Done w = Works lasts.Done w.connections w.before w.after × NoneLacked w.connections
IsWorkedOn worked.DoorFailed w =
    (Works lasts.Done w.connections w.before w.after ⊎ Works lasts.Failed w.connections w.before w.after)
    × NoneLacked w.connections
IsWorkedOn worked.OutOfMemory w =
    Works lasts.Done w.connections w.before w.after ⊎ Works lasts.Failed w.connections w.before w.after
    ⊎ ((w.connections ≡ []) × (w.after ≡ w.before))

-- one of the doors failed
abbrev pub OneFailed : {K I O C : Type 0} → List (DoorWork K I O C) → Type 0
OneFailed [] = ⊥
OneFailed (w ∷ ws) = Works lasts.Failed w.connections w.before w.after ⊎ OneFailed ws

-- if they ended by a door's failure, one of the doors failed
abbrev pub HasFailedDoor : {K I O C : Type 0} → Worked → List (DoorWork K I O C) → Type 0
HasFailedDoor worked.Done works = Unit {0}
HasFailedDoor worked.DoorFailed works = OneFailed works
HasFailedDoor worked.OutOfMemory works = Unit {0}

-- the connections of all doors
abbrev pub connections_of : {K I O C : Type 0} → List (DoorWork K I O C) → List (ServedConnection K I O C)
connections_of {K} {I} {O} {C} works = flat_map (λ (w : DoorWork K I O C). w.connections) works

-- What workers did with these doors, who began with one pass and ended with one.
pub record ServesDoors {K I O C : Type 0} (streams : Streams K I O C) (ended : Worked)
    (doors doors' : List (SeenDoor I O C)) (p p' : KnownPass K) : Type 0 where
  pub works : List (DoorWork K I O C)
  pub before : map (λ (w : DoorWork K I O C). w.before) works ≡ doors
  pub after : map (λ (w : DoorWork K I O C). w.after) works ≡ doors'
  pub each : Every (IsWorkedOn ended) works
  pub cause : HasFailedDoor ended works
  pub served : ServeAll streams (connections_of works) p p'

-- ServesDoors, of doors of which this is seen
abbrev pub ServesSeen : {D K I O C : Type 0} → (D → SeenDoor I O C) → Streams K I O C → Worked → List D → List D
    → KnownPass K → KnownPass K → Type 0
ServesSeen seen streams ended doors doors' p p' = ServesDoors streams ended (map seen doors) (map seen doors') p p'

-- so many connections take at most so many turns
abbrev pub turns_for : ℕ → ℕ
turns_for connections = 1048576 * connections

-- Doors that may be served after so many turns: none has a connection out, and the turns of all that they give stay
-- within the lock's.
abbrev pub AreReady : {D : Type 0} → (D → ℕ) → (D → Bool) → List D → ℕ → Type 0
AreReady left is_out doors turns =
    (turns + turns_for (total left doors) ≤ 2 ^ 40) × Every (λ door. is_out door ≡ false) doors

-- ---- one worker's steps

-- the next connection of a door was served and given back, or there was none
abbrev pub ServesNext : {K I O C : Type 0} → Streams K I O C → Result Ending Last → SeenDoor I O C → SeenDoor I O C
    → KnownPass K → KnownPass K → Type 0
ServesNext {K} {I} {O} {C} streams (Ok ending) d d' p p' = (c : ServedConnection K I O C)
    × IsServed streams c × (c.ending ≡ ending) × (c.before ≡ p) × (c.after ≡ p') × Visits (c ∷ []) d d'
ServesNext streams (Err last) d d' p p' = (p' ≡ p) × Stops last d d'
