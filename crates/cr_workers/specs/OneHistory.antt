-- SPDX-License-Identifier: Apache-2.0 OR MIT
-- Many connections on one history: what all workers did, from the history and the keeper's count that they began with
-- to those that they ended with.
use Rattle.std.specs.Prelude.{◌≡◌, ◌≤◌, ◌⊎◌, ℕ, ◌+◌, List, length, map}
use mathlib.Core.List.{IsPrefix}
use Rattle.cr_lock.specs.Counts.{Every, total, within, last_count}
use Rattle.cr_lock.specs.Turns.{groups_with, marks, rises}
use Rattle.cr_session.specs.Replay.{Ledger}
use Rattle.cr_workers.specs.Connections.{Streams, ServedConnection, IsServedWithin}
use Rattle.cr_workers.specs.Doors.{SeenDoor, DoorWork, IsWorkedOn, HasFailedDoor, connections_of}
use Rattle.cr_workers.specs.declared.worked.Worked.{Worked}

-- However the turns of the connections interleave, there is one history, which begins with the first one, and each
-- connection was served on beginnings of it. Each entry after the first history is in one group of one turn of one
-- connection.
pub record ServesHistory {K I O C : Type 0} (streams : Streams K I O C) (ended : Worked)
    (doors doors' : List (SeenDoor I O C)) (b b' : Ledger) : Type 0 where
  -- the doors, each with the connections that were served by it
  pub works : List (DoorWork K I O C)
  pub before : map (λ (w : DoorWork K I O C). w.before) works ≡ doors
  pub after : map (λ (w : DoorWork K I O C). w.after) works ≡ doors'
  pub each : Every (IsWorkedOn ended) works
  pub cause : HasFailedDoor ended works
  pub served : Every (IsServedWithin streams b.history b'.history) (connections_of works)
  pub begins : IsPrefix b.history b'.history
  pub once : (k : ℕ) → total (λ (c : ServedConnection K I O C). groups_with k c.turns) (connections_of works)
      ≡ within (length b.history) (length b'.history) k
  -- the keeper's count rose by what it rose in their turns, so by at least as many as are marked, its last value aside
  pub counted : b'.faults ≡ b.faults + total (λ (c : ServedConnection K I O C). rises c.turns) (connections_of works)
  pub marked : (b.faults + total (λ (c : ServedConnection K I O C). marks c.turns) (connections_of works) ≤ b'.faults)
      ⊎ (last_count ≤ b'.faults)
