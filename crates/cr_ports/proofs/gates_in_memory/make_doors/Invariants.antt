-- SPDX-License-Identifier: Apache-2.0 OR MIT
use Rattle.std.proofs.Common.{◌≡◌, ◌≤◌, ◌+◌, ◌++◌, All, flat_map, length, map}
use Rattle.cr_ports.specs.Doors.{shares_below, unasked}
use Rattle.cr_ports.specs.MemoryDoors.{Doored, calls_below}
use Rattle.cr_ports.proofs.Sharing.{given_below}
use Rattle.cr_ports.proofs.gates_in_memory.make_doors.Given as goal

abbrev pub invariant-making : goal.invariant-making
invariant-making l = record {
  shares : map (λ (door : Doored). length door.coming) l.doors.items ≡ shares_below l.i l.workers l.connections;
  logs : All (λ (door : Doored). door.log ≡ unasked) l.doors.items;
  faults : All (λ (door : Doored). door.faults ≡ 0) l.doors.items;
  coming : flat_map (λ (door : Doored). door.coming) l.doors.items ++ l.coming.items ≡ l.initial.coming.items;
  calls : map (λ (door : Doored). door.calls) l.doors.items ≡ calls_below l.i (map (λ list. list.items) l.failing);
  enough : l.connections ≤ given_below l.i l.workers l.connections + length l.coming.items;
}
