-- SPDX-License-Identifier: Apache-2.0 OR MIT
use Rattle.std.proofs.Common.{◌≡◌, ◌≤◌, ◌-◌, ◌++◌, length, replicate}
use Rattle.cr_ports.specs.MemoryDoors.{silent}
use Rattle.cr_ports.proofs.gates_in_memory.fill.Given as goal

abbrev pub invariant-filling : goal.invariant-filling
invariant-filling l = record {
  items : l.coming.items ≡ l.initial.coming.items ++ replicate (length l.coming.items - length l.initial.coming.items)
      silent;
  later : length l.initial.coming.items ≤ length l.coming.items;
  within : length l.coming.items - length l.initial.coming.items ≤ l.connections - length l.initial.coming.items;
}

abbrev pub decreases-filling : goal.decreases-filling
decreases-filling l = l.connections - length l.coming.items
