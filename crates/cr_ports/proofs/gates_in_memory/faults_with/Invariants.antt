-- SPDX-License-Identifier: Apache-2.0 OR MIT
use Rattle.std.proofs.Common.{◌≡◌, ◌+◌, ◌-◌, ◌^◌, min, sum_by, take}
use Rattle.cr_ports.specs.MemoryDoors.{Doored}
use Rattle.cr_ports.proofs.gates_in_memory.faults_with.Given as goal

abbrev pub invariant-counting : goal.invariant-counting
invariant-counting l =
    l.faults ≡ min (l.before + sum_by (λ (door : Doored). door.faults) (take l.door-index l.doors)) (2 ^ 64 - 1)
