-- SPDX-License-Identifier: Apache-2.0 OR MIT
use Rattle.cr_ports.proofs.MemoryDoors.{logs_told}
use Rattle.cr_ports.proofs.gates_in_memory.MemGatesGates.shut.Goals as goal

pub returns-clause-told : goal.returns-clause-told
returns-clause-told c = logs_told c.args.doors.items
