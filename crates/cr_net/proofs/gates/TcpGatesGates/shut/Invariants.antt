-- SPDX-License-Identifier: Apache-2.0 OR MIT
use Rattle.std.proofs.Common.{take, sum_by}
use Rattle.cr_ports.specs.Count.{Gains}
use Rattle.cr_net.specs.Doors.{DoorSeen}
use Rattle.cr_net.proofs.gates.TcpGatesGates.shut.Given as goal

abbrev pub invariant-shutting : goal.invariant-shutting
invariant-shutting g l = Gains l.fn.self (sum_by (λ (d : DoorSeen). d.faults) (take l.door-index l.door-items)) l.self
