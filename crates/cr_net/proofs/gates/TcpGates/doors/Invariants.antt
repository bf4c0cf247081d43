-- SPDX-License-Identifier: Apache-2.0 OR MIT
use Rattle.std.proofs.Common.{◌≡◌, map}
use Rattle.cr_ports.specs.Doors.{shares_below}
use Rattle.cr_net.specs.Doors.{new_door}
use Rattle.cr_net.proofs.gates.TcpGates.doors.Given as goal

abbrev pub invariant-making : goal.invariant-making
invariant-making g l = l.doors.items ≡ map new_door (shares_below l.i l.workers l.connections)
