-- SPDX-License-Identifier: Apache-2.0 OR MIT
use Rattle.std.proofs.Common.{◌≡◌, sym, refl, subst, List, IsFalse, All}
use Rattle.cr_ports.specs.Doors.{shares}
use Rattle.cr_net.specs.Doors.{DoorSeen}
use Rattle.cr_net.proofs.NewDoors.{left-new_doors, all-new_doors}
use Rattle.cr_net.proofs.gates.TcpGatesGates.open.Goals as goal

pub returns-clause-shares : goal.returns-clause-shares
returns-clause-shares g c = rw c.in-Ok-doors.ensures (left-new_doors (shares c.args.workers c.args.connections))

pub returns-clause-idle : goal.returns-clause-idle
returns-clause-idle g c =
    subst (λ (doors : List DoorSeen). All (λ (door : DoorSeen). IsFalse door.is_out) doors) (sym c.in-Ok-doors.ensures)
    (all-new_doors (λ door. IsFalse door.is_out) (λ share. refl) (shares c.args.workers c.args.connections))

pub returns-clause-fresh : goal.returns-clause-fresh
returns-clause-fresh g c =
    subst (λ (doors : List DoorSeen). All (λ (door : DoorSeen). door.faults ≡ 0) doors) (sym c.in-Ok-doors.ensures)
    (all-new_doors (λ door. door.faults ≡ 0) (λ share. refl) (shares c.args.workers c.args.connections))
