-- SPDX-License-Identifier: Apache-2.0 OR MIT
use Rattle.std.proofs.Common.{◌≡◌, arith, subst, map}
use Rattle.cr_ports.specs.Doors.{shares_below}
use Rattle.cr_net.specs.Doors.{new_door}
use Rattle.cr_net.proofs.NewDoors.{new_doors-more}
use Rattle.cr_net.proofs.gates.TcpGates.doors.Goals as goal

pub making-preserved : goal.making-preserved
making-preserved g c =
    new_doors-more _ _ _ c.making.i c.args.workers c.args.connections _ c.making.invariant c.in_ok-push.ensures.items
    c.new-door.ensures c.share-left.ensures

pub returns : goal.returns
returns g c =
    let e : c.making.i ≡ c.args.workers = omega (arith, c.making.auto.i-end, c.making-test.false) in
    subst (λ i. c.making.doors.items ≡ map new_door (shares_below i c.args.workers c.args.connections)) e
    c.making.invariant
