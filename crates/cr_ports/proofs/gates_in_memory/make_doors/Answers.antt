-- SPDX-License-Identifier: Apache-2.0 OR MIT
use Rattle.std.proofs.Common.{rules, ◌≡◌, ◌≤◌, ◌∙◌, ◌++◌, ◌∷◌, [], ap, sym, arith, length, length-drop, take}
use Rattle.std.proofs.lemmas.List.{length-take-le}
use Rattle.cr_ports.specs.Doors.{unasked}
use Rattle.cr_ports.specs.MemoryDoors.{Doored}
use Rattle.cr_ports.proofs.Sharing.{given_below, given_below-next, share_fits, enough_left, enough_behind}
use Rattle.cr_ports.proofs.MemoryDoors.{shares_below-next, calls_below-next, map_pushed, all_pushed, flat_map_pushed}
use Rattle.cr_ports.proofs.gates_in_memory.make_doors.Goals as goal

pub take_share-requires : goal.take_share-requires
take_share-requires c =
    let enough = c.making.invariant.enough in
    let fits = share_fits c.making.i c.args.workers c.args.connections c.making-test.true in
    let is = c.share.ensures in
    omega (arith, enough, fits, is)

pub making-preserved : goal.making-preserved
making-preserved c =
    let i = c.making.i in
    let share = c.share.result in
    let coming = c.making.coming.items in
    let rest = c.take_share.new.coming.items in
    let doors = c.making.doors.items in
    let door = c.in_ok-new.field-0 in
    let pushed : c.push.new.self.items ≡ doors ++ door ∷ [] = search rules in
    let first : door.coming ≡ take share coming = c.in_ok-new.ensures.coming ∙ c.in_ok-first.ensures.share in
    let enough = c.making.invariant.enough in
    let fits : share ≤ length coming =
    (let below = share_fits i c.args.workers c.args.connections c.making-test.true in let is = c.share.ensures in omega
    (arith, enough, below, is)) in
    record {
      shares = map_pushed (λ (d : Doored). length d.coming) doors c.push.new.self.items door _ _ pushed
          c.making.invariant.shares
          (ap length first ∙ length-take-le share coming fits ∙ c.share.ensures)
          ∙ sym (shares_below-next i c.args.workers c.args.connections);
      logs = all_pushed (λ (d : Doored). d.log ≡ unasked) doors c.push.new.self.items door pushed
          c.making.invariant.logs c.in_ok-new.ensures.log;
      faults = all_pushed (λ (d : Doored). d.faults ≡ 0) doors c.push.new.self.items door pushed
          c.making.invariant.faults c.in_ok-new.ensures.faults;
      coming = flat_map_pushed (λ (d : Doored). d.coming) doors c.push.new.self.items door _ coming rest share pushed
          first c.in_ok-first.ensures.rest
          c.making.invariant.coming;
      calls = map_pushed (λ (d : Doored). d.calls) doors c.push.new.self.items door _ _ pushed c.making.invariant.calls
          (c.in_ok-new.ensures.calls ∙ c.in_ok-list.ensures) ∙ sym (calls_below-next i _);
      enough =
          let more = given_below-next i c.args.workers c.args.connections in
          let left = enough_left c.args.connections (given_below i c.args.workers c.args.connections) share
          (length coming) enough fits in
          let len = ap length c.in_ok-first.ensures.rest ∙ length-drop share coming in
          enough_behind i c.args.workers c.args.connections share (length coming) (length rest) more c.share.ensures
          left len;
    }
