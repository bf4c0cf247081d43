-- SPDX-License-Identifier: Apache-2.0 OR MIT
use Rattle.std.proofs.Common.{rules, ◌≡◌, ◌<◌, ◌+◌, ◌-◌, ◌∙◌, ◌++◌, ◌∷◌, [], ap, arith, length}
use Rattle.std.proofs.lemmas.List.{length_push}
use Rattle.cr_ports.specs.MemoryDoors.{silent}
use Rattle.cr_ports.proofs.MemoryDoors.{filled_more}
use Rattle.cr_ports.proofs.gates_in_memory.fill.Goals as goal

pub filling-preserved : goal.filling-preserved
filling-preserved c =
    let xs = c.args.coming.now.items in
    let old = c.filling.coming.items in
    let new = c.push_back.new.self.items in
    let pushed : new ≡ old ++ c.in_ok-silent_connection.field-0 ∷ [] = search rules in
    let longer : length new ≡ length old + 1 = ap length pushed ∙ length_push old c.in_ok-silent_connection.field-0 in
    let later = c.filling.invariant.later in
    let within : length old < c.args.connections = search rules in
    record {
      items = filled_more xs old new c.in_ok-silent_connection.field-0 silent (length old - length xs)
          (length new - length xs) c.filling.invariant.items pushed c.in_ok-silent_connection.ensures
          (omega (arith, longer, later));
      later = omega (arith, longer, later);
      within = omega (arith, longer, later, within);
    }
