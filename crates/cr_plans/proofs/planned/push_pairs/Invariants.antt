-- SPDX-License-Identifier: Apache-2.0 OR MIT
use Rattle.std.proofs.Common.{◌≡◌, ◌++◌, drop}
use Rattle.cr_plans.specs.Pairing.{AllWeigh, pairs_of_place}
use Rattle.cr_plans.proofs.planned.push_pairs.Given as goal

abbrev pub invariant-loop-i : goal.invariant-loop-i
invariant-loop-i l =
    record {
      pairs : l.pairs.items ++ pairs_of_place l.live.tables l.fn.place l.fn.paper l.i (drop l.i l.members)
          ≡ l.initial.pairs.items ++ pairs_of_place l.live.tables l.fn.place l.fn.paper 0 l.members;
      weights : AllWeigh (pairs_of_place l.live.tables l.fn.place l.fn.paper l.i (drop l.i l.members))
          → AllWeigh (pairs_of_place l.live.tables l.fn.place l.fn.paper 0 l.members);
    }
