-- SPDX-License-Identifier: Apache-2.0 OR MIT
use Rattle.std.proofs.Common.{◌≡◌, ◌++◌, drop}
use Rattle.cr_plans.specs.Pairing.{AllWeigh, pairs_at}
use Rattle.cr_plans.proofs.planned.pairs.Given as goal

abbrev pub invariant-loop-i : goal.invariant-loop-i
invariant-loop-i l =
    record {
      pairs : l.pairs.items ++ pairs_at l.live.tables l.i (drop l.i l.papers) l.members ≡ pairs_at l.live.tables 0
          l.papers l.members;
      weights : AllWeigh l.pairs.items;
    }
