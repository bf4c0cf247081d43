-- SPDX-License-Identifier: Apache-2.0 OR MIT
use Rattle.std.proofs.Common.{◌≡◌}
use Rattle.cr_policy.specs.Legal.{Legal}
use Rattle.cr_drill.specs.Cast.{cast_digest}
use Rattle.cr_drill.specs.Drill.{registered_first}
use Rattle.cr_drill.proofs.drilling.register_all.Given as goal

abbrev pub invariant-loop-before : goal.invariant-loop-before
invariant-loop-before l =
    record {
      registered : l.book.log ≡ registered_first cast_digest l.before;
      legal : Legal l.book.log;
    }
