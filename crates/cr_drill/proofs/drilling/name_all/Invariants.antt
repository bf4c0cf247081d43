-- SPDX-License-Identifier: Apache-2.0 OR MIT
use Rattle.std.proofs.Common.{◌≡◌}
use Rattle.cr_base.specs.declared.words.Role.TheVariants.{Chair}
use Rattle.cr_drill.specs.Cast.{second_chair}
use Rattle.cr_drill.specs.Drill.{members_named, named}
use Rattle.cr_drill.specs.Drilling.{HasCast}
use Rattle.cr_drill.proofs.drilling.name_all.Given as goal

abbrev pub invariant-loop-before : goal.invariant-loop-before
invariant-loop-before l =
    record {
      named : l.book.log ≡ members_named l.before (named Chair second_chair l.fn.book.log);
      cast : HasCast l.book.log;
    }
