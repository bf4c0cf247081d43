-- SPDX-License-Identifier: Apache-2.0 OR MIT
use Rattle.std.proofs.Common.{◌≡◌, take}
use Rattle.cr_drill.specs.Drill.{moved_through}
use Rattle.cr_drill.specs.Drilling.{HasCast}
use Rattle.cr_drill.proofs.drilling.move_through.Given as goal

abbrev pub invariant-loop-phase : goal.invariant-loop-phase
invariant-loop-phase l =
    record {
      moved : l.book.log ≡ moved_through l.wanted l.fn.book.log (take l.phase-index l.phases);
      cast : HasCast l.book.log;
    }
