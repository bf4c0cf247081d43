-- SPDX-License-Identifier: Apache-2.0 OR MIT
use Rattle.std.proofs.Common.{length, Some, ◌-◌}
use Rattle.cr_sights.specs.Positions.{AreNoted}
use Rattle.cr_sights.specs.Readers.{reader_in}
use Rattle.cr_ports.specs.Writing.{outlet_of}
use Rattle.cr_sights.proofs.WalkLaws.{Reached}
use Rattle.cr_sights.proofs.walk.write_view.Given as goal

abbrev pub invariant-lines : goal.invariant-lines
invariant-lines g l = record {
  noted : AreNoted l.positions l.log l.at;
  reached : Reached (reader_in l.live.tables (Some l.reader)) l.log l.at
      (outlet_of g.O.Sink.taken g.O.Sink.faults l.initial.sink) (outlet_of g.O.Sink.taken g.O.Sink.faults l.sink);
}

abbrev pub decreases-lines : goal.decreases-lines
decreases-lines g l = length l.log - l.at
