-- SPDX-License-Identifier: Apache-2.0 OR MIT
use Rattle.std.proofs.Common.{◌≡◌, ◌≤◌, ◌-◌, length, take}
use Rattle.cr_ports.specs.Stream.{taken_and}
use Rattle.cr_ports.proofs.writing.write_all.Given as goal

abbrev pub invariant-writing : goal.invariant-writing
invariant-writing g l = record {
  within : l.at ≤ length l.bytes;
  taken : g.O.Sink.taken l.sink ≡ taken_and (g.O.Sink.taken l.initial.sink) (take l.at l.bytes);
  steady : g.O.Sink.faults l.sink ≡ g.O.Sink.faults l.initial.sink;
}

abbrev pub decreases-writing : goal.decreases-writing
decreases-writing g l = length l.bytes - l.at
