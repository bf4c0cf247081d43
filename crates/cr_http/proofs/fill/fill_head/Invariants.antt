-- SPDX-License-Identifier: Apache-2.0 OR MIT
use Rattle.std.proofs.Common.{◌≡◌, ◌≤◌, length, ◌-◌}
use Rattle.cr_http.specs.Buffer.{text_of}
use Rattle.cr_http.specs.Filling.{Moves, NeedsHead, ReadsWhile}
use Rattle.cr_http.specs.Search.{StandsThere}
use Rattle.cr_http.proofs.fill.fill_head.Given as goal

abbrev pub invariant-reading : goal.invariant-reading
invariant-reading g l = record {
  moves : Moves (g.S.Source.left l.initial.source) (g.S.Source.left l.source) (text_of l.initial.buffer)
      (text_of l.buffer);
  needed : ReadsWhile g.S.Source.left g.S.Source.read_gives NeedsHead l.initial.source l.source
      (text_of l.initial.buffer) (text_of l.buffer);
  there : StandsThere (text_of l.buffer) l.search;
  count : g.S.Source.faults l.initial.source ≤ g.S.Source.faults l.source;
  steady : g.S.Source.faults l.source ≡ g.S.Source.faults l.initial.source;
}

abbrev pub decreases-reading : goal.decreases-reading
decreases-reading g l = 16384 - length (text_of l.buffer)
