-- SPDX-License-Identifier: Apache-2.0 OR MIT
use Rattle.std.proofs.Common.{◌∙◌, Some}
use Rattle.cr_base.specs.Lists.{listed}
use Rattle.cr_ports.specs.Writing.{outlet_of}
use Rattle.cr_sights.specs.Readers.{reader_in}
use Rattle.cr_sights.proofs.WalkLaws.{seen_here, wrote_line, broke_line}
use Rattle.cr_sights.proofs.walk.write_view.Goals as goal

pub lines-preserved : goal.lines-preserved
lines-preserved g c =
    let r = reader_in c.args.live.now.tables (Some c.args.reader) in
    let log = c.args.log.now in
    let seen = listed c.sight-sighting.result in
    let is = seen_here r log c.lines.at c.index-log-at.result c.lines-test.true c.index-log-at.is seen
    c.in-Ok-pass.position c.in-Ok-pass.ensures.position c.sight-sighting.ensures in
    record {
      noted = c.in-Ok-pass.ensures.noted;
      reached = wrote_line r log c.lines.at c.index-log-at.result c.lines-test.true c.deref.result.now seen is
          (c.deref.ensures.value ∙ c.in-Ok-fill.ensures)
          (outlet_of g.O.Sink.taken g.O.Sink.faults c.args.sink.now)
          (outlet_of g.O.Sink.taken g.O.Sink.faults c.lines.sink)
          (outlet_of g.O.Sink.taken g.O.Sink.faults c.write_all.new.sink) c.lines.invariant.reached
          c.in-Ok-write_all.ensures.whole;
    }

pub returns-in-Err : goal.returns-in-Err
returns-in-Err g c =
    let r = reader_in c.args.live.now.tables (Some c.args.reader) in
    let log = c.args.log.now in
    let seen = listed c.sight-sighting.result in
    let is = seen_here r log c.lines.at c.index-log-at.result c.lines-test.true c.index-log-at.is seen
    c.in-Ok-pass.position c.in-Ok-pass.ensures.position c.sight-sighting.ensures in
    broke_line r log c.lines.at c.index-log-at.result c.lines-test.true c.deref.result.now seen is
    (c.deref.ensures.value ∙ c.in-Ok-fill.ensures)
    (outlet_of g.O.Sink.taken g.O.Sink.faults c.args.sink.now) (outlet_of g.O.Sink.taken g.O.Sink.faults c.lines.sink)
    (outlet_of g.O.Sink.taken g.O.Sink.faults c.write_all.new.sink) c.lines.invariant.reached c.in-Err.ensures.failed
