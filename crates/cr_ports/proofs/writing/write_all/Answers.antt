-- SPDX-License-Identifier: Apache-2.0 OR MIT
use Rattle.std.proofs.Common.{arith, drop, length, ◌-◌, ◌∙◌, length-take, length-drop, refl}
use Rattle.std.proofs.lemmas.List.{take_rest}
use Rattle.cr_ports.specs.Writing.{outlet_of}
use Rattle.cr_ports.proofs.WritingLaws.{wrote_on, wrote_part, wrote_whole}
use Rattle.cr_ports.proofs.writing.write_all.Goals as goal

pub writing-preserved : goal.writing-preserved
writing-preserved g c = record {
  within =
      let size = c.in-Took.ensures.size.0 in
      let l = length-take (length c.args.bytes.now - c.writing.at) (drop c.writing.at c.args.bytes.now) in
      let d = length-drop c.writing.at c.args.bytes.now in
      let w = c.writing-test.true in
      omega (arith, size, l, d, w);
  taken =
      wrote_on _ _ _ _ _ _ _ c.writing.invariant.taken (take_rest c.args.bytes.now c.writing.at)
      c.in-Took.ensures.bytes;
  steady = c.in-Took.ensures.steady (λ is. cc) ∙ c.writing.invariant.steady;
}

pub returns-in-Failed-clause-failed : goal.returns-in-Failed-clause-failed
returns-in-Failed-clause-failed g c =
    wrote_part _ (outlet_of g.O.Sink.taken g.O.Sink.faults c.writing.sink) _ c.args.bytes.now c.writing.at
    c.writing-test.true c.writing.invariant.taken
    c.writing.invariant.steady
    c.in-Failed.ensures.bytes c.in-Failed.ensures.count (c.in-Failed.ensures.failed refl)

pub returns-clause-whole : goal.returns-clause-whole
returns-clause-whole g c =
    wrote_whole (outlet_of g.O.Sink.taken g.O.Sink.faults c.args.sink.now)
    (outlet_of g.O.Sink.taken g.O.Sink.faults c.writing.sink) c.args.bytes.now c.writing.at
    c.writing-test.false c.writing.invariant.taken c.writing.invariant.steady
