-- SPDX-License-Identifier: Apache-2.0 OR MIT
use Rattle.cr_match.proofs.Common.{◌<◌, length, length-set, arith, ◌∙◌, nth, zero_pair}
use Rattle.cr_match.proofs.Distinct.{place, place_lt, written_more}
use Rattle.cr_match.proofs.Room.{inside_all}
use Rattle.cr_match.proofs.setup.write_pairs.Goals as goal

pub lift-requires-clause-low : goal.lift-requires-clause-low
lift-requires-clause-low c =
    (inside_all c.args.papers c.args.members c.args.pairs.now c.requires.inside c.loop-i.i zero_pair
    c.loop-i-test.true).2

pub lift-requires-clause-high : goal.lift-requires-clause-high
lift-requires-clause-high c =
    (inside_all c.args.papers c.args.members c.args.pairs.now c.requires.inside c.loop-i.i zero_pair
    c.loop-i-test.true).3

pub index_mut-requires : goal.index_mut-requires
index_mut-requires c =
    let l : place c.args.members (nth c.args.pairs.now c.loop-i.i) < length c.loop-i.worth.items = omega (
      arith,
      place_lt c.args.papers c.args.members c.args.pairs.now c.requires.inside c.loop-i.i c.loop-i-test.true,
      c.loop-i.invariant.0,
      c.requires.long.0,
    ) in
    omega (arith, l, c.loop-i.worth.ok.0)

pub loop-i-preserved : goal.loop-i-preserved
loop-i-preserved c = (
  length-set c.loop-i.worth.items (place c.args.members (nth c.args.pairs.now c.loop-i.i)) c.lift.result
      ∙ c.loop-i.invariant.0,
  written_more c.args.papers c.args.members c.args.pairs.now c.requires.inside c.requires.distinct c.loop-i.worth.items
      c.loop-i.i c.lift.result c.loop-i-test.true
      (c.loop-i.invariant.0 ∙ c.requires.long.0) c.lift.ensures c.loop-i.invariant.1,
)
