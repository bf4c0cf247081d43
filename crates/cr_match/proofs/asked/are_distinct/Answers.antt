-- SPDX-License-Identifier: Apache-2.0 OR MIT
use Rattle.cr_match.proofs.Common.{refl, arith, sym, subst, RowHas, OthersStay}
use Rattle.cr_match.proofs.Distinct.{distinct_from, none_marked, place_small, seen_twice, apart_more, marks_more}
use Rattle.cr_match.proofs.Walks.{refuted}
use Rattle.cr_match.proofs.asked.are_distinct.Goals as goal

pub loop-i-init : goal.loop-i-init
loop-i-init c = (
  (λ i j _ lj. absurd (omega (arith, lj))),
  none_marked c.args.members c.args.pairs.now,
)

pub cell_of-cell-requires : goal.cell_of-cell-requires
cell_of-cell-requires c = record {
  small = place_small c.args.papers c.args.members c.args.pairs.now c.requires.inside c.requires.grid c.loop-i.i
      c.loop-i-test.true;
}

pub returns-then-has : goal.returns-then-has
returns-then-has c = (
  (λ e. absurd (let f = e in cc)),
  λ distinct. absurd (seen_twice c.args.papers c.args.members c.args.pairs.now c.requires.inside c.requires.grid
      c.loop-i.seen c.loop-i.i c.loop-i-test.true c.loop-i.invariant.1
      (subst (λ k. RowHas 64 c.loop-i.seen 0 k) c.cell_of-cell.ensures.is (c.has.ensures.0 c.if-has.true)) distinct),
)

pub loop-i-preserved : goal.loop-i-preserved
loop-i-preserved c = (
  apart_more c.args.papers c.args.members c.args.pairs.now c.requires.inside c.requires.grid c.loop-i.seen c.loop-i.i
      c.loop-i-test.true c.loop-i.invariant.1 (λ has. refuted c.has.ensures.1 c.if-has.false
      (subst (λ k. RowHas 64 c.loop-i.seen 0 k) (sym c.cell_of-cell.ensures.is) has)) c.loop-i.invariant.0,
  marks_more c.args.papers c.args.members c.args.pairs.now c.requires.inside c.requires.grid c.loop-i.seen
      c.put.new.words c.loop-i.i c.loop-i-test.true c.loop-i.invariant.1
      (subst (λ k. RowHas 64 c.put.new.words 0 k) c.cell_of-cell.ensures.is c.put.ensures.same)
      (subst (λ k. OthersStay 64 c.loop-i.seen c.put.new.words 0 k) c.cell_of-cell.ensures.is c.put.ensures.others),
)

pub returns : goal.returns
returns c = (
  (λ _. distinct_from c.args.pairs.now
      (λ i j li lj. c.loop-i.invariant.0 i j li (omega (arith, lj, c.loop-i-test.false)) lj)),
  λ _. refl,
)
