-- SPDX-License-Identifier: Apache-2.0 OR MIT
use Rattle.std.proofs.Common.{◌+◌, ◌-◌, ◌/◌, length, subst, arith}
use Rattle.cr_base.specs.Pairs.{IsAscending}
use Rattle.cr_pairs.specs.Seen.{SeenPairs}
use Rattle.cr_pairs.proofs.Halvings.{leaves-half, leaves-halves, midway}
use Rattle.cr_pairs.proofs.Searches.{is-behind, is-before}
use Rattle.cr_pairs.proofs.pair_map.PairMap.index_of.Goals as goal

pub loop-low-preserved-in-Less : goal.loop-low-preserved-in-Less
loop-low-preserved-in-Less g c =
    let now = c.args.self.now in
    let up = subst (λ (s : SeenPairs g.row.V.Denot). IsAscending s.order s.ties) c.self.view_is c.self.invariant in
    let was = c.loop-low.invariant in
    let low = c.loop-low.low in
    let high = c.loop-low.high in
    let middle = low + (high - low) / 2 in
    let half = midway low high c.loop-low-test.true in (
      omega (arith, half.0),
      was.1,
      is-behind now.order c.args.pair.now now.ties up middle (omega (arith, half.0, was.1)) c.compared_at.result
          c.compared_at.ensures.order c.in-Less.is,
      was.3,
      leaves-half (length now.ties) (high - low) (high - (middle + 1)) c.args.steps.now c.loop-low.steps
          c.compared_at.new.steps (omega (arith, c.loop-low-test.true)) half.1 was.4 c.compared_at.ensures.steps,
    )

pub returns-in-Equal-clause-steps : goal.returns-in-Equal-clause-steps
returns-in-Equal-clause-steps g c =
    let count = length c.args.self.now.ties in
    let left = c.loop-low.high - c.loop-low.low in
    leaves-halves count 0 c.args.steps.now c.compared_at.new.steps
    (leaves-half count left 0 c.args.steps.now c.loop-low.steps c.compared_at.new.steps
    (omega (arith, c.loop-low-test.true)) (omega arith) c.loop-low.invariant.4 c.compared_at.ensures.steps)

pub loop-low-preserved : goal.loop-low-preserved
loop-low-preserved g c =
    let now = c.args.self.now in
    let up = subst (λ (s : SeenPairs g.row.V.Denot). IsAscending s.order s.ties) c.self.view_is c.self.invariant in
    let was = c.loop-low.invariant in
    let low = c.loop-low.low in
    let high = c.loop-low.high in
    let middle = low + (high - low) / 2 in
    let half = midway low high c.loop-low-test.true in (
      omega arith,
      omega (arith, half.0, was.1),
      was.2,
      is-before now.order c.args.pair.now now.ties up middle (omega (arith, half.0, was.1)) c.compared_at.result
          c.compared_at.ensures.order c.in-Greater.is,
      leaves-half (length now.ties) (high - low) (middle - low) c.args.steps.now c.loop-low.steps
          c.compared_at.new.steps (omega (arith, c.loop-low-test.true)) half.2 was.4 c.compared_at.ensures.steps,
    )
