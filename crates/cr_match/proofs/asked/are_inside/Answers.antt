-- SPDX-License-Identifier: Apache-2.0 OR MIT
use Rattle.cr_match.proofs.Common.{AreInside, List, Pair, get_or, pos, negsuc, ◌≤ℤ◌, arith, ints, subst, sym, zero_pair}
use Rattle.cr_match.proofs.Tells.{drop_at}
use Rattle.cr_match.proofs.asked.are_inside.Goals as goal

pub loop-pair-preserved : goal.loop-pair-preserved
loop-pair-preserved c =
    let low : negsuc 19 ≤ℤ (get_or c.args.pairs.now c.loop-pair.pair-index zero_pair).weight = omega (arith, ints) in
    let high : (get_or c.args.pairs.now c.loop-pair.pair-index zero_pair).weight ≤ℤ pos 20 = omega (arith, ints) in
    let one = drop_at c.args.pairs.now c.loop-pair.pair-index zero_pair c.loop-pair-test.true in (
      (λ h. (subst (λ (xs : List Pair). AreInside c.args.papers c.args.members xs) one (c.loop-pair.invariant.0 h)).4),
      (λ h. c.loop-pair.invariant.1 (subst (λ (xs : List Pair). AreInside c.args.papers c.args.members xs) (sym one)
          (c.if-pair-papers.false, c.if-pair-members.false, low, high, h))),
    )
