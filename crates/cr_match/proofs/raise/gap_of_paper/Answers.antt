-- SPDX-License-Identifier: Apache-2.0 OR MIT
use Rattle.cr_match.proofs.Common.{Clears, Meets}
use Rattle.cr_match.proofs.Gaps.{least_more, less_clears}
use Rattle.cr_match.proofs.raise.gap_of_paper.Goals as goal

pub loop-m-preserved : goal.loop-m-preserved
loop-m-preserved c =
    let b = c.args.board.now in
    let v = c.args.levels.now in
    let o = c.args.choice.now in
    let t = c.args.trail.now in
    least_more (λ n x. Clears b v o t n c.args.p x) (λ n x. Meets b v o t n c.args.p x) b.members c.loop-m.m
    c.gap_of.result c.loop-m.least c.lesser-least.result (λ n k x le h. less_clears b v o t n k c.args.p x le h)
    c.loop-m-test.true c.gap_of.ensures.clears c.gap_of.ensures.meets c.lesser-least.ensures.least
    c.lesser-least.ensures.either c.loop-m.invariant
