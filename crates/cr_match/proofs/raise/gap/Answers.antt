-- SPDX-License-Identifier: Apache-2.0 OR MIT
use Rattle.cr_match.proofs.Common.{Clears, Meets, arith, inl, inr, ℕ, ◌<◌}
use Rattle.cr_match.proofs.Gaps.{least_more, less_clears}
use Rattle.cr_match.proofs.raise.gap.Goals as goal

pub loop-p-preserved : goal.loop-p-preserved
loop-p-preserved c =
    let b = c.args.board.now in
    let v = c.args.levels.now in
    let o = c.args.choice.now in
    let t = c.args.trail.now in
    least_more (λ n q. (x : ℕ) → x < b.members → Clears b v o t n q x)
    (λ n q. (x : ℕ) × (x < b.members) × Meets b v o t n q x) b.papers c.loop-p.p c.gap_of_paper.result c.loop-p.least
    c.lesser-least.result (λ n k q le h x lx. less_clears b v o t n k q x le (h x lx)) c.loop-p-test.true
    c.gap_of_paper.ensures.clears c.gap_of_paper.ensures.meets c.lesser-least.ensures.least
    c.lesser-least.ensures.either c.loop-p.invariant

pub returns : goal.returns
returns c = record {
  most = c.loop-p.invariant.0;
  clears = λ q x lq lx. c.loop-p.invariant.1 q (omega (arith, lq, c.loop-p-test.false)) x lx;
  meets = elim c.loop-p.invariant.2 [
    | inl all ↦ inl all
    | inr one ↦ inr (one.0, one.2.0, one.1, one.2.1, one.2.2)
  ];
}
