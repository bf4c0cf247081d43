-- SPDX-License-Identifier: Apache-2.0 OR MIT
use Rattle.cr_match.proofs.Common.{inl, inr, arith, sym, subst, cases_eq, AreTold}
use Rattle.cr_match.proofs.Told.{stays_refl, stays_trans, told_on}
use Rattle.cr_match.proofs.tight.tighten.Goals as goal

pub loop-p-init : goal.loop-p-init
loop-p-init c = (stays_refl c.requires.moves, λ q m lq _. absurd (omega (arith, lq)))

pub loop-p-preserved : goal.loop-p-preserved
loop-p-preserved c = (
  stays_trans c.loop-p.invariant.0 c.tighten_paper.ensures.stays,
  λ q m lq lm. elim (cases_eq q c.loop-p.p) [
    | inl e ↦ subst (λ k. AreTold c.args.board.now c.args.levels.now c.args.choice.now c.tighten_paper.new.moves k m)
        (sym e) (c.tighten_paper.ensures.told m lm)
    | inr ne ↦ told_on c.args.board.now c.args.choice.now q m c.loop-p.moves c.tighten_paper.new.moves
        (c.loop-p.invariant.1 q m (omega (arith, lq, ne)) lm)
        (c.tighten_paper.ensures.others q m (omega (arith, lq, ne, c.loop-p-test.true)) lm ne)
  ],
)
