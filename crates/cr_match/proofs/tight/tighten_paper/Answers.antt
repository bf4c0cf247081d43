-- SPDX-License-Identifier: Apache-2.0 OR MIT
use Rattle.cr_match.proofs.Common.{inl, inr, arith, sym, subst, cases_eq, AreTold}
use Rattle.cr_match.proofs.Flipped.{iff_trans, same_iff}
use Rattle.cr_match.proofs.Told.{stays_refl, stays_trans, told_as, told_on}
use Rattle.cr_match.proofs.tight.tighten_paper.Goals as goal

pub loop-m-init : goal.loop-m-init
loop-m-init c = (stays_refl c.requires.moves, (λ x lx. absurd (omega (arith, lx))), λ q x _ _ _. (same_iff, same_iff))

pub loop-m-preserved : goal.loop-m-preserved
loop-m-preserved c = (
  stays_trans c.loop-m.invariant.0 c.tighten_pair.ensures.stays,
  (λ x lx. elim (cases_eq x c.loop-m.m) [
    | inl e ↦ subst (AreTold c.args.board.now c.args.levels.now c.args.choice.now c.tighten_pair.new.moves c.args.p)
        (sym e)
        (told_as c.args.board.now c.args.choice.now c.args.p c.loop-m.m c.tighten_pair.new.moves
        c.tighten_pair.ensures.told c.is_tight-tight.ensures)
    | inr ne ↦ told_on c.args.board.now c.args.choice.now c.args.p x c.loop-m.moves c.tighten_pair.new.moves
        (c.loop-m.invariant.1 x (omega (arith, lx, ne)))
        (c.tighten_pair.ensures.others c.args.p x c.requires.inside (omega (arith, lx, ne, c.loop-m-test.true))
        (inr ne))
  ]),
  λ q x lq lx ne.
      let new = c.tighten_pair.ensures.others q x lq lx (inl ne) in
      let old = c.loop-m.invariant.2 q x lq lx ne in
      (iff_trans new.0 old.0, iff_trans new.1 old.1),
)
