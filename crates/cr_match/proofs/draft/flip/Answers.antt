-- SPDX-License-Identifier: Apache-2.0 OR MIT
use Rattle.cr_match.proofs.Common.{◌≡◌, ◌<◌, ◌⊎◌, arith, inl, inr, refl, true, false, Bool, Takes, Drops}
use Rattle.cr_match.proofs.Flipped.{flipped, free_back, told_back}
use Rattle.cr_match.proofs.draft.flip.Goals as goal

was : (holds : Bool) (A B : Type 0) → (holds ≡ true → A) → (holds ≡ false → B) → A ⊎ B
was true A B a b = inl (a refl)
was false A B a b = inr (b refl)

pub returns : goal.returns
returns c =
    let lp : c.args.p < c.args.board.now.papers = omega (arith, c.requires.inside.0, c.if-p-board.false) in
    let lm : c.args.m < c.args.board.now.members = omega (arith, c.requires.inside.1, c.if-m-board.false) in
    flipped c.args.board.now c.args.p c.args.m lp lm c.requires.draft c.hold.ensures
    (told_back c.args.board.now c.args.p c.args.m lp lm c.tell_limits.ensures c.tell.ensures c.hold.ensures.here)
    (was c.args.holds (Takes c.args.board.now c.args.draft.now.moves c.args.p c.args.m)
    (Drops c.args.board.now c.args.draft.now.moves c.args.m c.args.p) (c.requires.takes lp lm) (c.requires.drops lp lm))
    (free_back c.args.board.now c.args.p c.args.m lp lm c.args.holds c.tell.ensures)
