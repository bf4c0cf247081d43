-- SPDX-License-Identifier: Apache-2.0 OR MIT
use Rattle.std.proofs.lemmas.List.{get_or_read}
use Rattle.cr_match.proofs.Common.{arith, inl, ltb, nat_tests, true, ℕ, ◌<◌, ◌∙◌, ◌≡◌, ◌↔◌}
use Rattle.cr_match.proofs.Flipped.{iff_trans}
use Rattle.cr_match.proofs.Told.{same_bits}
use Rattle.cr_match.proofs.draft.tell_limits.Goals as goal

less : (x y n : ℕ) → x ≡ y → (ltb x n ≡ true) ↔ (y < n)
less x y n e = ((λ t. grind (arith, nat_tests)), (λ lt. grind (arith, nat_tests)))

pub returns : goal.returns
returns c = record {
  moves = c.tell_drop-2.ensures.moves;
  takes = λ q x. same_bits c.args.board.now.wide q x c.tell_drop-2.new.moves.takes.items c.args.moves.now.takes.items
      (c.tell_drop-2.ensures.takes ∙ c.tell_drop.ensures.takes);
  lack = iff_trans (c.tell_drop-2.ensures.others c.args.board.now.members c.args.p (omega (arith, c.requires.inside.0))
      (inl (λ e. absurd (omega (arith, e, c.requires.inside.1))))) (iff_trans c.tell_drop.ensures.same
      (less c.index.result.now _ c.args.board.now.want (get_or_read c.args.choice.now.given.items _ _
      (omega (arith, c.requires.inside.0, c.requires.long.0)) c.index.ensures 0)));
  room = iff_trans c.tell_drop-2.ensures.same
      (less c.index-2.result.now _ c.args.board.now.load (get_or_read c.args.choice.now.used.items _ _
      (omega (arith, c.requires.inside.1, c.requires.long.1)) c.index-2.ensures 0));
  drops = λ x q lq ne ne'.
      iff_trans (c.tell_drop-2.ensures.others x q lq ne') (c.tell_drop.ensures.others x q lq ne);
}
