-- SPDX-License-Identifier: Apache-2.0 OR MIT
use Rattle.cr_match.proofs.Common.{◌+◌, ◌++◌, List, drop, ap, ◌∙◌, Vec, Global, Pair, chosen, is_held, nth, zero_pair}
use Rattle.cr_match.proofs.Held.{is_held_if, not_held_if}
use Rattle.cr_match.proofs.Room.{inside_all}
use Rattle.cr_match.proofs.Tells.{pair_in, pair_out}
use Rattle.cr_match.proofs.Walks.{refuted}
use Rattle.cr_match.proofs.tell.chosen_pairs.Goals.{then-holds+in_ok-push, else-holds}
use Rattle.cr_match.proofs.tell.chosen_pairs.Goals as goal

pub holds-requires-clause-inside : goal.holds-requires-clause-inside
holds-requires-clause-inside c =
    let w = inside_all c.args.board.now.papers c.args.board.now.members c.args.pairs.now c.requires.inside c.loop-i.i
    zero_pair
    c.loop-i-test.true in
    (w.0, w.1)

pub loop-i-preserved : goal.loop-i-preserved
loop-i-preserved c =
    let rest = chosen c.args.board.now c.args.choice.now (drop (c.loop-i.i + 1) c.args.pairs.now) in
    let e = nth c.args.pairs.now c.loop-i.i in
    elim c.if-holds.branch [
      | then-holds+in_ok-push w ↦ ap (λ (x : List Pair). x ++ rest)
          (ap (λ (v : Vec Pair Global). v.items) w.chosen-is ∙ w.in_ok-push.ensures.items)
          ∙ pair_in (is_held c.args.board.now c.args.choice.now) c.loop-i.chosen.items c.args.pairs.now c.loop-i.i
          c.loop-i-test.true (is_held_if c.args.board.now c.args.choice.now (nth c.args.pairs.now c.loop-i.i)
          (c.holds.ensures.0 w.if-holds.true))
          ∙ c.loop-i.invariant
      | else-holds w ↦ ap (λ (x : List Pair). x ++ rest) (ap (λ (v : Vec Pair Global). v.items) w.chosen-is)
          ∙ pair_out (is_held c.args.board.now c.args.choice.now) c.loop-i.chosen.items c.args.pairs.now c.loop-i.i
          c.loop-i-test.true (not_held_if c.args.board.now c.args.choice.now (nth c.args.pairs.now c.loop-i.i)
          (refuted c.holds.ensures.1 w.if-holds.false))
          ∙ c.loop-i.invariant
    ]
