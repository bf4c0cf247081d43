-- SPDX-License-Identifier: Apache-2.0 OR MIT
use Rattle.cr_match.proofs.Common.{inl, subst, Turns}
use Rattle.cr_match.proofs.settle.bring.Goals.{After-turn}
use Rattle.cr_match.proofs.settle.bring.Goals as goal

turns : (c : After-turn) → Turns c.args.board.now c.args.p c.args.m c.args.draft.now.choice c.args.draft.now.moves
    c.turn.new.draft.choice c.turn.new.draft.moves
turns c =
    subst (λ x. Turns c.args.board.now c.args.p x c.args.draft.now.choice c.args.draft.now.moves c.turn.new.draft.choice
    c.turn.new.draft.moves) c.in-Some.ensures.some.3 c.turn.ensures.turns

pub add-requires-clause-closed : goal.add-requires-clause-closed
add-requires-clause-closed c free =
    c.requires.closed (((turns c.before).loose.free c.args.p c.args.m c.requires.inside.0 c.requires.inside.1).0 free)

pub add-requires-clause-lacks : goal.add-requires-clause-lacks
add-requires-clause-lacks c has =
    c.requires.lacks (((turns c.before).loose.closed c.args.p c.args.m c.requires.inside.0 c.requires.inside.1
    c.requires.closed).0 has)

pub returns-clause-trail : goal.returns-clause-trail
returns-clause-trail c = c.forget.ensures.searched c.add.new.draft.moves c.args.p

pub returns-clause-brings : goal.returns-clause-brings
returns-clause-brings c = inl (record {
  choice = c.turn.new.draft.choice;
  moves = c.turn.new.draft.moves;
  turns = turns c.before.before.before.before;
  alters = c.add.ensures.alters;
  limits = c.add.ensures.limits;
})
