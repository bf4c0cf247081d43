-- SPDX-License-Identifier: Apache-2.0 OR MIT
use Rattle.cr_match.proofs.Walks.{some_row, none_row}
use Rattle.cr_match.proofs.trail.next_taken.Goals as goal

pub returns-clause-some : goal.returns-clause-some
returns-clause-some c =
    some_row c.args.board.now.wide c.args.board.now.members c.args.paper c.args.from c.deref.result.now
    c.args.moves.now.takes.items c.deref-2.result.now c.args.path.now.members.items c.next.result c.deref.ensures.value
    c.deref-2.ensures.value (λ j lj has. c.requires.moves.0.taken c.args.paper j lj has) c.next.ensures.some

pub returns-clause-none : goal.returns-clause-none
returns-clause-none c =
    none_row c.args.board.now.wide c.args.board.now.members c.args.paper c.args.from c.deref.result.now
    c.args.moves.now.takes.items c.deref-2.result.now c.args.path.now.members.items c.next.result c.deref.ensures.value
    c.deref-2.ensures.value c.requires.moves.0.sized.wide c.next.ensures.none
