-- SPDX-License-Identifier: Apache-2.0 OR MIT
use Rattle.cr_match.proofs.Common.{◌+◌, arith, refl}
use Rattle.cr_match.proofs.Walks.{some_row, none_row}
use Rattle.cr_match.proofs.trail.next_dropped.Goals as goal

pub returns-clause-some : goal.returns-clause-some
returns-clause-some c =
    some_row c.args.board.now.tall (c.args.board.now.papers + 1) c.args.member c.args.from c.deref.result.now
    c.args.moves.now.drops.items c.args.papers.now c.args.papers.now c.next.result c.deref.ensures.value refl
    (λ j lj has. omega (arith, c.requires.moves.0.dropped c.args.member j lj has)) c.next.ensures.some

pub returns-clause-none : goal.returns-clause-none
returns-clause-none c =
    none_row c.args.board.now.tall (c.args.board.now.papers + 1) c.args.member c.args.from c.deref.result.now
    c.args.moves.now.drops.items c.args.papers.now c.args.papers.now c.next.result c.deref.ensures.value refl
    (omega (arith, c.requires.moves.0.sized.tall)) c.next.ensures.none
