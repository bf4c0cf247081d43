-- SPDX-License-Identifier: Apache-2.0 OR MIT
use Rattle.std.proofs.Common.{[], drop, subst, sym}
use Rattle.cr_base.specs.History.{History}
use Rattle.cr_beginnings.specs.Beginnings.{InTurn}
use Rattle.cr_book.specs.Reading.{TakenIf}
use Rattle.cr_book.proofs.DueLaws.{head-first, head-none, taken-behind}
use Rattle.cr_book.proofs.OpeningLaws.{due-rows}
use Rattle.cr_book.proofs.beginnings.due.Goals as goal

pub due_behind-requires-clause-begun : goal.due_behind-requires-clause-begun
due_behind-requires-clause-begun c = head-first c.args.begun.now c.in-Some.first.now c.in-Some.ensures.value

pub due_behind-requires-clause-rows : goal.due_behind-requires-clause-rows
due_behind-requires-clause-rows c =
    due-rows c.args.log.now.entries c.args.live.now.tables c.args.begun.now (drop 1 c.args.begun.now)
    c.in-Some.first.now c.requires.legal c.requires.same
    (head-first c.args.begun.now c.in-Some.first.now c.in-Some.ensures.value) c.requires.begun c.requires.more

pub returns-in-Some : goal.returns-in-Some
returns-in-Some c =
    taken-behind c.args.log.now.entries c.args.live.now.tables c.args.begun.now c.in-Some.first.now c.args.next
    c.due_behind.result c.requires.same
    (head-first c.args.begun.now c.in-Some.first.now c.in-Some.ensures.value) c.due_behind.ensures

pub returns-in-None : goal.returns-in-None
returns-in-None c =
    subst (λ (b : History). TakenIf (InTurn c.args.log.now.entries b c.args.next) c.args.next c.due_first.result)
    (sym (head-none c.args.begun.now c.in-None.ensures.value)) c.due_first.ensures
