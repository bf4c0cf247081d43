-- SPDX-License-Identifier: Apache-2.0 OR MIT
use Rattle.std.proofs.Common.{◌∙◌, sym}
use Rattle.std.proofs.lemmas.Bool.{true≢false}
use Rattle.cr_book.proofs.DueLaws.{first-may, taken-first}
use Rattle.cr_book.proofs.beginnings.due_first.Goals as goal

pub returns-then-not-may_begin : goal.returns-then-not-may_begin
returns-then-not-may_begin c = λ turn.
    true≢false
    (sym (c.may_begin.ensures.1 (first-may c.args.log.now.entries c.args.live.now.tables c.args.next c.requires.same
    turn))
    ∙ c.if-not-may_begin.true)

pub returns : goal.returns
returns c =
    taken-first c.args.log.now.entries c.args.live.now.tables c.args.next c.drawn.result c.requires.same
    (c.may_begin.ensures.0 c.if-not-may_begin.false) c.drawn.ensures
