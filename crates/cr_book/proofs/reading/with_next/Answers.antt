-- SPDX-License-Identifier: Apache-2.0 OR MIT
use Rattle.std.proofs.Common.{◌∙◌, [], Some, sym, subst}
use Rattle.std.proofs.lemmas.Result.{IfOk-weaker}
use Rattle.cr_base.specs.History.{History}
use Rattle.cr_book.specs.Reading.{IsReading, IsWholeGroup}
use Rattle.cr_book.proofs.OpeningLaws.{rows-more}
use Rattle.cr_book.proofs.reading.with_next.Goals as goal

pub invariant_of-result : goal.invariant_of-result
invariant_of-result c =
    subst (λ (g : History). IsReading c.args.whole.log.entries c.args.whole.live.tables g (Some c.args.row))
    (sym c.in-Ok.ensures)
    (c.requires.more c.if-more.true)

pub with_group-requires-clause-group : goal.with_group-requires-clause-group
with_group-requires-clause-group c =
    subst (λ (g : History). IsWholeGroup c.args.whole.log.entries c.args.whole.live.tables g) (sym c.in-Ok.ensures)
    (c.requires.group c.if-more.false)

pub returns-then-more-clause-ok : goal.returns-then-more-clause-ok
returns-then-more-clause-ok c =
    rows-more c.args.whole.log.entries c.args.begun.items _ c.args.next c.args.row c.in-Ok.ensures c.requires.row

pub returns-clause-ok : goal.returns-clause-ok
returns-clause-ok c =
    IfOk-weaker c.with_group.result _ _
    (λ after is.
    is ∙ rows-more c.args.whole.log.entries c.args.begun.items _ c.args.next c.args.row c.in-Ok.ensures c.requires.row)
    c.with_group.ensures.ok
