-- SPDX-License-Identifier: Apache-2.0 OR MIT
use Rattle.std.proofs.Common.{◌∙◌, None, ap, sym}
use Rattle.std.specs.Option.{option_map}
use Rattle.std.proofs.lemmas.Bool.{true≢false}
use Rattle.cr_base.specs.Bulk.{resolved_of_row}
use Rattle.cr_base.specs.Tables.{tables_from}
use Rattle.cr_book.proofs.DueLaws.{numbers-are, row-alike, row-ordinal, row-ruled, row-taken, row-untold}
use Rattle.cr_book.proofs.beginnings.row_drawn.Goals as goal

pub returns-in_default : goal.returns-in_default
returns-in_default c =
    row-untold (tables_from c.args.live.now.tables c.args.begun.now) c.args.next
    (sym c.row_of.ensures ∙ ap (option_map resolved_of_row) c.in_default.is)

pub returns-in-Err : goal.returns-in-Err
returns-in-Err c =
    row-ruled (tables_from c.args.live.now.tables c.args.begun.now) c.args.next c.in-Some.row
    (sym c.row_of.ensures ∙ ap (option_map resolved_of_row) c.in-Some.is) c.in-Err.field-0 c.in-Err.ensures.judged

pub returns-then-has_numbers : goal.returns-then-has_numbers
returns-then-has_numbers c =
    let told = sym c.row_of.ensures ∙ ap (option_map resolved_of_row) c.in-Some.is in
    row-taken (tables_from c.args.live.now.tables c.args.begun.now) c.args.next c.in-Some.row told c.in-Ok.entry
    c.in-Ok.ensures.judged
    ((numbers-are c.in-Ok.entry c.args.next.entry c.number_of-number.result None c.number_of-number.ensures
    (row-ordinal c.args.next.entry (resolved_of_row c.in-Some.row) told)).0
    (c.has_numbers.ensures.0 c.if-has_numbers.true))

pub returns : goal.returns
returns c = λ d.
    let told = sym c.row_of.ensures ∙ ap (option_map resolved_of_row) c.in-Some.is in
    true≢false
    (sym (c.has_numbers.ensures.1
    ((numbers-are c.in-Ok.entry c.args.next.entry c.number_of-number.result None c.number_of-number.ensures
    (row-ordinal c.args.next.entry (resolved_of_row c.in-Some.row) told)).1
    (row-alike (tables_from c.args.live.now.tables c.args.begun.now) c.args.next c.in-Some.row told c.in-Ok.entry
    c.in-Ok.ensures.judged d)))
    ∙ c.if-has_numbers.false)
