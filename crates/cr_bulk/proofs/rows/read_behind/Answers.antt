-- SPDX-License-Identifier: Apache-2.0 OR MIT
use Rattle.std.proofs.Common.{◌≡◌, length, length-append, [], ◌∷◌, ◌∙◌, arith}
use Rattle.std.proofs.lemmas.Bool.Decides.{nat_tests}
use Rattle.csv.specs.Records.{fields_of}
use Rattle.cr_bulk.specs.Reading.{left_of}
use Rattle.cr_bulk.proofs.ReadLaws.{was_found}
use Rattle.cr_bulk.proofs.RowLaws.{one_too_many, row_more}
use Rattle.cr_bulk.proofs.rows.read_behind.Goals as goal

pub rows-preserved : goal.rows-preserved
rows-preserved c =
    let (reading, few, told) = c.rows.invariant in
    let (reads, left) = was_found c.in_ok-read_next.field-0 c.rows.reader c.read_next.new.reader
    (fields_of c.read_next.new.fields) c.if-not-branch.false c.in_ok-read_next.ensures in
    let more = row_more c.rows.rows.items (fields_of c.read_next.new.fields) (left_of c.read_next.new.reader)
    c.in_ok-row.row c.in_ok-row.ensures in
    let items = c.push_reserved.ensures.items in
    let kept = c.in_ok-reserve.ensures.items in
    let count = length-append c.rows.rows.items (c.in_ok-row.row ∷ []) in
    rw (items, kept) (reads, grind (arith, nat_tests, count, c.len.ensures, c.rows-test.true), told ∙ rw left more)

pub returns-then-branch-clause-told : goal.returns-then-branch-clause-told
returns-then-branch-clause-told c =
    let (reading, few, told) = c.rows.invariant in
    let (reads, left) = was_found c.in_ok-read_next-2.field-0 c.rows.reader c.read_next-2.new.reader
    (fields_of c.read_next-2.new.fields) c.if-branch.true c.in_ok-read_next-2.ensures in
    let many : length c.rows.rows.items ≡ 512 = grind (arith, nat_tests, few, c.len.ensures, c.rows-test.false) in
    let none =
    one_too_many c.rows.rows.items (fields_of c.read_next-2.new.fields) (left_of c.read_next-2.new.reader) many in
    rw (told, left) none
