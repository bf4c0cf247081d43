-- SPDX-License-Identifier: Apache-2.0 OR MIT
use Rattle.std.proofs.Common.{◌≡◌, length, arith}
use Rattle.std.proofs.lemmas.Bool.Decides.{nat_tests}
use Rattle.csv.specs.Records.{fields_of}
use Rattle.cr_bulk.proofs.RowLaws.{four_fields}
use Rattle.cr_bulk.proofs.record.row_of.Goals as goal

pub returns : goal.returns
returns c =
    let four : length (fields_of c.args.fields.now) ≡ 4 = grind (arith, nat_tests, c.len.ensures, c.if-len-ne4.false) in
    rw (c.in_ok-paper.ensures, c.in_ok-action.ensures, c.in_ok-user.ensures, c.in_ok-tag.ensures)
    (four_fields (fields_of c.args.fields.now) four)
