-- SPDX-License-Identifier: Apache-2.0 OR MIT
use Rattle.std.proofs.Common.{arith}
use Rattle.cr_journal.specs.Reading.{row_of}
use Rattle.cr_journal.proofs.RowLaws.{found_of, none_of}
use Rattle.cr_journal.proofs.reading.next_row.Goals as goal

pub returns-clause-found : goal.returns-clause-found
returns-clause-found c =
    found_of (λ p. row_of p.numbers p.mark.now p.b1.now p.b2.now) (λ p. p.rest.now) c.args.bytes.now c.parts_at.result
    (λ i. omega (arith, c.type_inv.bytes i)) c.parts_at.ensures

pub returns-clause-none : goal.returns-clause-none
returns-clause-none c =
    none_of (λ p. row_of p.numbers p.mark.now p.b1.now p.b2.now) (λ p. p.rest.now) c.args.bytes.now c.parts_at.result
    c.parts_at.ensures
