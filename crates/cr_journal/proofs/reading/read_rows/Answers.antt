-- SPDX-License-Identifier: Apache-2.0 OR MIT
use Rattle.std.proofs.Common.{◌<◌, ℕ, List, ap, arith, length, subst, sym}
use Rattle.std.proofs.lemmas.Grind.{common_steps}
use Rattle.cr_base.specs.declared.row.Row.{Row}
use Rattle.cr_journal.specs.Reading.{row_of}
use Rattle.cr_journal.proofs.Groups.{longer, no_group, row_more}
use Rattle.cr_journal.proofs.reading.read_rows.Goals as goal

pub returns-in_default-clause-none : goal.returns-in_default-clause-none
returns-in_default-clause-none c = λ _ group fits is.
    let h = c.rows.invariant in
    let rest = c.rows.rest.now in
    let some : 0 < length rest = grind (arith, common_steps, c.is_empty.ensures, c.rows-test.true) in
    no_group h.0 group c.args.bytes.now rest h.1 fits h.2 (λ none. absurd (omega (arith, some, ap length none)))
    c.in_default.ensures.none is

pub rows-smaller : goal.rows-smaller
rows-smaller c =
    let p = c.in-Some.parts in
    let rest = p.rest.now in
    let r : Row = row_of p.numbers p.mark.now p.b1.now p.b2.now in
    let less : length rest < length c.rows.rest.now =
    subst (λ (l : List ℕ). length rest < length l) (sym c.in-Some.ensures.found.0) (longer r rest) in
    omega (arith, less)

pub rows-preserved : goal.rows-preserved
rows-preserved c =
    let p = c.in-Some.parts in
    let r : Row = row_of p.numbers p.mark.now p.b1.now p.b2.now in
    let found = c.in-Some.ensures.found in
    row_more c.args.bytes.now c.rows.rest.now p.rest.now c.args.rows.now.items c.rows.rows.items c.push.new.self.items r
    c.in_ok-row.row
    found.1 c.in_ok-row.ensures found.0 c.in_ok-push.ensures.items c.rows.invariant
