-- SPDX-License-Identifier: Apache-2.0 OR MIT
use Rattle.std.proofs.Common.{◌≡◌, ◌==◌, subst, sym, ◌∙◌, Some, IsTrue}
use Rattle.cr_base.specs.Shapes.{FitsShape}
use Rattle.cr_base.specs.Rows.{shape_of, restored}
use Rattle.cr_base.specs.declared.entry.Stamped.{Stamped}
use Rattle.cr_base.specs.declared.shape.Shape.{Shape}
use Rattle.cr_base.proofs.RowLaws.{row_of-restored, bounded-restored, row_fits, only_one, restored-parts}
use Rattle.cr_base.proofs.entry.Stamped.from_row.Goals as goal

pub returns-then-not-fits-clause-every : goal.returns-then-not-fits-clause-every
returns-then-not-fits-clause-every c = λ s h e.
    let fits = row_fits c.in-Some.kind c.args.row.now s c.in-Some.ensures.only h e in
    let held : IsTrue c.fits.result =
    c.fits.ensures.1 (subst (λ (x : Shape). FitsShape x c.args.row.now) (sym c.shape.ensures) fits) in
    let failed = c.if-not-fits.true in
    cc

fits : (c : goal.After-of_row) → FitsShape (shape_of c.in-Some.kind) c.args.row.now
fits c = subst (λ (x : Shape). FitsShape x c.args.row.now) c.shape.ensures (c.fits.ensures.0 c.if-not-fits.false)

abbrev made : (c : goal.After-of_row) → Stamped
made c = record { stamp = c.of_row.result; more = (c.args.row.now).more == 1; entry = c.in-Some-2.entry }

spelled : (c : goal.After-of_row) → restored c.in-Some.kind c.args.row.now ≡ Some (made c)
spelled c = restored-parts c.in-Some.kind c.args.row.now c.of_row.result c.in-Some-2.entry c.of_row.ensures
    (sym c.in-Some-2.is ∙ c.in_ok-entry.ensures)

pub returns-clause-spells : goal.returns-clause-spells
returns-clause-spells c =
    let kind = c.in-Some.kind in
    let row = c.args.row.now in (
      bounded-restored kind row (made c) c.in-Some.ensures.some (fits c) (spelled c),
      row_of-restored kind row (made c) c.in-Some.ensures.some (fits c) (spelled c),
    )

pub returns-clause-every : goal.returns-clause-every
returns-clause-every c = λ s h e. sym (spelled c) ∙ only_one c.in-Some.kind c.args.row.now s c.in-Some.ensures.only h e
