-- SPDX-License-Identifier: Apache-2.0 OR MIT
use Rattle.std.proofs.Common.{◌∙◌, ap, subst, sym}
use Rattle.cr_book.specs.Stopping.{CountsTried, StopsWell}
use Rattle.cr_book.proofs.StopLaws.{counted_opened, opened_well, spelled_kept}
use Rattle.cr_book.proofs.StoreLaws.{opens-book, opens-not}
use Rattle.cr_book.proofs.book.Book.open.Goals as goal

pub returns-in-Ok-clause-exact : goal.returns-in-Ok-clause-exact
returns-in-Ok-clause-exact g c =
    opens-book (g.K.Keeper.rows c.args.keeper)
    (record { log = c.in-Ok.log.entries; keeper = c.read_all.new.keeper; opened = c.args.keeper })
    c.in-Ok.ensures.legal.0 c.in-Ok.ensures.spelled

pub returns-in-Err-clause-exact : goal.returns-in-Err-clause-exact
returns-in-Err-clause-exact g c =
    opens-not (g.K.Keeper.rows c.args.keeper) c.in-Err.error c.read_all.new.keeper c.in-Err.ensures.bad

pub returns-in-Ok-clause-between : goal.returns-in-Ok-clause-between
returns-in-Ok-clause-between g c told =
    let K = g.K.Keeper in
    (opened_well K c.args.keeper c.read_all.new.keeper c.in-Ok.log.entries
    (K.rows_told c.args.keeper told)
    c.in-Ok.ensures.legal.0 c.in-Ok.ensures.spelled (c.in-Ok.ensures.still told) (c.in-Ok.ensures.between told)).between

pub invariant_of-result : goal.invariant_of-result
invariant_of-result g c =
    let K = g.K.Keeper in
    let alike = K.tells_alike c.read_all.new.keeper c.args.keeper c.read_all.ensures.alike in
    let log = c.in-Ok.log.entries in (
      record {
        legal = c.in-Ok.ensures.legal.0;
        same = c.in-Ok.ensures.legal.1;
        kept = spelled_kept (K.rows c.args.keeper) (K.rows c.read_all.new.keeper) log c.in-Ok.ensures.same
            c.in-Ok.ensures.spelled;
      },
      λ telling. let told = sym alike ∙ telling in
          subst (λ (k : g.row.K.Denot). StopsWell K k c.read_all.new.keeper
          log) (sym c.of-opened.ensures)
          (opened_well K c.args.keeper c.read_all.new.keeper log
          (K.rows_told c.args.keeper told)
          c.in-Ok.ensures.legal.0 c.in-Ok.ensures.spelled (c.in-Ok.ensures.still told) (c.in-Ok.ensures.between told)),
      c.read_all.ensures.alike ∙ ap K.kind (sym c.of-opened.ensures),
      λ telling.
          subst (λ (k : g.row.K.Denot). CountsTried K k c.read_all.new.keeper) (sym c.of-opened.ensures)
          (counted_opened K c.args.keeper c.read_all.new.keeper
          (c.in-Ok.ensures.still (sym alike ∙ telling))),
    )
