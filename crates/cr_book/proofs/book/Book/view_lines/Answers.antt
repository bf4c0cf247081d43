-- SPDX-License-Identifier: Apache-2.0 OR MIT
use Rattle.std.proofs.Common.{[], ◌∙◌, ap, subst, Some}
use Rattle.cr_ports.specs.Writing.{outlet_of}
use Rattle.cr_base.specs.History.{History}
use Rattle.cr_policy.specs.View.{View, sights, view}
use Rattle.cr_sights.specs.Readers.{reader_in}
use Rattle.cr_sights.specs.Lines.{lines_text}
use Rattle.cr_sights.specs.Walks.{WritesView}
use Rattle.cr_book.specs.Seen.{SeenBook}
use Rattle.cr_book.proofs.ViewLaws.{view-by_tables}
use Rattle.cr_book.proofs.book.Book.view_lines.Goals as goal

pub returns : goal.returns
returns g c =
    let user = Some c.args.user in
    let book = c.self.inside in
    subst (λ (sights : View). WritesView c.write_view.result (lines_text sights)
    (outlet_of g.O.Sink.taken g.O.Sink.faults c.args.sink.now)
    (outlet_of g.O.Sink.taken g.O.Sink.faults c.write_view.new.sink))
    (ap (λ (log : History). sights (reader_in book.live.tables user) [] log) c.entries.ensures
    ∙ view-by_tables g.K.Keeper.rows book.log.entries book.live.tables book.keeper user c.self.invariant.0
    ∙ ap (λ (b : SeenBook g.row.K.Denot). view user b.log) c.self.view_is)
    c.write_view.ensures
