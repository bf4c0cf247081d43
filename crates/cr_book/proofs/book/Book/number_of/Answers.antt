-- SPDX-License-Identifier: Apache-2.0 OR MIT
use Rattle.std.proofs.Common.{◌∙◌, ap}
use Rattle.cr_base.specs.History.{History}
use Rattle.cr_base.specs.HistoryFacts.{number_of}
use Rattle.cr_book.specs.Seen.{SeenBook}
use Rattle.cr_book.proofs.BookLaws.{number-by_view}
use Rattle.cr_book.proofs.book.Book.number_of.Goals as goal

pub returns : goal.returns
returns g c =
    c.number_of.ensures
    ∙ number-by_view g.K.Keeper.rows c.self.inside.log.entries c.self.inside.live.tables c.self.inside.keeper
    c.args.name.now c.self.invariant.0
    ∙ ap (λ (h : History). number_of c.args.name.now h) (ap (λ (v : SeenBook g.row.K.Denot). v.log) c.self.view_is)
