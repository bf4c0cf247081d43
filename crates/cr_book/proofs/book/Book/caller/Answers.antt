-- SPDX-License-Identifier: Apache-2.0 OR MIT
use Rattle.std.proofs.Common.{◌∙◌, ap}
use Rattle.cr_base.specs.History.{History}
use Rattle.cr_base.specs.HistoryFacts.{caller_of}
use Rattle.cr_book.specs.Seen.{SeenBook}
use Rattle.cr_book.proofs.BookLaws.{caller-by_view}
use Rattle.cr_book.proofs.book.Book.caller.Goals as goal

pub returns : goal.returns
returns g c =
    c.caller.ensures
    ∙ caller-by_view g.K.Keeper.rows c.self.inside.log.entries c.self.inside.live.tables c.self.inside.keeper
    c.args.name.now c.args.digest.now c.self.invariant.0
    ∙ ap (λ (h : History). caller_of c.args.name.now c.args.digest.now h)
    (ap (λ (v : SeenBook g.row.K.Denot). v.log) c.self.view_is)
