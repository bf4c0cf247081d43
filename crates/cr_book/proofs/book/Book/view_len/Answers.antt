-- SPDX-License-Identifier: Apache-2.0 OR MIT
use Rattle.std.proofs.Common.{[], ◌≡◌, ◌∙◌, ap, length, subst, IfOk, Some}
use Rattle.cr_base.specs.History.{History}
use Rattle.cr_policy.specs.View.{View, sights, view}
use Rattle.cr_sights.specs.Readers.{reader_in}
use Rattle.cr_book.specs.Seen.{SeenBook}
use Rattle.cr_book.proofs.ViewLaws.{view-by_tables}
use Rattle.cr_book.proofs.book.Book.view_len.Goals as goal

pub returns : goal.returns
returns g c =
    let user = Some c.args.user in
    let book = c.self.inside in
    subst (λ (sights : View). IfOk c.view_len.result (λ n. n ≡ length sights))
    (ap (λ (log : History). sights (reader_in book.live.tables user) [] log) c.entries.ensures
    ∙ view-by_tables g.K.Keeper.rows book.log.entries book.live.tables book.keeper user c.self.invariant.0
    ∙ ap (λ (b : SeenBook g.row.K.Denot). view user b.log) c.self.view_is)
    c.view_len.ensures
