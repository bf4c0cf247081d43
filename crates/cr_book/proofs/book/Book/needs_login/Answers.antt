-- SPDX-License-Identifier: Apache-2.0 OR MIT
use Rattle.std.proofs.Common.{◌∙◌, ap, None}
use Rattle.cr_base.specs.History.{History}
use Rattle.cr_policy.specs.Judge.{needs_login}
use Rattle.cr_policy.specs.View.{view}
use Rattle.cr_book.specs.Seen.{SeenBook}
use Rattle.cr_book.proofs.BookLaws.{login-by_view}
use Rattle.cr_book.proofs.book.Book.needs_login.Goals as goal

pub returns : goal.returns
returns g c =
    c.needs_login.ensures
    ∙ login-by_view g.K.Keeper.rows c.self.inside.log.entries c.self.inside.live.tables c.self.inside.keeper
    c.args.query.now c.self.invariant.0
    ∙ ap (λ (h : History). needs_login (view None h) c.args.query.now)
    (ap (λ (v : SeenBook g.row.K.Denot). v.log) c.self.view_is)
