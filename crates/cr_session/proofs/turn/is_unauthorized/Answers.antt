-- SPDX-License-Identifier: Apache-2.0 OR MIT
use Rattle.std.proofs.Common.{ℕ, Option, None, ◌∙◌, ap, sym}
use Rattle.cr_policy.specs.View.{view}
use Rattle.cr_wire.specs.declared.what.What.{What}
use Rattle.cr_session.specs.Told.{is_unauthorized}
use Rattle.cr_session.proofs.turn.is_unauthorized.Goals as goal

pub returns-in-None-Query : goal.returns-in-None-Query
returns-in-None-Query g c =
    c.needs_login.ensures
    ∙ ap (λ (x : What). is_unauthorized None (view None c.args.book.now.log) x) (sym c.in-None-Query.is-1)
    ∙ ap (λ (u : Option ℕ). is_unauthorized u (view u c.args.book.now.log) c.args.what.now) (sym c.in-None-Query.is-0)
