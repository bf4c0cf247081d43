-- SPDX-License-Identifier: Apache-2.0 OR MIT
use Rattle.std.proofs.Common.{◌≡◌, Some, ◌∙◌, ap}
use Rattle.std.specs.Prelude.{is_some}
use Rattle.cr_base.specs.Seats.{ordinal_in}
use Rattle.cr_base.specs.Ties.{is_author_in, is_conflict_on_in}
use Rattle.cr_view.specs.Seen.{SeenTables}
use Rattle.cr_view.proofs.PlanLaws.{free-is}
use Rattle.cr_view.proofs.live.Live.is_free_for.Goals as goal

pub returns : goal.returns
returns c =
    let t = c.args.self.now.tables in
    let wrote : c.is_author-wrote.result ≡ is_author_in t.ties (Some c.args.user) c.args.paper =
    c.is_author-wrote.ensures.value
    ∙ ap (λ (v : SeenTables). is_author_in v.tables.ties (Some c.args.user) c.args.paper) c.self.view_is in
    let declared : c.is_declared-declared.result ≡ is_conflict_on_in t.ties (Some c.args.user) c.args.paper =
    c.is_declared-declared.ensures.value ∙ ap
    (λ (v : SeenTables). is_conflict_on_in v.tables.ties (Some c.args.user) c.args.paper) c.self.view_is in
    let reviews : c.is_reviewer-reviews.result ≡ is_some (ordinal_in t.seats (Some c.args.user) c.args.paper) =
    c.is_reviewer-reviews.ensures.value ∙ ap
    (λ (v : SeenTables). is_some (ordinal_in v.tables.seats (Some c.args.user) c.args.paper)) c.self.view_is in
    c.is_none_of.ensures ∙ free-is t c.args.paper c.args.user _ _ _ wrote declared reviews
