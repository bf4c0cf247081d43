-- SPDX-License-Identifier: Apache-2.0 OR MIT
use Rattle.std.proofs.Common.{ℕ, List, ◌++◌, ◌∙◌, Some, ap}
use Rattle.std.specs.Prelude.{not}
use Rattle.cr_base.specs.declared.pairs.Tie.{Tie}
use Rattle.cr_base.specs.Lists.{given}
use Rattle.cr_base.specs.Ties.{is_author_in}
use Rattle.cr_view.specs.Seen.{SeenTables}
use Rattle.cr_view.proofs.MeLaws.{kept-step}
use Rattle.cr_view.proofs.live.Live.others.Goals as goal

pub loop-tie-preserved : goal.loop-tie-preserved
loop-tie-preserved c =
    let before : List ℕ = c.loop-tie.papers.items in
    let ties = c.args.self.now.tables.ties in
    let paper : ℕ = c.tie-item.result.pair.paper in
    let hers = c.is_author-other.ensures.value
    ∙ ap (λ (v : SeenTables). is_author_in v.tables.ties (Some c.args.user) paper) c.self.view_is in
    let pushed =
    c.in_ok-push_where.ensures
    ∙ ap (λ b. before ++ given (not b) paper) hers
    ∙ ap (λ (t : Tie (Unit {0})). before ++ given (not (is_author_in ties (Some c.args.user) t.pair.paper))
    t.pair.paper) c.tie-item.is in
    kept-step (λ (n : ℕ). not (is_author_in ties (Some c.args.user) n)) c.args.ties.now c.loop-tie.tie-index
    c.tie-item.result before _ _ c.loop-tie-test.true pushed c.loop-tie.invariant
