-- SPDX-License-Identifier: Apache-2.0 OR MIT
use Rattle.std.proofs.Common.{ℕ, List, [], ◌∷◌, ◌++◌, ◌∙◌, ap}
use Rattle.cr_base.specs.declared.pairs.Tie.{Tie}
use Rattle.cr_view.proofs.MeLaws.{papers-step}
use Rattle.cr_view.proofs.me.papers_of.Goals as goal

pub loop-tie-preserved : goal.loop-tie-preserved
loop-tie-preserved g c =
    let before : List ℕ = c.loop-tie.papers.items in
    let pushed =
    c.in_ok-push.ensures.items ∙ ap (λ (t : Tie g.row.V.Denot). before ++ t.pair.paper ∷ []) c.tie-item.is in
    papers-step c.args.ties.now c.loop-tie.tie-index c.tie-item.result before _ _ c.loop-tie-test.true pushed
    c.loop-tie.invariant
