-- SPDX-License-Identifier: Apache-2.0 OR MIT
use Rattle.std.proofs.Common.{ℕ, Bool, List, ◌++◌, ◌<◌, ◌≤◌, ◌∙◌, ap, subst, arith}
use Rattle.cr_base.specs.Lists.{given}
use Rattle.cr_view.specs.Plans.{is_planned_in}
use Rattle.cr_view.proofs.AcceptedLaws.{papers-step, papers-all}
use Rattle.cr_view.proofs.PlanLaws.{planned-are}
use Rattle.cr_plans.proofs.Walks.{map-same}
use Rattle.cr_plans.proofs.planned.papers.Goals as goal

pub loop-before-preserved : goal.loop-before-preserved
loop-before-preserved c =
    let t = c.args.live.now.tables in
    let test : ℕ → Bool = is_planned_in t c.args.user.now c.args.per_paper in
    let i : ℕ = c.loop-before.before in
    let before : List ℕ = c.loop-before.papers.items in
    papers-step test (λ (p : ℕ). p) t.papers.papers i c.new-paper.result before _ _
    (subst (λ (k : ℕ). i < k) c.paper_count-before-end.ensures.count c.loop-before-test.true) c.new-paper.ensures
    (c.in_ok-push_paper.ensures ∙ ap (λ (b : Bool). before ++ given b c.new-paper.result) c.is_planned.ensures)
    c.loop-before.invariant

pub returns : goal.returns
returns c =
    let t = c.args.live.now.tables in
    let test : ℕ → Bool = is_planned_in t c.args.user.now c.args.per_paper in
    let i : ℕ = c.loop-before.before in
    papers-all test (λ (p : ℕ). p) t.papers.papers i c.loop-before.papers.items _
    (subst (λ (k : ℕ). k ≤ i) c.paper_count-before-end.ensures.count (omega (arith, c.loop-before-test.false)))
    c.loop-before.invariant
    ∙ map-same _
    ∙ planned-are t c.args.user.now c.args.per_paper
