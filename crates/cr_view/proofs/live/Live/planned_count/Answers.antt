-- SPDX-License-Identifier: Apache-2.0 OR MIT
use Rattle.std.proofs.Common.{ℕ, Bool, List, length, ◌<◌, ◌≤◌, ◌∙◌, ap, subst, sym, arith, ◌+◌}
use Rattle.cr_base.specs.Papers.{paper_count}
use Rattle.cr_view.specs.Plans.{is_planned_in, one}
use Rattle.cr_view.specs.Seen.{SeenTables}
use Rattle.cr_view.proofs.PlanLaws.{count-step, count-all, one-few, planned-are}
use Rattle.cr_view.proofs.live.Live.planned_count.Goals as goal

pub loop-before-preserved : goal.loop-before-preserved
loop-before-preserved c =
    let t = c.args.self.now.tables in
    let test : ℕ → Bool = is_planned_in t c.args.user.now c.args.per_paper in
    let count =
    c.count-before-end.ensures.value ∙ ap (λ (v : SeenTables). paper_count v.tables.papers) c.self.view_is in
    let i : ℕ = c.loop-before.before in
    let within = subst (λ (k : ℕ). i < k) count c.loop-before-test.true in
    record {
      counted = count-step test t.papers.papers i c.new.result c.loop-before.count _ _ within c.new.ensures
          (ap (λ (n : ℕ). c.loop-before.count + n) (c.one-count.ensures ∙ ap one c.is_planned.ensures))
          c.loop-before.invariant.counted;
      few = let most = subst (λ (k : ℕ). k ≤ 1) (sym c.one-count.ensures) (one-few c.is_planned.result) in omega
          (arith, most, c.loop-before.invariant.few);
    }

pub returns-clause-count : goal.returns-clause-count
returns-clause-count c =
    let t = c.args.self.now.tables in
    let test : ℕ → Bool = is_planned_in t c.args.user.now c.args.per_paper in
    let count =
    c.count-before-end.ensures.value ∙ ap (λ (v : SeenTables). paper_count v.tables.papers) c.self.view_is in
    let i : ℕ = c.loop-before.before in
    count-all test t.papers.papers i c.loop-before.count _
    (subst (λ (k : ℕ). k ≤ i) count (omega (arith, c.loop-before-test.false))) c.loop-before.invariant.counted
    ∙ ap (λ (ps : List ℕ). length ps) (planned-are t c.args.user.now c.args.per_paper)
