-- SPDX-License-Identifier: Apache-2.0 OR MIT
use Rattle.std.proofs.Common.{ℕ, List, ◌≡◌, ◌≤◌, ◌+◌, Option, Some, None, ◌++◌, ◌∙◌, ap, length, refl, arith}
use Rattle.cr_base.specs.Labels.{by_labels}
use Rattle.cr_base.specs.Lists.{listed, total}
use Rattle.cr_view.specs.Reports.{score_sum, score_under}
use Rattle.cr_view.proofs.ReportLaws.{sum-step}
use Rattle.cr_view.proofs.ReviewLaws.{labels-step, labels-all}
use Rattle.cr_view.proofs.live.Live.scores.Goals as goal

pub loop-before-preserved : goal.loop-before-preserved
loop-before-preserved c =
    let told : ℕ → List ℕ = score_under c.args.self.now.tables c.args.paper in
    let i : ℕ = c.loop-before.before in
    let under : listed c.score_under.result ≡ told (i + 1) = c.score_under.ensures ∙ ap told c.new.ensures in
    let next : by_labels told i ++ told (i + 1) ≡ by_labels told (i + 1) =
    labels-step told i (by_labels told i) _ refl refl in (
      sum-step c.loop-before.scores c.with-scores.result (by_labels told i) (told (i + 1)) c.loop-before.invariant.0
          (c.with-scores.ensures.count ∙ ap (λ (l : List ℕ). c.loop-before.scores.count + length l) under)
          (c.with-scores.ensures.sum ∙ ap (λ (l : List ℕ). c.loop-before.scores.sum + total l) under)
          ∙ ap score_sum next,
      few c.with-scores.result.count c.loop-before.scores.count (length (listed c.score_under.result)) i
          c.with-scores.ensures.count
          (one c.score_under.result) c.loop-before.invariant.1,
      c.with-scores.ensures.low,
    )
  where
    one : (score : Option ℕ) → length (listed score) ≤ 1
    one None = omega arith
    one (Some score) = omega arith

    few : (new old more i : ℕ) → new ≡ old + more → more ≤ 1 → old ≤ i → new ≤ i + 1
    few new old more i is small low = omega (arith, is, small, low)

pub returns-clause-value : goal.returns-clause-value
returns-clause-value c =
    let told : ℕ → List ℕ = score_under c.args.self.now.tables c.args.paper in
    c.loop-before.invariant.0 ∙ ap score_sum
    (labels-all told c.loop-before.before (by_labels told c.loop-before.before) refl (omega arith) (omega arith))
