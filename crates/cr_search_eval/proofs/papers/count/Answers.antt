-- SPDX-License-Identifier: Apache-2.0 OR MIT
use Rattle.std.proofs.Common.{ℕ, Bool, List, ◌≡◌, ◌<◌, ◌≤◌, ◌+◌, ◌++◌, ◌∙◌, length, length-append, ap, refl, subst, sym}
use Rattle.std.proofs.Common.{arith}
use Rattle.std.proofs.lemmas.List.{map-id}
use Rattle.cr_base.specs.Lists.{given}
use Rattle.cr_base.specs.Searching.{is_found}
use Rattle.cr_view.proofs.AcceptedLaws.{papers-all, papers-step}
use Rattle.cr_search_eval.specs.Found.{papers_found, told_to}
use Rattle.cr_search_eval.proofs.papers.count.Goals as goal

pub loop-before-preserved : goal.loop-before-preserved
loop-before-preserved c =
    let t = c.args.live.now.tables in
    let i : ℕ = c.loop-before.before in
    let n : ℕ = c.new.result in
    let before : List ℕ = c.loop-before.invariant.0 in
    let test : ℕ → Bool = λ p. is_found (told_to t c.args.user p) c.args.search.now in
    let more : List ℕ = given (test n) n in
    let long : length (before ++ more) ≡ length before + length more = length-append before more in
    let one : c.count_one-count.result ≡ length more = c.count_one-count.ensures.value in (
      before ++ more,
      omega (arith, long, one, c.loop-before.invariant.1),
      omega (arith, c.loop-before.invariant.2, c.count_one-count.ensures.few),
      papers-step test (λ (p : ℕ). p) t.papers.papers i n before (before ++ more) _
          (subst (λ (k : ℕ). i < k) c.paper_count-before-end.ensures.count c.loop-before-test.true) c.new.ensures refl
          c.loop-before.invariant.3,
    )

pub returns : goal.returns
returns c =
    let t = c.args.live.now.tables in
    let i : ℕ = c.loop-before.before in
    let test : ℕ → Bool = λ p. is_found (told_to t c.args.user p) c.args.search.now in
    sym c.loop-before.invariant.1
    ∙ ap length
    (papers-all test (λ (p : ℕ). p) t.papers.papers i c.loop-before.invariant.0 _
    (subst (λ (k : ℕ). k ≤ i) c.paper_count-before-end.ensures.count (omega (arith, c.loop-before-test.false)))
    c.loop-before.invariant.3
    ∙ map-id (papers_found t c.args.user c.args.search.now))
