-- SPDX-License-Identifier: Apache-2.0 OR MIT
use Rattle.std.proofs.Common.{ℕ, Bool, List, ◌<◌, ◌≤◌, ◌∙◌, subst, arith}
use Rattle.std.proofs.lemmas.List.{map-id}
use Rattle.cr_base.specs.Searching.{is_found}
use Rattle.cr_view.proofs.AcceptedLaws.{papers-all, papers-step}
use Rattle.cr_search_eval.specs.Found.{papers_found, told_to}
use Rattle.cr_search_eval.proofs.papers.search.Goals as goal

pub loop-before-preserved : goal.loop-before-preserved
loop-before-preserved c =
    let t = c.args.live.now.tables in
    let i : ℕ = c.loop-before.before in
    let n : ℕ = c.new.result in
    let before : List ℕ = c.loop-before.papers.items in
    let test : ℕ → Bool = λ p. is_found (told_to t c.args.user p) c.args.search.now in
    papers-step test (λ (p : ℕ). p) t.papers.papers i n before _ _
    (subst (λ (k : ℕ). i < k) c.paper_count-before-end.ensures.count c.loop-before-test.true) c.new.ensures
    c.in_ok-push_found.ensures c.loop-before.invariant

pub returns : goal.returns
returns c =
    let t = c.args.live.now.tables in
    let i : ℕ = c.loop-before.before in
    let test : ℕ → Bool = λ p. is_found (told_to t c.args.user p) c.args.search.now in
    papers-all test (λ (p : ℕ). p) t.papers.papers i c.loop-before.papers.items _
    (subst (λ (k : ℕ). k ≤ i) c.paper_count-before-end.ensures.count (omega (arith, c.loop-before-test.false)))
    c.loop-before.invariant
    ∙ map-id (papers_found t c.args.user c.args.search.now)
