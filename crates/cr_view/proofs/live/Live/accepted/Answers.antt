-- SPDX-License-Identifier: Apache-2.0 OR MIT
use Rattle.std.proofs.Common.{ℕ, ◌<◌, ◌≤◌, ◌∙◌, None, ap, subst, arith}
use Rattle.cr_base.specs.declared.accepted.AcceptedPaper.{AcceptedPaper}
use Rattle.cr_base.specs.Answering.{accepted_paper}
use Rattle.cr_base.specs.Papers.{paper_count}
use Rattle.cr_base.specs.Sources.{facts_of_tables, is_accepted_in, shown_in_tables}
use Rattle.cr_view.specs.Seen.{SeenTables}
use Rattle.cr_view.proofs.AcceptedLaws.{papers-step, papers-all}
use Rattle.cr_view.proofs.live.Live.accepted.Goals as goal

pub loop-before-preserved : goal.loop-before-preserved
loop-before-preserved c =
    let t = c.args.self.now.tables in
    let told : ℕ → AcceptedPaper = accepted_paper (facts_of_tables t None) (shown_in_tables t) in
    let count =
    c.count-before-end.ensures.value ∙ ap (λ (v : SeenTables). paper_count v.tables.papers) c.self.view_is in
    let i : ℕ = c.loop-before.before in
    papers-step (is_accepted_in t) told t.papers.papers i c.new.result c.loop-before.papers.items _ _
    (subst (λ (k : ℕ). i < k) count c.loop-before-test.true) c.new.ensures c.in_ok-push_accepted.ensures
    c.loop-before.invariant

pub returns : goal.returns
returns c =
    let t = c.args.self.now.tables in
    let told : ℕ → AcceptedPaper = accepted_paper (facts_of_tables t None) (shown_in_tables t) in
    let count =
    c.count-before-end.ensures.value ∙ ap (λ (v : SeenTables). paper_count v.tables.papers) c.self.view_is in
    let i : ℕ = c.loop-before.before in
    c.from_vec.ensures
    ∙ papers-all (is_accepted_in t) told t.papers.papers i c.loop-before.papers.items _
    (subst (λ (k : ℕ). k ≤ i) count (omega (arith, c.loop-before-test.false))) c.loop-before.invariant
