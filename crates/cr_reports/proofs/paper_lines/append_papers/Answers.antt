-- SPDX-License-Identifier: Apache-2.0 OR MIT
use Rattle.std.proofs.Common.{ℕ, List, Some, ◌≡◌, ◌<◌, ◌≤◌, ◌++◌, ◌∙◌, append_assoc, ap, sym, subst, arith}
use Rattle.std.specs.Prelude.{OnOk}
use Rattle.std.specs.List.{flat_map}
use Rattle.cr_base.specs.Papers.{paper_numbers}
use Rattle.cr_base.specs.Reports.{paper_line, papers_end}
use Rattle.cr_base.specs.Sources.{facts_of_tables, shown_in_tables}
use Rattle.cr_base.proofs.ListLaws.{length-numbers_from}
use Rattle.cr_reports.proofs.WalkLaws.{lines-step, lines-all}
use Rattle.cr_reports.proofs.paper_lines.append_papers.Goals as goal

pub loop-before-preserved : goal.loop-before-preserved
loop-before-preserved c =
    let t = c.args.live.now.tables in
    let i : ℕ = c.loop-before.before in
    let line : ℕ → List ℕ = paper_line (facts_of_tables t (Some c.args.user)) (shown_in_tables t) in
    lines-step t.papers.papers line c.args.into.now.items i c.new.result c.loop-before.into.items _
    (subst (λ (k : ℕ). i < k) c.paper_count-before-end.ensures.count c.loop-before-test.true) c.new.ensures
    c.in_ok-append_paper.ensures c.loop-before.invariant

pub returns : goal.returns
returns c =
    let t = c.args.live.now.tables in
    let i : ℕ = c.loop-before.before in
    let line : ℕ → List ℕ = paper_line (facts_of_tables t (Some c.args.user)) (shown_in_tables t) in
    let start : List ℕ = c.args.into.now.items in
    let told : List ℕ = flat_map line (paper_numbers t.papers) in
    let count : ℕ = c.paper_count.result in
    subst (λ (l : List ℕ). OnOk c.append_end.result (c.append_end.new.into.items ≡ l))
    (ap (λ (l : List ℕ). l ++ papers_end count)
    (lines-all t.papers.papers line start i c.loop-before.into.items
    (subst (λ (k : ℕ). k ≤ i) c.paper_count-before-end.ensures.count (omega (arith, c.loop-before-test.false)))
    c.loop-before.invariant)
    ∙ append_assoc start told (papers_end count)
    ∙ ap (λ (n : ℕ). start ++ (told ++ papers_end n))
    (c.paper_count.ensures.count ∙ sym (length-numbers_from 1 t.papers.papers)))
    c.append_end.ensures
