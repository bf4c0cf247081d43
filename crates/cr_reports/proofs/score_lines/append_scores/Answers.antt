-- SPDX-License-Identifier: Apache-2.0 OR MIT
use Rattle.std.proofs.Common.{ℕ, List, ◌<◌, ◌≤◌, ◌++◌, ◌∙◌, ap, subst, arith}
use Rattle.cr_reports.specs.ReportLines.{is_open_to, scores_line_at}
use Rattle.cr_reports.proofs.OpenLaws.{open-told}
use Rattle.cr_reports.proofs.WalkLaws.{lines-step, lines-all, where_so}
use Rattle.cr_reports.proofs.score_lines.append_scores.Goals as goal

pub loop-before-preserved : goal.loop-before-preserved
loop-before-preserved c =
    let t = c.args.live.now.tables in
    let i : ℕ = c.loop-before.before in
    lines-step t.papers.papers (where_so (is_open_to t c.args.user) (scores_line_at t)) c.args.into.now.items i
    c.new.result c.loop-before.into.items _
    (subst (λ (k : ℕ). i < k) c.paper_count-before-end.ensures.count c.loop-before-test.true) c.new.ensures
    c.in_ok-append_paper.ensures c.loop-before.invariant

pub returns : goal.returns
returns c =
    let t = c.args.live.now.tables in
    let i : ℕ = c.loop-before.before in
    lines-all t.papers.papers (where_so (is_open_to t c.args.user) (scores_line_at t)) c.args.into.now.items i
    c.loop-before.into.items
    (subst (λ (k : ℕ). k ≤ i) c.paper_count-before-end.ensures.count (omega (arith, c.loop-before-test.false)))
    c.loop-before.invariant
    ∙ ap (λ (l : List ℕ). c.args.into.now.items ++ l) (open-told t c.args.user (scores_line_at t))
