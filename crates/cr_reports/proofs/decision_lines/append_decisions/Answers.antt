-- SPDX-License-Identifier: Apache-2.0 OR MIT
use Rattle.std.proofs.Common.{ℕ, Bool, List, Option, ◌≡◌, ◌<◌, ◌≤◌, ◌++◌, ◌&&◌, ◌∙◌, append_assoc, ap, subst, arith}
use Rattle.std.specs.Prelude.{OnOk}
use Rattle.std.specs.List.{flat_map}
use Rattle.cr_base.specs.declared.words.Decision.{Decision}
use Rattle.cr_base.specs.Papers.{paper_numbers}
use Rattle.cr_base.specs.Reports.{decisions_end, is_accepting, is_undecided, is_rejecting}
use Rattle.cr_reports.specs.ReportLines.{decided, decision_line_at, is_open_to}
use Rattle.cr_reports.proofs.OpenLaws.{count-step, decided-all, few-more, open-told}
use Rattle.cr_reports.proofs.WalkLaws.{first-step, lines-step, lines-all, where_so}
use Rattle.cr_reports.proofs.decision_lines.append_decisions.Goals as goal

pub loop-before-preserved : goal.loop-before-preserved
loop-before-preserved c =
    let t = c.args.live.now.tables in
    let user : ℕ = c.args.user in
    let i : ℕ = c.loop-before.before in
    let n : ℕ = c.new.result in
    let within = subst (λ (k : ℕ). i < k) c.paper_count-before-end.ensures.count c.loop-before-test.true in
    let next = first-step t.papers.papers i n within c.new.ensures in
    let told : (Option Decision → Bool) → ℕ → Bool = λ test p. is_open_to t user p && test (decided t p) in
    let ok = c.in_ok-append_paper.ensures in
    let was = c.loop-before.invariant in
    record {
      text = lines-step t.papers.papers (where_so (is_open_to t user) (decision_line_at t)) c.args.into.now.items i n
          c.loop-before.into.items _
          within c.new.ensures ok.text was.text;
      accepted = count-step t.papers.papers (told is_accepting) i n _ _ next ok.accepted was.accepted;
      rejected = count-step t.papers.papers (told is_rejecting) i n _ _ next ok.rejected was.rejected;
      undecided = count-step t.papers.papers (told is_undecided) i n _ _ next ok.undecided was.undecided;
      few = (
        few-more _ _ i (told is_accepting n) ok.accepted was.few.0,
        few-more _ _ i (told is_rejecting n) ok.rejected was.few.1,
        few-more _ _ i (told is_undecided n) ok.undecided was.few.2,
      );
    }

pub returns : goal.returns
returns c =
    let t = c.args.live.now.tables in
    let user : ℕ = c.args.user in
    let i : ℕ = c.loop-before.before in
    let past =
    subst (λ (k : ℕ). k ≤ i) c.paper_count-before-end.ensures.count (omega (arith, c.loop-before-test.false)) in
    let was = c.loop-before.invariant in
    let start : List ℕ = c.args.into.now.items in
    let tally = c.loop-before.tally in
    let lines : List ℕ = flat_map (where_so (is_open_to t user) (decision_line_at t)) (paper_numbers t.papers) in
    subst (λ (l : List ℕ). OnOk c.append_end.result (c.append_end.new.into.items ≡ l))
    (ap (λ (l : List ℕ). l ++ decisions_end tally.accepted tally.rejected tally.undecided)
    (lines-all t.papers.papers (where_so (is_open_to t user) (decision_line_at t)) start i c.loop-before.into.items past
    was.text)
    ∙ append_assoc start lines (decisions_end tally.accepted tally.rejected tally.undecided)
    ∙ ap (λ (l : List ℕ). start ++ (l ++ decisions_end tally.accepted tally.rejected tally.undecided))
    (open-told t user (decision_line_at t))
    ∙ decided-all t user start tally.accepted tally.rejected tally.undecided i past was.accepted was.rejected
    was.undecided)
    c.append_end.ensures
