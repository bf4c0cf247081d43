-- SPDX-License-Identifier: Apache-2.0 OR MIT
use Rattle.std.proofs.Common.{Bool, Some, ◌+◌, ◌∙◌, ap}
use Rattle.std.specs.Prelude.{not}
use Rattle.cr_base.specs.declared.entry.Stamp.{Stamp}
use Rattle.cr_base.specs.Checks.{judged, submit_checks}
use Rattle.cr_base.specs.Papers.{own_count, paper_count}
use Rattle.cr_judge.proofs.JudgedLaws.{passed-up}
use Rattle.cr_judge.proofs.TargetLaws.{are-found, submission-drawn, submission-refused}
use Rattle.cr_judge.proofs.commands.submission.Goals as goal

pub unwrap-requires : goal.unwrap-requires
unwrap-requires c =
    let t = c.args.live.now.tables in
    let stamp : Stamp = c.args.stamp.now in
    let papers = c.paper_table.result.now.papers in
    are-found t stamp c.args.title c.args.abstract_ c.args.authors c.coauthors-users.result c.coauthors-users.ensures
    c.standing-by.result (paper_count papers) (own_count papers (Some stamp.maker)) c.is_late-late.result _
    c.in_ok-paper.paper
    (c.in_ok-paper.ensures
    ∙ ap
    (λ (b : Bool). judged (submit_checks (not b) c.standing-by.result (paper_count papers)
    (own_count papers (Some stamp.maker)) c.is_late-late.result) (paper_count papers + 1)) c.is_some.ensures)

pub returns : goal.returns
returns c =
    let t = c.args.live.now.tables in
    let stamp : Stamp = c.args.stamp.now in
    let papers = c.paper_table.result.now.papers in
    submission-drawn t stamp c.args.title c.args.abstract_ c.args.authors
    c.coauthors-users.result c.coauthors-users.ensures
    c.standing-by.result c.standing-by.ensures papers c.paper_table.ensures c.is_late-late.result c.is_late-late.ensures
    c.in_ok-paper.paper
    (c.in_ok-paper.ensures
    ∙ ap
    (λ (b : Bool). judged (submit_checks (not b) c.standing-by.result (paper_count papers)
    (own_count papers (Some stamp.maker)) c.is_late-late.result) (paper_count papers + 1)) c.is_some.ensures)
    c.unwrap.result c.unwrap.ensures

pub returns-in_err-paper : goal.returns-in_err-paper
returns-in_err-paper c =
    let t = c.args.live.now.tables in
    let stamp : Stamp = c.args.stamp.now in
    let papers = c.paper_table.result.now.papers in
    passed-up t.accounts c.from_residual.result c.in_err-paper.field-0.0 _ c.from_residual.ensures.1
    (submission-refused t stamp c.args.title c.args.abstract_ c.args.authors
    c.coauthors-users.result c.coauthors-users.ensures
    c.standing-by.result c.standing-by.ensures papers c.paper_table.ensures c.is_late-late.result c.is_late-late.ensures
    c.in_err-paper.field-0.0
    (c.in_err-paper.ensures
    ∙ ap
    (λ (b : Bool). judged (submit_checks (not b) c.standing-by.result (paper_count papers)
    (own_count papers (Some stamp.maker)) c.is_late-late.result) (paper_count papers + 1)) c.is_some.ensures))
