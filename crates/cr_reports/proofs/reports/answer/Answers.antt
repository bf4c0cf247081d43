-- SPDX-License-Identifier: Apache-2.0 OR MIT
use Rattle.std.proofs.Common.{Option, ℕ, Ok, Err, subst, sym}
use Rattle.cr_base.specs.declared.command.Query.TheVariants as queries
use Rattle.cr_base.specs.declared.reply.Reply.TheVariants as replies
use Rattle.cr_base.specs.Answering.{answer_by_role}
use Rattle.cr_view.specs.Replies.{AnswersAsDue}
use Rattle.cr_reports.proofs.ToldLaws.{report-answered}
use Rattle.cr_reports.proofs.reports.answer.Goals as goal

pub returns-in-Ok : goal.returns-in-Ok
returns-in-Ok c =
    let t = c.args.live.now.tables in
    subst (λ (u : Option ℕ). AnswersAsDue (Ok (replies.Report c.in-Ok.text))
    (answer_by_role t u (queries.Report c.args.report.now))) (sym c.in-Some.is)
    (report-answered t c.in-Some.user c.args.report.now (Ok c.in-Ok.text) c.in-Ok.ensures)

pub returns-in-Err : goal.returns-in-Err
returns-in-Err c =
    let t = c.args.live.now.tables in
    subst (λ (u : Option ℕ). AnswersAsDue (Err c.in-Err.error) (answer_by_role t u (queries.Report c.args.report.now)))
    (sym c.in-Some.is)
    (report-answered t c.in-Some.user c.args.report.now (Err c.in-Err.error) c.in-Err.ensures)
