-- SPDX-License-Identifier: Apache-2.0 OR MIT
use Rattle.std.proofs.Common.{◌∙◌, ap, sym, subst, None}
use Rattle.cr_base.specs.declared.command.Query.{Query}
use Rattle.cr_base.specs.declared.reply.Reply.{Reply}
use Rattle.cr_base.specs.History.{History}
use Rattle.cr_policy.specs.Judge.{answer, needs_login}
use Rattle.cr_policy.specs.Legal.{MayAsk}
use Rattle.cr_policy.specs.View.{view}
use Rattle.cr_view.specs.Replies.{AnswersAsDue, AnswersOrPlans}
use Rattle.cr_view.proofs.AnswerLaws.{or-plans}
use Rattle.cr_book.specs.Seen.{SeenBook}
use Rattle.cr_book.proofs.AskingLaws.{phase-told, rule-told}
use Rattle.cr_book.proofs.BookLaws.{answered-by_view, asker-there}
use Rattle.cr_book.proofs.book.Book.answer.Goals as goal

pub returns-in-Err-clause-answered : goal.returns-in-Err-clause-answered
returns-in-Err-clause-answered g c =
    let u = c.args.caller.now in
    let q = c.args.query.now in
    let t = c.self.inside.live.tables in
    let same = ap (λ (v : SeenBook g.row.K.Denot). v.log) c.self.view_is in
    sym
    (answered-by_view g.K.Keeper.rows c.self.inside.log.entries t c.self.inside.keeper u q c.self.invariant.0
    ∙ ap (λ (h : History). answer u (view u h) q) same)
    ∙ rule-told t u q c.in-Err.rule c.in-Err.ensures

pub returns-in-Err-clause-sure : goal.returns-in-Err-clause-sure
returns-in-Err-clause-sure g c =
    phase-told c.self.inside.live.tables c.args.caller.now c.args.query.now c.in-Err.rule c.in-Err.ensures

pub answer_search-requires : goal.answer_search-requires
answer_search-requires g c =
    subst (λ (q : Query). MayAsk c.args.self.now.log (needs_login (view None c.args.self.now.log) q) c.args.caller.now)
    c.in-Search.is c.requires

pub answer_report-requires : goal.answer_report-requires
answer_report-requires g c =
    subst (λ (q : Query). MayAsk c.args.self.now.log (needs_login (view None c.args.self.now.log) q) c.args.caller.now)
    c.in-Report.is c.requires

pub answer-requires : goal.answer-requires
answer-requires g c =
    let u = c.args.caller.now in
    let q = c.args.query.now in
    let same = ap (λ (v : SeenBook g.row.K.Denot). v.log) c.self.view_is in
    let may = subst (λ (h : History). MayAsk h (needs_login (view None h) q) u) (sym same) c.requires in
    record {
      caller = asker-there c.self.inside.log.entries u q
          (record {
            search = c.in_default-query.not-Search;
            report = c.in_default-query.not-Report;
            plan = c.in_default-query.not-Plan;
          })
          may;
    }

pub returns-in-Search-clause-answered : goal.returns-in-Search-clause-answered
returns-in-Search-clause-answered g c =
    or-plans c.answer_search.result (answer c.args.caller.now (view c.args.caller.now c.args.self.now.log)
    c.args.query.now)
    (subst (λ (q : Query). AnswersAsDue c.answer_search.result
    (answer c.args.caller.now (view c.args.caller.now c.args.self.now.log) q))
    (sym c.in-Search.is) c.answer_search.ensures)

pub returns-in-Report-clause-answered : goal.returns-in-Report-clause-answered
returns-in-Report-clause-answered g c =
    or-plans c.answer_report.result (answer c.args.caller.now (view c.args.caller.now c.args.self.now.log)
    c.args.query.now)
    (subst (λ (q : Query). AnswersAsDue c.answer_report.result
    (answer c.args.caller.now (view c.args.caller.now c.args.self.now.log) q))
    (sym c.in-Report.is) c.answer_report.ensures)

pub returns-in-Plan-clause-answered : goal.returns-in-Plan-clause-answered
returns-in-Plan-clause-answered g c =
    subst (λ (q : Query). AnswersOrPlans c.answer_plan.result
    (answer c.args.caller.now (view c.args.caller.now c.args.self.now.log) q))
    (sym c.in-Plan.is) c.answer_plan.ensures

pub returns-in_default-query-clause-answered : goal.returns-in_default-query-clause-answered
returns-in_default-query-clause-answered g c =
    let u = c.args.caller.now in
    let q = c.args.query.now in
    let same = ap (λ (v : SeenBook g.row.K.Denot). v.log) c.self.view_is in
    or-plans c.answer.result (answer u (view u c.args.self.now.log) q)
    (subst (λ (due : Reply). AnswersAsDue c.answer.result due)
    (answered-by_view g.K.Keeper.rows c.self.inside.log.entries c.self.inside.live.tables c.self.inside.keeper u q
    c.self.invariant.0
    ∙ ap (λ (h : History). answer u (view u h) q) same)
    c.answer.ensures.answered)
