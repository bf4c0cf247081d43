-- SPDX-License-Identifier: Apache-2.0 OR MIT
use Rattle.std.proofs.Common.{ℕ, true, ◌≡◌, ◌∙◌, Some, sym, ap}
use Rattle.std.specs.Prelude.{unwrap_or}
use Rattle.cr_base.specs.declared.command.Query.TheVariants as queries
use Rattle.cr_base.specs.Answering.{query_checks}
use Rattle.cr_base.specs.Sources.{facts_of_tables, shown_in_tables}
use Rattle.cr_base.specs.Words.{is_member}
use Rattle.cr_view.specs.PaperSeen.{PaperSeen, paper_seen_at}
use Rattle.cr_view.proofs.AnswerLaws.{member-known, reader-is}
use Rattle.cr_view.proofs.PageLaws.{page-refused, page-told, page-unserved}
use Rattle.cr_view.proofs.StepLaws.{few-read, few-shown}
use Rattle.cr_view.proofs.live.Live.show.Goals as goal

pub returns-in-Err-clause-page : goal.returns-in-Err-clause-page
returns-in-Err-clause-page g c =
    page-refused c.args.self.now.tables c.args.user.now c.args.paper.now c.in-Err.rule c.in-Err.ensures.facts

pub returns-in-Err-clause-steps : goal.returns-in-Err-clause-steps
returns-in-Err-clause-steps g c =
    few-read c.args.self.now.tables c.args.user.now (unwrap_or c.args.paper.now 0) c.args.steps.now
    c.page_facts.new.steps c.page_facts.ensures.steps

pub page-requires : goal.page-requires
page-requires g c =
    let t = c.args.self.now.tables in
    let u = c.args.user.now in
    let p : ℕ = unwrap_or c.args.paper.now 0 in
    let is = reader-is (query_checks (facts_of_tables t u) (shown_in_tables t) (queries.Page c.args.paper.now))
    (paper_seen_at t u p) c.in-Ok.facts c.in-Ok.ensures.facts in
    λ (member : is_member c.in-Ok.facts.by.role ≡ true).
    member-known t u (Some p) (sym (ap (λ (s : PaperSeen). is_member s.by.role) is) ∙ member)

pub returns-in_err-page-clause-page : goal.returns-in_err-page-clause-page
returns-in_err-page-clause-page g c =
    page-unserved c.args.self.now.tables c.args.user.now c.args.paper.now c.in-Ok.facts c.in-Ok.ensures.facts
    c.from_residual.result c.from_residual.ensures.1

pub returns-in_err-page-clause-steps : goal.returns-in_err-page-clause-steps
returns-in_err-page-clause-steps g c =
    few-shown c.args.self.now.tables c.args.user.now c.args.paper.now
    (query_checks (facts_of_tables c.args.self.now.tables c.args.user.now) (shown_in_tables c.args.self.now.tables)
    (queries.Page c.args.paper.now))
    c.in-Ok.facts c.in-Ok.ensures.facts c.args.steps.now c.page_facts.new.steps c.page.new.steps
    c.page_facts.ensures.steps c.page.ensures.steps

pub returns-clause-page : goal.returns-clause-page
returns-clause-page g c =
    page-told c.args.self.now.tables c.args.user.now c.args.paper.now c.in-Ok.facts c.in-Ok.ensures.facts
    c.in_ok-page.field-0 c.in_ok-page.ensures.page

pub returns-clause-steps : goal.returns-clause-steps
returns-clause-steps g c =
    few-shown c.args.self.now.tables c.args.user.now c.args.paper.now
    (query_checks (facts_of_tables c.args.self.now.tables c.args.user.now) (shown_in_tables c.args.self.now.tables)
    (queries.Page c.args.paper.now))
    c.in-Ok.facts c.in-Ok.ensures.facts c.args.steps.now c.page_facts.new.steps c.page.new.steps
    c.page_facts.ensures.steps c.page.ensures.steps
