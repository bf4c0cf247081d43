-- SPDX-License-Identifier: Apache-2.0 OR MIT
-- A report that is told where no rule is broken.
use Rattle.std.proofs.Common.{ℕ, ◌≡◌, List, Some, Result, Ok, Err, refl, sym, ap, subst, ◌∙◌}
use Rattle.std.specs.Prelude.{IsErrAnd, IsOk}
use Rattle.cr_base.specs.declared.command.Query.TheVariants as queries
use Rattle.cr_base.specs.declared.report.Report.{Report}
use Rattle.cr_base.specs.declared.reply.Reply.TheVariants as replies
use Rattle.cr_base.specs.declared.reply.Rule.{Rule}
use Rattle.cr_base.specs.Answering.{answer_by_role}
use Rattle.cr_base.specs.Checks.{Check, judged}
use Rattle.cr_base.specs.Reports.{report_checks, report_told}
use Rattle.cr_base.specs.Sources.{facts_of_tables, shown_in_tables}
use Rattle.cr_base.specs.Tables.{Tables}
use Rattle.cr_view.specs.declared.queries.AnswerError.{AnswerError}
use Rattle.cr_view.specs.declared.queries.AnswerError.TheVariants as errors
use Rattle.cr_view.specs.Replies.{AnswersAsDue, ShowsAsDue}
use Rattle.cr_view.proofs.AnswerLaws.{as_reply, shown-answered}
use Rattle.cr_view.proofs.JudgeLaws.{passed, refused}
use Rattle.cr_reports.specs.ReportLines.{MayHave, report_due}

module _ (t : Tables) (user : ℕ) (report : Report) where
  abbrev checks : List Check
  checks = report_checks (facts_of_tables t (Some user)) report

  abbrev told : List ℕ
  told = report_told (facts_of_tables t (Some user)) (shown_in_tables t) report

  -- the rule that is broken
  pub due-refused : (rule : Rule) → ◌≡◌ {A = Result (Unit {0}) Rule} (Err rule) (judged checks tt)
      → report_due t user report ≡ Err rule
  due-refused rule h = sym (refused checks tt told rule h)

  -- no rule is broken
  pub due-told : (text : List ℕ) → MayHave t user report → text ≡ told → report_due t user report ≡ Ok text
  due-told text may is =
      sym (passed checks (λ (u : Unit {0}). told) tt tt may)
      ∙ ap {B = Result (List ℕ) Rule} (λ (l : List ℕ). Ok l) (sym is)

  -- and where memory runs out, none is
  pub due-unserved : MayHave t user report → (r : Result (List ℕ) AnswerError)
      → IsErrAnd r (λ (e : AnswerError). e ≡ errors.OutOfMemory)
      → ShowsAsDue r (report_due t user report)
  due-unserved may (Ok given) out = absurd out
  due-unserved may (Err error) out =
      subst (λ (e : AnswerError). ShowsAsDue {A = List ℕ} (Err e) (report_due t user report)) (sym out)
      (subst (λ (r : Result (List ℕ) Rule). IsOk r) (passed checks (λ (u : Unit {0}). told) tt tt may) refl)

  -- as a reply
  pub report-answered : (r : Result (List ℕ) AnswerError) → ShowsAsDue r (report_due t user report)
      → AnswersAsDue (as_reply (λ (l : List ℕ). replies.Report l) r)
      (answer_by_role t (Some user) (queries.Report report))
  report-answered r h = shown-answered checks told (λ (l : List ℕ). replies.Report l) (λ l rule e. cc) r h
