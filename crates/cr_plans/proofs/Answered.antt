-- SPDX-License-Identifier: Apache-2.0 OR MIT
-- A query of a plan is answered as is due: a rule that is broken, a plan, or that there is none, which alone takes
-- memory.
use Rattle.std.proofs.Common.{ℕ, ◌≡◌, List, Option, Some, None, Result, Ok, Err, sym, ap, subst, ◌∙◌}
use Rattle.std.specs.Prelude.{IsErrAnd}
use Rattle.std.specs.Option.{option_map}
use Rattle.cr_base.specs.declared.command.Query.TheVariants as queries
use Rattle.cr_base.specs.declared.reply.Reply.{Reply}
use Rattle.cr_base.specs.declared.reply.Reply.TheVariants as replies
use Rattle.cr_base.specs.declared.reply.Rule.{Rule}
use Rattle.cr_base.specs.declared.reply.Rule.TheVariants as rules
use Rattle.cr_base.specs.Answering.{answer_by_role, plan_asked, reply_or_rule, MayTakeMemory}
use Rattle.cr_base.specs.Checks.{Check, judged}
use Rattle.cr_base.specs.Plans.{PlanPair, best_plan, plan_reply, plan_text}
use Rattle.cr_base.specs.Sources.{facts_of_tables, shown_in_tables}
use Rattle.cr_base.specs.Tables.{Tables}
use Rattle.cr_view.specs.declared.queries.AnswerError.{AnswerError}
use Rattle.cr_view.specs.declared.queries.AnswerError.TheVariants as errors
use Rattle.cr_view.specs.Replies.{AnswersOrPlans}
use Rattle.cr_view.proofs.JudgeLaws.{passed, refused}
use Rattle.cr_plans.specs.Pairing.{MayPlan, plan_due}

module _ (t : Tables) (caller : Option ℕ) (per_paper load : ℕ) where
  abbrev checks : List Check
  checks = plan_asked (facts_of_tables t caller) (shown_in_tables t) per_paper

  abbrev best : Option (List PlanPair)
  best = best_plan (facts_of_tables t caller) (shown_in_tables t) per_paper load

  abbrev due : Reply
  due = answer_by_role t caller (queries.Plan per_paper load)

  -- the rule that is broken
  pub due-refused : (rule : Rule) → ◌≡◌ {A = Result (Unit {0}) Rule} (Err rule) (judged checks tt)
      → due ≡ replies.Refused rule
  due-refused rule h =
      ap (λ (r : Result Reply Rule). reply_or_rule r) (sym (refused checks tt (plan_reply best) rule h))

  -- else what is found
  due-found : MayPlan t caller per_paper → plan_reply best ≡ due
  due-found may =
      ap (λ (r : Result Reply Rule). reply_or_rule r) (passed checks (λ (u : Unit {0}). plan_reply best) tt tt may)

  -- the plan
  pub due-told : MayPlan t caller per_paper → (text : List ℕ) → Some text ≡ plan_due t caller per_paper load
      → AnswersOrPlans (Ok (replies.Report text)) due
  due-told may text is = by best (due-found may) is
    where
      by : (o : Option (List PlanPair)) → plan_reply o ≡ due → Some text ≡ option_map plan_text o
          → AnswersOrPlans (Ok (replies.Report text)) due
      by None found told = absurd (cc (told))
      by (Some plan) found told =
          let same : text ≡ plan_text plan = cc in
          let whole : replies.Report text ≡ due = ap (λ (l : List ℕ). replies.Report l) same ∙ found in
          (whole, λ rule broken. let e : replies.Report text ≡ replies.Refused rule = whole ∙ broken in cc)

  -- that there is none
  pub due-none : MayPlan t caller per_paper → None ≡ plan_due t caller per_paper load
      → due ≡ replies.Refused rules.NoPlan
  due-none may is = by best (due-found may) is
    where
      by : (o : Option (List PlanPair)) → plan_reply o ≡ due → None ≡ option_map plan_text o
          → due ≡ replies.Refused rules.NoPlan
      by None found told = sym found
      by (Some plan) found told = absurd (cc (told))

  -- and where memory runs out, no other rule
  pub due-unserved : MayPlan t caller per_paper → (r : Result Reply AnswerError)
      → IsErrAnd r (λ (e : AnswerError). e ≡ errors.OutOfMemory)
      → AnswersOrPlans r due
  due-unserved may (Ok reply) out = absurd out
  due-unserved may (Err error) out =
      subst (λ (e : AnswerError). AnswersOrPlans (Err e) due) (sym out) (by best (due-found may))
    where
      by : (o : Option (List PlanPair)) → plan_reply o ≡ due → MayTakeMemory due
      by None found rule other broken =
          let e : replies.Refused rules.NoPlan ≡ replies.Refused rule = found ∙ broken in
          let same : rule ≡ rules.NoPlan = cc in other same
      by (Some plan) found rule other broken =
          let e : replies.Report (plan_text plan) ≡ replies.Refused rule = found ∙ broken in cc
