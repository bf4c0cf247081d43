-- SPDX-License-Identifier: Apache-2.0 OR MIT
-- What a command of a drill comes to: it has no number, so that is what Judge gives.
use Rattle.std.proofs.Common.{◌≡◌, true, false, Option, Result, Ok, Err, refl, sym, ap, subst}
use Rattle.std.specs.Prelude.{ℕ, is_ok}
use Rattle.cr_base.specs.declared.command.Command.{Command}
use Rattle.cr_base.specs.declared.reply.Receipt.{Receipt}
use Rattle.cr_base.specs.declared.reply.Rule.{Rule}
use Rattle.cr_base.specs.Drawn.{Drawn}
use Rattle.cr_base.specs.History.{History}
use Rattle.cr_base.specs.Retries.{Outcome, Repeats, Judged}
use Rattle.cr_book.specs.Sound.{Acts, Accepts}
use Rattle.cr_policy.specs.Judge.{judge, decide}
use Rattle.cr_history.specs.Invariants.{IsRegistered}
use Rattle.cr_history.proofs.SubmissionLaws.{registered-append}
use Rattle.cr_policy.specs.Legal.{followed_by, step, Legal}
use Rattle.cr_policy.specs.View.{view}
use Rattle.cr_drill.specs.Drill.{drill_call, is_accepted}
use Rattle.cr_drill.specs.Drilling.{GoesOn}

-- what was judged so
judged-of : {E : Type 0} → Result Drawn E → Outcome E → Result Drawn E
judged-of other (Repeats receipt) = other
judged-of other (Judged r) = r

judged-as : {E : Type 0} (r s : Result Drawn E) → ◌≡◌ {A = Outcome E} (Judged r) (Judged s) → r ≡ s
unfolding judged-of
judged-as r s is = ap (judged-of r) is

acts-followed : {E : Type 0} (H G : History) (r : Result Drawn E) (receipt : Receipt) → Acts (Judged r) H G receipt
    → G ≡ followed_by H r
acts-followed H G (Ok drawn) receipt acts = acts.1
acts-followed H G (Err refusal) receipt acts = absurd acts

acts-ok : {E : Type 0} (H G : History) (r : Result Drawn E) (receipt : Receipt) → Acts (Judged r) H G receipt
    → true ≡ is_ok r
acts-ok H G (Ok drawn) receipt acts = refl
acts-ok H G (Err refusal) receipt acts = absurd acts

acts-registered : {E : Type 0} (H G : History) (r : Result Drawn E) (receipt : Receipt) → Acts (Judged r) H G receipt
    → (user : ℕ) → IsRegistered H user → IsRegistered G user
acts-registered H G (Ok drawn) receipt acts user is =
    subst (λ (x : History). IsRegistered x user) (sym acts.1) (registered-append H drawn.group user is)
acts-registered H G (Err refusal) receipt acts user is = absurd acts

module _ (H : History) (caller : Option ℕ) (command : Command) where
  judgement : Result Drawn Rule
  judgement = judge (view caller H) (drill_call caller command)

  -- where the book accepts it, the history is the next one
  pub accepts_stepped : (G : History) (receipt : Receipt) → Accepts H G (drill_call caller command) receipt
      → G ≡ step H (drill_call caller command)
  unfolding judgement
  accepts_stepped G receipt accepts = acts-followed H G judgement receipt accepts

  pub accepts_accepted : (G : History) (receipt : Receipt) → Accepts H G (drill_call caller command) receipt
      → true ≡ is_accepted H (drill_call caller command)
  unfolding judgement
  accepts_accepted G receipt accepts = acts-ok H G judgement receipt accepts

  -- and whoever has registered stays
  pub accepts_goes_on : (G : History) (receipt : Receipt) → Accepts H G (drill_call caller command) receipt → Legal G
      → GoesOn H G
  unfolding judgement
  accepts_goes_on G receipt accepts legal = record {
    legal = legal;
    registered = acts-registered H G judgement receipt accepts;
  }

  -- where a rule is broken, Judge gives it, and the history stays
  broken : (rule : Rule) → decide (view caller H) (drill_call caller command) ≡ Judged (Err rule) → judgement ≡ Err rule
  unfolding judgement
  broken rule is = judged-as judgement (Err rule) is

  pub broken_stepped : (rule : Rule) → decide (view caller H) (drill_call caller command) ≡ Judged (Err rule)
      → H ≡ step H (drill_call caller command)
  unfolding judgement
  broken_stepped rule is = sym (ap (followed_by H) (broken rule is))

  pub broken_refused : (rule : Rule) → decide (view caller H) (drill_call caller command) ≡ Judged (Err rule)
      → false ≡ is_accepted H (drill_call caller command)
  unfolding judgement
  broken_refused rule is = sym (ap is_ok (broken rule is))
