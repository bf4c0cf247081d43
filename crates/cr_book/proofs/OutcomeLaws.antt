-- SPDX-License-Identifier: Apache-2.0 OR MIT
-- What a command or a bulk comes to, by what was looked up and what was judged.
use Rattle.std.proofs.Common.{◌≡◌, true, false, List, refl, sym, ap, subst, ◌∙◌, Option, None, Some, Result, Ok, Err}
use Rattle.std.proofs.Common.{IfOk, IsOk, IsSome}
use Rattle.std.proofs.lemmas.Result.{IfOk-weaker}
use Rattle.cr_base.specs.declared.bulk.Broken.TheVariants as broken
use Rattle.cr_base.specs.declared.command.Call.{Call}
use Rattle.cr_base.specs.declared.reply.Receipt.{Receipt}
use Rattle.cr_base.specs.declared.reply.Rule.TheVariants as rules
use Rattle.cr_base.specs.declared.row.Row.{Row}
use Rattle.cr_base.specs.Calls.{BulkCall}
use Rattle.cr_base.specs.Drawn.{Drawn}
use Rattle.cr_base.specs.History.{History}
use Rattle.cr_base.specs.Retries.{Outcome, Repeats, Judged, drawn_by}
use Rattle.cr_base.specs.Tables.{Tables}
use Rattle.cr_policy.specs.Judge.{judge, judge_bulk, decide, decide_bulk}
use Rattle.cr_policy.specs.View.{view}
use Rattle.cr_book.specs.declared.book.BookError.{BookError}
use Rattle.cr_book.specs.declared.book.BookError.TheVariants as errors
use Rattle.cr_book.specs.declared.earlier.Earlier.{Earlier}
use Rattle.cr_book.specs.Earlier.{kept_by, earlier_of, outcome_by}
use Rattle.cr_book.specs.Sound.{Acts, IsSound}
use Rattle.cr_book.proofs.EarlierLaws.{decided, decided_bulk}

-- ---- by what the book looks up

-- a command's outcome on its caller's view
pub command-outcome : {K : Type 0} (rows : K → Option (List Row)) (h log : History) (t : Tables) (keeper : K)
    (call : Call) (found : Earlier)
    → h ≡ log → IsSound rows h t keeper → found ≡ earlier_of false call.key (kept_by t call.caller h)
    → decide (view call.caller log) call ≡ outcome_by rules.NumberUsed found (judge (view call.caller log) call)
command-outcome rows h log t keeper call found same sound is =
    subst (λ (x : History). decide (view call.caller x) call ≡ outcome_by rules.NumberUsed found
    (judge (view call.caller x) call)) same
    (decided h t sound.legal sound.same call
    ∙ ap (λ (e : Earlier). outcome_by rules.NumberUsed e (judge (view call.caller h) call)) (sym is))

-- and a bulk's
pub bulk-outcome : {K : Type 0} (rows : K → Option (List Row)) (h log : History) (t : Tables) (keeper : K)
    (bulk : BulkCall) (found : Earlier)
    → h ≡ log → IsSound rows h t keeper → found ≡ earlier_of true bulk.stamp.key (kept_by t (Some bulk.stamp.maker) h)
    → decide_bulk (view (Some bulk.stamp.maker) log) bulk
    ≡ outcome_by (broken.Rule rules.NumberUsed) found (judge_bulk (view (Some bulk.stamp.maker) log) bulk)
bulk-outcome rows h log t keeper bulk found same sound is =
    subst (λ (x : History). decide_bulk (view (Some bulk.stamp.maker) x) bulk
    ≡ outcome_by (broken.Rule rules.NumberUsed) found (judge_bulk (view (Some bulk.stamp.maker) x) bulk)) same
    (decided_bulk h t sound.legal sound.same bulk
    ∙ ap (λ (e : Earlier). outcome_by (broken.Rule rules.NumberUsed) e
    (judge_bulk (view (Some bulk.stamp.maker) h) bulk)) (sym is))

-- ---- where it was judged

module _ {E : Type 0} (outcome : Outcome E) (judgement : Result Drawn E) (is : outcome ≡ Judged judgement) where
  pub judged-acts : (old new : History) (result : Result Receipt (BookError E))
      → IfOk result (λ receipt. Acts (Judged judgement) old new receipt)
      → IfOk result (λ receipt. Acts outcome old new receipt)
  judged-acts old new result acts =
      IfOk-weaker result _ _ (λ receipt did. subst (λ (o : Outcome E). Acts o old new receipt) (sym is) did) acts

  pub judged-no_repeat : (receipt : Receipt) → outcome ≡ Repeats receipt → ⊥
  judged-no_repeat receipt repeats = no (sym is ∙ repeats)
    where
      no : ◌≡◌ {A = Outcome E} (Judged judgement) (Repeats receipt) → ⊥
      no e = cc (e)

  pub judged-refused : (refusal : E) → outcome ≡ Judged (Err refusal) → judgement ≡ Err refusal
  judged-refused refusal told = same (sym is ∙ told)
    where
      same : ◌≡◌ {A = Outcome E} (Judged judgement) (Judged (Err refusal)) → judgement ≡ Err refusal
      same e = cc (e)

  pub judged-outcome : (refusal : E) → judgement ≡ Err refusal → outcome ≡ Judged (Err refusal)
  judged-outcome refusal told = is ∙ ap Judged told

  pub judged-drawn : IsOk judgement → IsSome (drawn_by outcome)
  judged-drawn ok = subst (λ (o : Outcome E). IsSome (drawn_by o)) (sym is) (some judgement ok)
    where
      some : (r : Result Drawn E) → IsOk r → IsSome (drawn_by (Judged r))
      some (Ok drawn) ok = refl
      some (Err refusal) ok = cc (ok)

  -- what is drawn is what was judged
  pub judged-draws : (drawn : Drawn) → drawn_by outcome ≡ Some drawn → judgement ≡ Ok drawn
  judged-draws drawn told = by judgement (subst (λ (o : Outcome E). drawn_by o ≡ Some drawn) is told)
    where
      by : (r : Result Drawn E) → drawn_by (Judged r) ≡ Some drawn → r ≡ Ok drawn
      by (Ok d) some = cc (some)
      by (Err refusal) some = absurd (cc (some))

-- ---- where it wasn't

module _ {E : Type 0} (outcome : Outcome E) (receipt : Receipt) (is : outcome ≡ Repeats receipt) where
  pub repeat-acts : (old new : History) → new ≡ old → Acts outcome old new receipt
  repeat-acts old new same = subst (λ (o : Outcome E). Acts o old new receipt) (sym is) (refl, same)

  pub repeat-told : (told : Receipt) → outcome ≡ Repeats told
      → ◌≡◌ {A = Result Receipt (BookError E)} (Ok receipt) (Ok told)
  repeat-told told repeats = same (sym is ∙ repeats)
    where
      same : ◌≡◌ {A = Outcome E} (Repeats receipt) (Repeats told)
          → ◌≡◌ {A = Result Receipt (BookError E)} (Ok receipt) (Ok told)
      same e = cc (e)

  pub repeat-draws_nothing : (drawn : Drawn) → drawn_by outcome ≡ Some drawn → ⊥
  repeat-draws_nothing drawn told = no (subst (λ (o : Outcome E). drawn_by o ≡ Some drawn) is told)
    where
      no : ◌≡◌ {A = Option Drawn} None (Some drawn) → ⊥
      no e = cc (e)

  pub repeat-not_refused : (refusal : E) → outcome ≡ Judged (Err refusal) → ⊥
  repeat-not_refused refusal told = no (sym is ∙ told)
    where
      no : ◌≡◌ {A = Outcome E} (Repeats receipt) (Judged (Err refusal)) → ⊥
      no e = cc (e)

-- what is refused is refused so
module _ {E : Type 0} (outcome : Outcome E) (used : E) (is : outcome ≡ Judged (Err used)) where
  pub used-told : (refusal : E) → outcome ≡ Judged (Err refusal)
      → ◌≡◌ {A = Result Receipt (BookError E)} (Err (errors.Broken used)) (Err (errors.Broken refusal))
  used-told refusal told = same (sym is ∙ told)
    where
      same : ◌≡◌ {A = Outcome E} (Judged (Err used)) (Judged (Err refusal))
          → ◌≡◌ {A = Result Receipt (BookError E)} (Err (errors.Broken used)) (Err (errors.Broken refusal))
      same e = cc (e)

  pub used-outcome : (refusal : E) → ◌≡◌ {A = Result Receipt (BookError E)} (Err (errors.Broken used))
      (Err (errors.Broken refusal)) → outcome ≡ Judged (Err refusal)
  used-outcome refusal told = let same : used ≡ refusal = cc (told) in is ∙ ap (λ (e : E). Judged (Err e)) same

  pub used-no_repeat : (receipt : Receipt) → outcome ≡ Repeats receipt → ⊥
  used-no_repeat receipt repeats = judged-no_repeat outcome (Err used) is receipt repeats
