-- SPDX-License-Identifier: Apache-2.0 OR MIT
-- The look-up of a number in the log is the one in the caller's view.
use Rattle.std.proofs.Common.{ℕ, Bool, true, false, cond, ◌≡◌, List, [], ◌∷◌, refl, sym, ap, ◌∙◌, Option, Some, None}
use Rattle.std.proofs.Common.{Result, Err}
use Rattle.std.specs.Option.{option_map}
use Rattle.std.specs.Str.{bytes_eq}
use Rattle.cr_base.specs.declared.bulk.Broken.TheVariants as broken
use Rattle.cr_base.specs.declared.command.Call.{Call}
use Rattle.cr_base.specs.declared.reply.AccountLine.{AccountLine}
use Rattle.cr_base.specs.declared.reply.Receipt.{Receipt}
use Rattle.cr_base.specs.declared.reply.Rule.TheVariants as rules
use Rattle.cr_base.specs.declared.retry.RetryKey.{RetryKey}
use Rattle.cr_base.specs.Accounts.{lines_of}
use Rattle.cr_base.specs.Calls.{BulkCall}
use Rattle.cr_base.specs.Drawn.{Drawn}
use Rattle.cr_base.specs.History.{History}
use Rattle.cr_base.specs.Keys.{kept_under}
use Rattle.cr_base.specs.Retries.{KeptCall, kept_call, kept_of, repeated_receipt, Outcome, Repeats, Judged, settled}
use Rattle.cr_base.specs.Retries.{settled_by}
use Rattle.cr_base.specs.Tables.{Tables, tables_of}
use Rattle.cr_history.proofs.LineAgreement.{accounts_of-tables}
use Rattle.cr_log.specs.Seen.{SeenKept, seen_kept}
use Rattle.cr_policy.specs.Judge.{judge, judge_bulk, decide, decide_bulk}
use Rattle.cr_policy.specs.Legal.{Legal, IsKeyOf, IsNewKey}
use Rattle.cr_policy.specs.View.{view}
use Rattle.cr_policy.specs.ViewRetries.{kept_in_view}
use Rattle.cr_policy.proofs.LegalLaws.{Legal-fits}
use Rattle.cr_policy.proofs.RetryLaws.{kept-seen}
use Rattle.cr_book.specs.declared.earlier.Earlier.TheVariants.{Nothing, Same, Other}
use Rattle.cr_book.specs.Earlier.{kept_by, kept_seen, earlier_by, earlier_of, outcome_by}

-- ---- what is looked up in the log

-- what is kept is what the log finds
found-kept : (accounts : List AccountLine) (H : History)
    → kept_call accounts H ≡ option_map (kept_seen accounts) (seen_kept H)
found-kept accounts [] = refl
found-kept accounts (e ∷ es) = refl

pub looked-up : (t : Tables) (user : ℕ) (key : RetryKey) (is_bulk : Bool) (H : History) (found : Option SeenKept)
    → found ≡ seen_kept (kept_under user key.number H)
    → earlier_by is_bulk key.mark (option_map (kept_seen (lines_of t.accounts)) found) ≡ earlier_of is_bulk (Some key)
    (kept_by t (Some user) H)
looked-up t user key is_bulk H found is =
    ap (earlier_by is_bulk key.mark)
    (ap (option_map (kept_seen (lines_of t.accounts))) is
    ∙ sym (found-kept (lines_of t.accounts) (kept_under user key.number H)))

-- nobody has anything under a number
pub nobodys : (t : Tables) (key : Option RetryKey) (is_bulk : Bool) (H : History)
    → earlier_of is_bulk key (kept_by t None H) ≡ Nothing
nobodys t None is_bulk H = refl
nobodys t (Some key) is_bulk H = refl

-- ---- a command by what is looked up

settled-by : {E : Type 0} (used : E) (is_bulk : Bool) (key : Option RetryKey) (kept : ℕ → Option KeptCall)
    (judgement : Result Drawn E)
    → settled used is_bulk key kept judgement ≡ outcome_by used (earlier_of is_bulk key kept) judgement
settled-by used is_bulk None kept judgement = refl
settled-by {E} used is_bulk (Some key) kept judgement = by (kept key.number)
  where
    by : (found : Option KeptCall) → settled_by used is_bulk key.mark found judgement
        ≡ outcome_by used (earlier_by is_bulk key.mark found) judgement
    by None = refl
    by (Some call) = of_mark (bytes_eq call.mark key.mark)
      where
        again : Outcome E
        again = Repeats (repeated_receipt is_bulk call)

        of_mark : (same : Bool) → cond same again (Judged (Err used))
            ≡ outcome_by used (cond same (Same (repeated_receipt is_bulk call)) Other) judgement
        of_mark true = refl
        of_mark false = refl

-- the tables of a legal history keep what it does
kept-by : (H : History) (t : Tables) → Legal H → t ≡ tables_of H → (caller : Option ℕ) (number : ℕ)
    → kept_of caller H number ≡ kept_by t caller H number
kept-by H t legal same None number = refl
kept-by H t legal same (Some user) number =
    ap (λ (accounts : List AccountLine). kept_call accounts (kept_under user number H))
    (accounts_of-tables H (Legal-fits H legal) ∙ ap (λ (x : Tables). lines_of x.accounts) (sym same))

module _ (H : History) (t : Tables) (legal : Legal H) (same : t ≡ tables_of H) where
  abbrev kept : Option ℕ → ℕ → Option KeptCall
  kept caller = kept_by t caller H

  seen : (caller : Option ℕ) → kept_in_view (view caller H) ≡ kept caller
  seen caller = kept-seen caller H ∙ (λ i number. kept-by H t legal same caller number i)

  -- so that is what a command comes to, and a bulk
  pub decided : (call : Call)
      → decide (view call.caller H) call ≡ outcome_by rules.NumberUsed (earlier_of false call.key (kept call.caller))
      (judge (view call.caller H) call)
  decided call =
      (λ i. settled rules.NumberUsed false call.key (seen call.caller i) (judge (view call.caller H) call))
      ∙ settled-by rules.NumberUsed false call.key (kept call.caller) (judge (view call.caller H) call)

  pub decided_bulk : (bulk : BulkCall)
      → decide_bulk (view (Some bulk.stamp.maker) H) bulk
      ≡ outcome_by (broken.Rule rules.NumberUsed) (earlier_of true bulk.stamp.key (kept (Some bulk.stamp.maker)))
      (judge_bulk (view (Some bulk.stamp.maker) H) bulk)
  decided_bulk bulk =
      (λ i. settled (broken.Rule rules.NumberUsed) true bulk.stamp.key (seen (Some bulk.stamp.maker) i)
      (judge_bulk (view (Some bulk.stamp.maker) H) bulk))
      ∙ settled-by (broken.Rule rules.NumberUsed) true bulk.stamp.key (kept (Some bulk.stamp.maker))
      (judge_bulk (view (Some bulk.stamp.maker) H) bulk)

-- ---- where nothing is found the number is new

is_same : (same : Bool) (receipt : Receipt) → cond same (Same receipt) Other ≡ Nothing → ⊥
is_same true receipt h = cc (h)
is_same false receipt h = cc (h)

pub new-number : (t : Tables) (H : History) (is_bulk : Bool) (user : ℕ) (key : Option RetryKey)
    → earlier_of is_bulk key (kept_by t (Some user) H) ≡ Nothing
    → IsNewKey H (Some user) key
new-number t H is_bulk user None none = tt
new-number t H is_bulk user (Some key) none = by (kept_under user key.number H) none
  where
    by : (group : History) → earlier_by is_bulk key.mark (kept_call (lines_of t.accounts) group) ≡ Nothing → group ≡ []
    by [] none = refl
    by (e ∷ es) none = absurd (is_same _ _ none)

pub new-key : (t : Tables) (H : History) (is_bulk : Bool) (caller : Option ℕ) (key : Option RetryKey)
    → IsKeyOf caller key
    → earlier_of is_bulk key (kept_by t caller H) ≡ Nothing → IsNewKey H caller key
new-key t H is_bulk caller None of none = tt
new-key t H is_bulk None (Some key) of none = absurd of
new-key t H is_bulk (Some user) (Some key) of none = new-number t H is_bulk user (Some key) none
