-- SPDX-License-Identifier: Apache-2.0 OR MIT
-- What a command and a bulk come to that may have a number: by the tables and what the history keeps of it as by the
-- caller's view; and what of them is accepted is allowed, so it leads on.
use Rattle.std.proofs.Common.{ℕ, Bool, true, false, cond, ◌≡◌, List, [], ◌∷◌, ◌++◌, refl, sym, ap, ◌∙◌, Option, Some}
use Rattle.std.proofs.Common.{None, Result, Ok, Err}
use Rattle.std.specs.Str.{bytes_eq}
use Rattle.cr_base.specs.declared.bulk.Broken.TheVariants as broken
use Rattle.cr_base.specs.declared.command.Call.{Call}
use Rattle.cr_base.specs.declared.reply.AccountLine.{AccountLine}
use Rattle.cr_base.specs.declared.reply.Rule.TheVariants as rules
use Rattle.cr_base.specs.declared.retry.RetryKey.{RetryKey}
use Rattle.cr_base.specs.Bulk.{bulk_by_role}
use Rattle.cr_base.specs.Calls.{BulkCall}
use Rattle.cr_base.specs.Drawn.{Drawn}
use Rattle.cr_base.specs.History.{History}
use Rattle.cr_base.specs.HistoryFacts.{accounts_of}
use Rattle.cr_base.specs.Judging.{judge_by_role}
use Rattle.cr_base.specs.Keys.{kept_under}
use Rattle.cr_base.specs.Retries.{KeptCall, kept_call, kept_of, repeated_receipt, Outcome, Repeats, Judged, settled_by}
use Rattle.cr_base.specs.Retries.{settled, drawn_by}
use Rattle.cr_base.specs.Tables.{tables_of}
use Rattle.cr_history.specs.Groups.{IsBoundedStamp}
use Rattle.cr_history.specs.Invariants.{IsRegistered}
use Rattle.cr_policy.specs.Judge.{judge, decide, judge_bulk, decide_bulk}
use Rattle.cr_policy.specs.Laws.{ViewSuffices}
use Rattle.cr_policy.specs.Legal.{IsKeyOf, IsNewKey, IsGiven, IsAllowed, IsBulkGiven, IsBulkAllowed, Legal}
use Rattle.cr_policy.specs.View.{view}
use Rattle.cr_policy.proofs.AcceptedLaws.{key-given}
use Rattle.cr_policy.proofs.LegalLaws.{Legal-judge, Legal-judge_bulk, Legal-answer, Legal-accepted, Legal-bulk_accepted}
use Rattle.cr_policy.proofs.RetryLaws.{kept-seen}

-- ---- by the tables

pub Legal-decide : (H : History) (call : Call) → Legal H
    → decide (view call.caller H) call ≡ settled rules.NumberUsed false call.key (kept_of call.caller H)
    (judge_by_role (tables_of H) call)
Legal-decide H call legal =
    λ i. settled rules.NumberUsed false call.key (kept-seen call.caller H i) (Legal-judge H call legal i)

pub Legal-decide_bulk : (H : History) (bulk : BulkCall) → Legal H → IsRegistered H bulk.stamp.maker
    → IsBoundedStamp bulk.stamp
    → decide_bulk (view (Some bulk.stamp.maker) H) bulk
    ≡ settled (broken.Rule rules.NumberUsed) true bulk.stamp.key (kept_of (Some bulk.stamp.maker) H)
    (bulk_by_role (tables_of H) bulk)
Legal-decide_bulk H bulk legal registered bounds =
    λ i. settled (broken.Rule rules.NumberUsed) true bulk.stamp.key (kept-seen (Some bulk.stamp.maker) H i)
    (Legal-judge_bulk H bulk legal registered bounds i)

pub view_suffices : ViewSuffices
view_suffices = record {
  commands = λ H call legal may. Legal-judge H call legal;
  bulks = λ H bulk legal registered bounds. Legal-judge_bulk H bulk legal registered bounds;
  outcomes = λ H call legal may. Legal-decide H call legal;
  bulk_outcomes = λ H bulk legal registered bounds. Legal-decide_bulk H bulk legal registered bounds;
  queries = λ u H query legal may. Legal-answer u H query legal;
}

-- ---- what is accepted

-- what draws was judged and accepted
pub drawn-judged : {E : Type 0} (outcome : Outcome E) (drawn : Drawn) → drawn_by outcome ≡ Some drawn
    → outcome ≡ Judged (Ok drawn)
drawn-judged (Repeats receipt) drawn is = cc
drawn-judged (Judged (Ok other)) drawn is = let same : other ≡ drawn = cc in ap (λ (d : Drawn). Judged (Ok d)) same
drawn-judged (Judged (Err refusal)) drawn is = cc

-- what was settled so was judged so, and nothing was kept of its number
module _ {E : Type 0} (used : E) (is_bulk : Bool) (drawn : Drawn) where
  judged-so : (judgement : Result Drawn E) → ◌≡◌ {A = Outcome E} (Judged judgement) (Judged (Ok drawn))
      → judgement ≡ Ok drawn
  judged-so judgement is = cc

  settled_by-drawn : (mark : List ℕ) (kept : Option KeptCall) (judgement : Result Drawn E)
      → settled_by used is_bulk mark kept judgement ≡ Judged (Ok drawn) → (kept ≡ None) × (judgement ≡ Ok drawn)
  settled_by-drawn mark None judgement is = (refl, judged-so judgement is)
  settled_by-drawn mark (Some kept) judgement is = absurd (by (bytes_eq kept.mark mark) is)
    where
      by : (b : Bool) → ◌≡◌ {A = Outcome E} (cond b (Repeats (repeated_receipt is_bulk kept)) (Judged (Err used)))
          (Judged (Ok drawn)) → ⊥
      by true is = cc
      by false is = cc

-- of a user nothing is kept where she has used it for nothing
kept-nothing : (accounts : List AccountLine) (es : History) → kept_call accounts es ≡ None → es ≡ []
kept-nothing accounts [] none = refl
kept-nothing accounts (e ∷ es) none = cc

module _ {E : Type 0} (used : E) (is_bulk : Bool) (drawn : Drawn) (H : History) where
  -- so its number was new
  settled-drawn : (caller : Option ℕ) (key : Option RetryKey) (judgement : Result Drawn E) → IsKeyOf caller key
      → settled used is_bulk key (kept_of caller H) judgement ≡ Judged (Ok drawn)
      → IsNewKey H caller key × (judgement ≡ Ok drawn)
  settled-drawn caller None judgement given is = (tt, judged-so used is_bulk drawn judgement is)
  settled-drawn None (Some key) judgement given is = absurd given
  settled-drawn (Some user) (Some key) judgement given is =
      let k = settled_by-drawn used is_bulk drawn key.mark (kept_of (Some user) H key.number) judgement is in
      (kept-nothing (accounts_of H) (kept_under user key.number H) k.0, k.1)

-- a command that comes to be accepted is allowed and accepted by Judge
pub decided-accepted : (H : History) (call : Call) (drawn : Drawn) → IsGiven H call
    → decide (view call.caller H) call ≡ Judged (Ok drawn)
    → IsAllowed H call × (judge (view call.caller H) call ≡ Ok drawn)
decided-accepted H call drawn given is =
    let k =
    settled-drawn rules.NumberUsed false drawn H call.caller call.key (judge (view call.caller H) call) given.key
    (sym
    (ap (λ (kept : ℕ → Option KeptCall). settled rules.NumberUsed false call.key kept
    (judge (view call.caller H) call)) (kept-seen call.caller H)) ∙ is) in
    (record { given = given; unused = k.0 }, k.1)

pub decided-bulk_accepted : (H : History) (bulk : BulkCall) (drawn : Drawn) → IsBulkGiven H bulk
    → decide_bulk (view (Some bulk.stamp.maker) H) bulk ≡ Judged (Ok drawn)
    → IsBulkAllowed H bulk × (judge_bulk (view (Some bulk.stamp.maker) H) bulk ≡ Ok drawn)
decided-bulk_accepted H bulk drawn given is =
    let user : Option ℕ = Some bulk.stamp.maker in
    let k = settled-drawn (broken.Rule rules.NumberUsed) true drawn H user bulk.stamp.key
    (judge_bulk (view user H) bulk) (key-given bulk.stamp.maker bulk.stamp.key given.key)
    (sym
    (ap (λ (kept : ℕ → Option KeptCall). settled (broken.Rule rules.NumberUsed) true bulk.stamp.key kept
    (judge_bulk (view user H) bulk)) (kept-seen user H)) ∙ is) in
    (record { given = given; unused = k.0 }, k.1)

-- and goes on a legal history
pub Legal-decided : (H : History) (call : Call) (drawn : Drawn) → Legal H → IsGiven H call
    → decide (view call.caller H) call ≡ Judged (Ok drawn) → Legal (H ++ drawn.group)
Legal-decided H call drawn legal given is =
    let k = decided-accepted H call drawn given is in Legal-accepted H call drawn legal k.0 k.1

pub Legal-bulk_decided : (H : History) (bulk : BulkCall) (drawn : Drawn) → Legal H → IsBulkGiven H bulk
    → decide_bulk (view (Some bulk.stamp.maker) H) bulk ≡ Judged (Ok drawn) → Legal (H ++ drawn.group)
Legal-bulk_decided H bulk drawn legal given is =
    let k = decided-bulk_accepted H bulk drawn given is in Legal-bulk_accepted H bulk drawn legal k.0 k.1
