-- SPDX-License-Identifier: Apache-2.0 OR MIT
-- A wish that is accepted is a command or a bulk that is allowed and that Judge accepts; and such a one draws what it
-- adds.
use Rattle.std.proofs.Common.{Bool, true, false, ℕ, ◌≡◌, List, refl, ap, subst, ◌∙◌, Option, Some, None, Result, Ok}
use Rattle.cr_base.specs.declared.bulk.Broken.{Broken}
use Rattle.cr_base.specs.declared.bulk.Broken.TheVariants as broken
use Rattle.cr_base.specs.declared.bulk.BulkRow.{BulkRow}
use Rattle.cr_base.specs.declared.command.Command.{Command}
use Rattle.cr_base.specs.declared.reply.Rule.{Rule}
use Rattle.cr_base.specs.declared.reply.Rule.TheVariants as rules
use Rattle.cr_base.specs.declared.retry.RetryKey.{RetryKey}
use Rattle.cr_base.specs.Calls.{call_of, bulk_by}
use Rattle.cr_base.specs.Drawn.{Drawn}
use Rattle.cr_base.specs.History.{History}
use Rattle.cr_base.specs.HistoryFacts.{accounts_of}
use Rattle.cr_base.specs.Logins.{command_wants_login}
use Rattle.cr_base.specs.Retries.{Outcome, KeptCall, kept_call, kept_of, Judged, settled, drawn_by}
use Rattle.cr_policy.specs.Judge.{judge, decide, judge_bulk, decide_bulk}
use Rattle.cr_policy.specs.Legal.{CallsAs, IsCaller, IsNewKey, IsAllowed, IsBulkGiven, IsBulkAllowed}
use Rattle.cr_policy.specs.View.{view}
use Rattle.cr_policy.specs.ViewRetries.{kept_in_view}
use Rattle.cr_policy.proofs.DecideLaws.{decided-accepted, decided-bulk_accepted}
use Rattle.cr_policy.proofs.RetryLaws.{kept-seen}
use Rattle.cr_wire.specs.declared.what.What.{What}
use Rattle.cr_wire.specs.declared.what.What.TheVariants as whats
use Rattle.cr_wire.specs.declared.what.Wish.{Wish}
use Rattle.cr_wire.specs.Bounds.{IsBoundedWhat}
use Rattle.cr_wire.specs.Caller.{caller}
use Rattle.cr_session.specs.Told.{drawn, is_unauthorized}
use Rattle.cr_session.specs.Turning.{IsBoundedWish}
use Rattle.cr_session.proofs.TurnLaws.{MayWish, drawn-by, caller-command, caller-key, caller-bulk}

module _ (H : History) (w : Wish) (d : Drawn) where
  -- ---- what is accepted

  module _ (bounds : IsBoundedWish w) where
    pub bounds-of : (what : What) → w.what ≡ what → IsBoundedWhat what
    bounds-of what is = subst (λ (x : What). IsBoundedWhat x) is bounds.what

    pub command-accepted : (u : Option ℕ) (key : Option RetryKey) (command : Command)
        → MayWish H w u (whats.Command key command)
        → decide (view u H) (call_of u w.at key command) ≡ Judged (Ok d)
        → IsAllowed H (call_of u w.at key command) × (judge (view u H) (call_of u w.at key command) ≡ Ok d)
    command-accepted u key command may decided =
        let bound = bounds-of (whats.Command key command) may.is in
        let calls : IsCaller H u command = caller-command H w u key command may in
        decided-accepted H (call_of u w.at key command) d (record {
          caller = calls;
          bounded = bound.0;
          moment = bounds.moment;
          key = caller-key H u (command_wants_login command) key calls bound.1;
        }) decided

    pub bulk-accepted : (user : ℕ) (key : Option RetryKey) (rows : List BulkRow)
        → MayWish H w (Some user) (whats.Bulk key rows)
        → decide_bulk (view (Some user) H) (bulk_by user w.at key rows) ≡ Judged (Ok d)
        → IsBulkAllowed H (bulk_by user w.at key rows)
        × (judge_bulk (view (Some user) H) (bulk_by user w.at key rows) ≡ Ok d)
    bulk-accepted user key rows may decided =
        let given : IsBulkGiven H (bulk_by user w.at key rows) =
        caller-bulk H w (Some user) key rows may (bounds-of (whats.Bulk key rows) may.is) bounds.moment in
        decided-bulk_accepted H (bulk_by user w.at key rows) d given decided

  -- ---- what draws

  -- what has a new number, or none, is judged
  settled-new : {E : Type 0} (used : E) (bulk : Bool) (u : Option ℕ) (key : Option RetryKey)
      (judgement : Result Drawn E) → IsNewKey H u key
      → ◌≡◌ {A = Outcome E} (settled used bulk key (kept_in_view (view u H)) judgement) (Judged judgement)
  settled-new {E} used bulk u key judgement new =
      ap (λ (kept : ℕ → Option KeptCall). settled used bulk key kept judgement) (kept-seen u H) ∙ by u key new
    where
      by : (u : Option ℕ) (key : Option RetryKey) → IsNewKey H u key
          → ◌≡◌ {A = Outcome E} (settled used bulk key (kept_of u H) judgement) (Judged judgement)
      by u None new = refl
      by None (Some key) new = absurd new
      by (Some user) (Some key) new =
          ap (λ (es : History). settled used bulk (Some key) (λ n. kept_call (accounts_of H) es) judgement) new

  -- one who registers, or one who has, may give a command that she is to give
  caller-may : (u : Option ℕ) (key : Option RetryKey) (command : Command) → IsCaller H u command
      → is_unauthorized u (view u H) (whats.Command key command) ≡ false
  caller-may (Some user) key command calls = refl
  caller-may None key command calls = by (command_wants_login command) calls
    where
      by : (login : Bool) → CallsAs H login None → login ≡ false
      by false calls = refl
      by true calls = absurd calls

  pub command-draws : (u : Option ℕ) (key : Option RetryKey) (command : Command)
      → w.what ≡ whats.Command key command → u ≡ caller H w → IsAllowed H (call_of u w.at key command)
      → judge (view u H) (call_of u w.at key command) ≡ Ok d → drawn H w ≡ Some d
  command-draws u key command is calls allowed accepted =
      drawn-by H w u (whats.Command key command)
      (record { is = is; by = calls; may = caller-may u key command allowed.given.caller })
      ∙ ap (λ (o : Outcome Rule). drawn_by o)
      (settled-new rules.NumberUsed false u key (judge (view u H) (call_of u w.at key command)) allowed.unused
      ∙ ap (λ (r : Result Drawn Rule). Judged r) accepted)

  pub bulk-draws_it : (user : ℕ) (key : Option RetryKey) (rows : List BulkRow)
      → w.what ≡ whats.Bulk key rows → Some user ≡ caller H w → IsNewKey H (Some user) key
      → judge_bulk (view (Some user) H) (bulk_by user w.at key rows) ≡ Ok d → drawn H w ≡ Some d
  bulk-draws_it user key rows is calls new accepted =
      drawn-by H w (Some user) (whats.Bulk key rows) (record { is = is; by = calls; may = refl })
      ∙ ap (λ (o : Outcome Broken). drawn_by o)
      (settled-new (broken.Rule rules.NumberUsed) true (Some user) key
      (judge_bulk (view (Some user) H) (bulk_by user w.at key rows)) new
      ∙ ap (λ (r : Result Drawn Broken). Judged r) accepted)
