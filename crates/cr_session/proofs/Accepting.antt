-- SPDX-License-Identifier: Apache-2.0 OR MIT
-- What a wish is that draws something: a command or a bulk that is judged and accepted.
use Rattle.std.proofs.Common.{ℕ, Bool, true, false, cond, ◌≡◌, List, refl, ap, ◌∙◌, Option, Some, None, Result, Ok, Err}
use Rattle.std.proofs.lemmas.Slice.Eq.{bytes_eq-Decides}
use Rattle.cr_base.specs.declared.bulk.Broken.{Broken}
use Rattle.cr_base.specs.declared.bulk.BulkRow.{BulkRow}
use Rattle.cr_base.specs.declared.command.Command.{Command}
use Rattle.cr_base.specs.declared.reply.Reply.TheVariants as replies
use Rattle.cr_base.specs.declared.reply.Rule.{Rule}
use Rattle.cr_base.specs.declared.retry.RetryKey.{RetryKey}
use Rattle.cr_base.specs.Calls.{call_of, bulk_by, maker_of}
use Rattle.cr_base.specs.Drawn.{Drawn}
use Rattle.cr_base.specs.History.{History}
use Rattle.cr_base.specs.Retries.{KeptCall, repeated_receipt, Outcome, Repeats, Judged, settled_by, settled}
use Rattle.cr_policy.specs.Judge.{decide, decide_bulk}
use Rattle.cr_policy.specs.View.{View, view}
use Rattle.cr_policy.proofs.DecideLaws.{drawn-judged}
use Rattle.cr_print.specs.declared.sending.Sending.{Sending}
use Rattle.cr_print.specs.Answers.{reply_text}
use Rattle.cr_wire.specs.declared.what.What.{What}
use Rattle.cr_wire.specs.declared.what.What.TheVariants as whats
use Rattle.cr_wire.specs.declared.what.Wish.{Wish}
use Rattle.cr_wire.specs.Caller.{caller}
use Rattle.cr_session.specs.Told.{told_sent, as_bulk, reply_of, is_unauthorized, drawn, drawn_of}
use Rattle.cr_session.proofs.TurnLaws.{MayWish, sent-by}

-- it is a command, or a bulk, that comes to this
pub data Accepts (H : History) (w : Wish) (u : Option ℕ) (d : Drawn) : Type 0 where
  by_command : (key : Option RetryKey) (command : Command) → MayWish H w u (whats.Command key command)
      → decide (view u H) (call_of u w.at key command) ≡ Judged (Ok d) → Accepts H w u d
  by_bulk : (key : Option RetryKey) (rows : List BulkRow) → MayWish H w u (whats.Bulk key rows)
      → decide_bulk (view u H) (bulk_by (maker_of u) w.at key rows) ≡ Judged (Ok d) → Accepts H w u d

pub wish-draws : (H : History) (w : Wish) (d : Drawn) → drawn H w ≡ Some d → Accepts H w (caller H w) d
unfolding drawn
wish-draws H w d is = by w.what refl (is_unauthorized u V w.what) refl is
  where
    u : Option ℕ
    u = caller H w

    V : View
    V = view u H

    none : {A : Type 0} → None ≡ Some d → A
    none e = absurd (cc (e))

    by : (what : What) → w.what ≡ what → (b : Bool) → is_unauthorized u V what ≡ b
        → cond b None (drawn_of u V w.at what) ≡ Some d → Accepts H w u d
    by what at true test e = none e
    by (whats.Command key command) at false test e =
        by_command key command (record { is = at; by = refl; may = test })
        (drawn-judged (decide V (call_of u w.at key command)) d e)
    by (whats.Bulk key rows) at false test e =
        by_bulk key rows (record { is = at; by = refl; may = test })
        (drawn-judged (decide_bulk V (bulk_by (maker_of u) w.at key rows)) d e)
    by whats.NoRoute at false test e = none e
    by (whats.WrongMethod resource) at false test e = none e
    by (whats.BadNumber ask) at false test e = none e
    by (whats.BadBody ask) at false test e = none e
    by (whats.BadQuery ask offset) at false test e = none e
    by (whats.Query query) at false test e = none e

-- and it is told its receipt
pub accepted-sent : (H : History) (w : Wish) (u : Option ℕ) (d : Drawn) (sending : Sending) → Accepts H w u d
    → told_sent H w sending ≡ reply_text (replies.Accepted d.receipt) sending
accepted-sent H w u d sending (by_command key command may decided) =
    sent-by H w u (whats.Command key command) sending may
    ∙ ap (λ (o : Outcome Rule). reply_text (reply_of (as_bulk o)) sending) decided
accepted-sent H w u d sending (by_bulk key rows may decided) =
    sent-by H w u (whats.Bulk key rows) sending may
    ∙ ap (λ (o : Outcome Broken). reply_text (reply_of o) sending) decided

-- where the same mark is kept under the number, what is given repeats what left that
pub settled-repeats : {E : Type 0} (used : E) (bulk : Bool) (key : RetryKey) (kept : ℕ → Option KeptCall)
    (judgement : Result Drawn E) (k : KeptCall)
    → kept key.number ≡ Some k → k.mark ≡ key.mark
    → ◌≡◌ {A = Outcome E} (settled used bulk (Some key) kept judgement) (Repeats (repeated_receipt bulk k))
settled-repeats used bulk key kept judgement k is mark =
    ap (λ (o : Option KeptCall). settled_by used bulk key.mark o judgement) is
    ∙ ap (λ (b : Bool). cond b (Repeats (repeated_receipt bulk k)) (Judged (Err used)))
    ((bytes_eq-Decides k.mark key.mark).1 mark)
