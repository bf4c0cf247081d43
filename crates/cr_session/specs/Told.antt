-- SPDX-License-Identifier: Apache-2.0 OR MIT
-- What a wish is answered, and what it makes of the history. Both are functions of the wish, its caller and the
-- caller's view.
use Rattle.std.specs.Prelude.{ℕ, List, ◌++◌, Option, Some, None, Bool, false, if◌then◌else◌, Ok, Err}
use Rattle.cr_base.specs.declared.reply.Reply.{Reply}
use Rattle.cr_base.specs.declared.reply.Reply.TheVariants as replies
use Rattle.cr_base.specs.declared.reply.Rule.{Rule}
use Rattle.cr_base.specs.declared.bulk.Broken.{Broken}
use Rattle.cr_base.specs.declared.bulk.Broken.TheVariants as broken
use Rattle.cr_base.specs.History.{History}
use Rattle.cr_base.specs.Calls.{call_of, bulk_by, maker_of}
use Rattle.cr_base.specs.Drawn.{Drawn}
use Rattle.cr_base.specs.Retries.{Outcome, Repeats, Judged, drawn_by}
use Rattle.cr_policy.specs.Judge.{decide, decide_bulk, answer, needs_login}
use Rattle.cr_policy.specs.View.{View, view}
use Rattle.cr_print.specs.declared.sending.Sending.{Sending}
use Rattle.cr_print.specs.declared.refused.Refused.TheVariants as refused
use Rattle.cr_print.specs.Answers.{refusal_text, reply_text}
use Rattle.cr_wire.specs.declared.what.What.{What}
use Rattle.cr_wire.specs.declared.what.What.TheVariants.{NoRoute, WrongMethod, BadNumber, BadBody, BadQuery}
use Rattle.cr_wire.specs.declared.what.What.TheVariants.{Command, Bulk, Query}
use Rattle.cr_wire.specs.declared.what.Wish.{Wish}
use Rattle.cr_wire.specs.Caller.{caller, wants_login}

-- ---- what is answered

-- what becomes of a command, in the form for bulks, which may be refused for a row too
abbrev pub as_bulk : Outcome Rule → Outcome Broken
as_bulk (Repeats receipt) = Repeats receipt
as_bulk (Judged (Ok drawn)) = Judged (Ok drawn)
as_bulk (Judged (Err rule)) = Judged (Err (broken.Rule rule))

-- the reply to what breaks a rule: which rule, and of a bulk in which row, if one row breaks it
abbrev pub refusal_of : Broken → Reply
refusal_of (broken.Rule rule) = replies.Refused rule
refusal_of (broken.Row row rule) = replies.RowRefused row rule

-- the reply to a command or a bulk: its receipt, also if it repeats an accepted one, or the first rule that it breaks
abbrev pub reply_of : Outcome Broken → Reply
reply_of (Repeats receipt) = replies.Accepted receipt
reply_of (Judged (Ok drawn)) = replies.Accepted drawn.receipt
reply_of (Judged (Err refusal)) = refusal_of refusal

-- the caller is unauthenticated, and the wish requires authentication; of a query the caller's view says so, since what
-- is published is for everyone
abbrev pub is_unauthorized : Option ℕ → View → What → Bool
is_unauthorized None V (Query query) = needs_login V query
is_unauthorized None V what = wants_login what
is_unauthorized (Some user) V what = false

-- how the answer to a wish is sent: at the wish's timestamp, and whether the connection closes after it
abbrev pub sending_of : Wish → Bool → Sending
sending_of w close = record { is_head = w.is_head; closes = close; date = w.at }

-- the bytes of the answer to what a caller wishes at this timestamp, on the caller's view, if the caller may ask
abbrev pub served_to : Option ℕ → View → ℕ → Sending → What → List ℕ
served_to u V at sending NoRoute = refusal_text refused.NoRoute sending
served_to u V at sending (WrongMethod resource) = refusal_text (refused.WrongMethod resource) sending
served_to u V at sending (BadNumber ask) = refusal_text refused.BadNumber sending
served_to u V at sending (BadBody ask) = refusal_text refused.BadBody sending
served_to u V at sending (BadQuery ask offset) = refusal_text (refused.BadQuery offset) sending
served_to u V at sending (Command key command) =
    reply_text (reply_of (as_bulk (decide V (call_of u at key command)))) sending
served_to u V at sending (Bulk key rows) =
    reply_text (reply_of (decide_bulk V (bulk_by (maker_of u) at key rows))) sending
served_to u V at sending (Query query) = reply_text (answer u V query) sending

-- the bytes of the answer to what a caller wishes at this timestamp, on the caller's view: if authentication is
-- required, all unauthenticated callers get one answer
abbrev pub told_to : Option ℕ → View → ℕ → Sending → What → List ℕ
told_to u V at sending what =
    if is_unauthorized u V what then refusal_text refused.Unauthorized sending else served_to u V at sending what

-- the bytes of the answer to a wish, computed from its caller's view, with this sending
abbrev pub told_sent : History → Wish → Sending → List ℕ
told_sent H w sending = told_to (caller H w) (view (caller H w) H) w.at sending w.what

-- Told: the bytes of the answer to a wish, given whether the connection closes after it
unfoldable pub told : History → Wish → Bool → List ℕ
told H w close = told_sent H w (sending_of w close)

-- the bytes of the answer if what the wish adds was not stored
unfoldable pub unkept : Wish → Bool → List ℕ
unkept w close = refusal_text refused.KeeperFault (sending_of w close)

-- ---- what is added

-- what the wish of a caller who may ask draws at this timestamp: something if it is a command or a bulk that Judge
-- accepts; a repeat isn't judged, and draws nothing
abbrev pub drawn_of : Option ℕ → View → ℕ → What → Option Drawn
drawn_of u V at NoRoute = None
drawn_of u V at (WrongMethod resource) = None
drawn_of u V at (BadNumber ask) = None
drawn_of u V at (BadBody ask) = None
drawn_of u V at (BadQuery ask offset) = None
drawn_of u V at (Command key command) = drawn_by (decide V (call_of u at key command))
drawn_of u V at (Bulk key rows) = drawn_by (decide_bulk V (bulk_by (maker_of u) at key rows))
drawn_of u V at (Query query) = None

-- what a caller's wish draws: nothing if the caller is unauthenticated and authentication is required
abbrev pub drawn_for : Option ℕ → View → ℕ → What → Option Drawn
drawn_for u V at what = if is_unauthorized u V what then None else drawn_of u V at what

-- what a wish draws on this history
unfoldable pub drawn : History → Wish → Option Drawn
drawn H w = drawn_for (caller H w) (view (caller H w) H) w.at w.what

-- the history followed by the group that was drawn, if one was
abbrev pub and_drawn : History → Option Drawn → History
and_drawn H None = H
and_drawn H (Some d) = H ++ d.group

-- the history after a wish
abbrev pub after_wish : History → Wish → History
after_wish H w = and_drawn H (drawn H w)
