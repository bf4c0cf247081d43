-- SPDX-License-Identifier: Apache-2.0 OR MIT
-- What one turn does is what Told and Step say.
use Rattle.std.proofs.Common.{◌≡◌, ◌∙◌, ℕ, Bool, List, true, false, cond, Option, Some, None, Ok, Err, refl, sym, ap}
use Rattle.std.proofs.Common.{subst, append-nil, IsSome, [], ◌≤◌, arith}
use mathlib.Core.List.{IsPrefix}
use Rattle.std.proofs.lemmas.Bool.{true≢false}
use Rattle.cr_base.specs.declared.command.Command.TheVariants.{Register, Tag}
use Rattle.cr_base.specs.declared.ask.Ask.{Ask}
use Rattle.cr_routes.specs.declared.resource.Resource.{Resource}
use Rattle.cr_policy.specs.Legal.{IsCaller, IsUser, CallsAs, IsKeyOf, MayAsk}
use Rattle.cr_base.specs.declared.bulk.Broken.{Broken}
use Rattle.cr_base.specs.declared.bulk.Broken.TheVariants as broken
use Rattle.cr_base.specs.declared.bulk.BulkRow.{BulkRow}
use Rattle.cr_base.specs.declared.command.Command.{Command}
use Rattle.cr_base.specs.declared.command.Query.{Query}
use Rattle.cr_base.specs.declared.reply.Receipt.{Receipt}
use Rattle.cr_base.specs.declared.reply.Rule.{Rule}
use Rattle.cr_base.specs.declared.retry.RetryKey.{RetryKey}
use Rattle.cr_base.specs.History.{History}
use Rattle.cr_base.specs.Calls.{call_of, bulk_by, maker_of}
use Rattle.cr_base.specs.Moments.{IsMoment}
use Rattle.cr_base.specs.Drawn.{Drawn}
use Rattle.cr_base.specs.Logins.{command_wants_login}
use Rattle.cr_base.specs.Bulk.{IsBoundedBulk}
use Rattle.cr_base.specs.Keys.{IsKeyOrNone}
use Rattle.cr_base.specs.Retries.{Outcome, Repeats, Judged, drawn_by}
use Rattle.cr_policy.specs.Judge.{decide, decide_bulk, answer, needs_login}
use Rattle.cr_policy.specs.View.{view}
use Rattle.cr_policy.proofs.LegalLaws.{Legal-caller_registered}
use Rattle.cr_bodies.specs.declared.credentials.Credentials.{Credentials}
use Rattle.cr_print.specs.declared.sending.Sending.{Sending}
use Rattle.cr_print.specs.declared.refused.Refused.{Refused}
use Rattle.cr_print.specs.declared.refused.Refused.TheVariants as refused
use Rattle.cr_print.specs.Answers.{refusal_text, receipt_text, reply_text}
use Rattle.cr_wire.specs.declared.what.What.{What}
use Rattle.cr_wire.specs.declared.what.What.TheVariants as whats
use Rattle.cr_wire.specs.declared.what.Wish.{Wish}
use Rattle.cr_wire.specs.Bounds.{IsKeyFor}
use Rattle.cr_wire.specs.Caller.{caller, wants_login, user_told}
use Rattle.cr_book.specs.Sound.{Acts}
use Rattle.cr_session.specs.declared.turn.TurnResult.{TurnResult}
use Rattle.cr_session.specs.declared.turn.TurnResult.TheVariants as turns
use Rattle.cr_session.specs.Told.{sending_of, told, told_sent, told_to, served_to, as_bulk, is_unauthorized, refusal_of}
use Rattle.cr_session.specs.Told.{reply_of, drawn, drawn_for, drawn_of, and_drawn}
use Rattle.cr_session.specs.Replay.{Ledger}
use Rattle.cr_session.specs.Turning.{Turns, AnswersWish, IsBulkCaller, JudgesChange, refused_for, AnswersQuery}
use Rattle.cr_session.specs.Turning.{WantsRoom, MayWantFor, MayWantMemory}
use Rattle.cr_print.specs.Answers.{IsBrief}
use Rattle.cr_base.specs.declared.reply.Reply.{Reply}
use Rattle.cr_base.specs.declared.reply.Reply.TheVariants as replies

-- what a wish is, who gives it, and that she may
pub record MayWish (H : History) (w : Wish) (u : Option ℕ) (what : What) : Type 0 where
  pub is : w.what ≡ what
  pub by : u ≡ caller H w
  pub may : is_unauthorized u (view u H) what ≡ false

-- the same by a test of what is wished
pub may-wish : (H : History) (w : Wish) (u : Option ℕ) (what : What) (test : Bool) → w.what ≡ what → u ≡ caller H w
    → test ≡ is_unauthorized u (view u H) w.what → test ≡ false → MayWish H w u what
may-wish H w u what test is by tested passed =
    record { is = is; by = by; may = ap (λ (x : What). is_unauthorized u (view u H) x) (sym is) ∙ sym tested ∙ passed }

-- what a wish is told, by what it is and who gives it
pub sent-by : (H : History) (w : Wish) (u : Option ℕ) (what : What) (sending : Sending) → MayWish H w u what
    → told_sent H w sending ≡ served_to u (view u H) w.at sending what
sent-by H w u what sending wishes =
    ap (told_to (caller H w) (view (caller H w) H) w.at sending) wishes.is
    ∙ ap (λ v. told_to v (view v H) w.at sending what) (sym wishes.by)
    ∙ ap (λ b. cond b (refusal_text refused.Unauthorized sending) (served_to u (view u H) w.at sending what)) wishes.may

pub told-by : (H : History) (w : Wish) (u : Option ℕ) (what : What) (close : Bool) → MayWish H w u what
    → told H w close ≡ served_to u (view u H) w.at (sending_of w close) what
unfolding told
told-by H w u what close wishes = sent-by H w u what (sending_of w close) wishes

pub drawn-by : (H : History) (w : Wish) (u : Option ℕ) (what : What) → MayWish H w u what
    → drawn H w ≡ drawn_of u (view u H) w.at what
unfolding drawn
drawn-by H w u what wishes =
    ap (drawn_for (caller H w) (view (caller H w) H) w.at) wishes.is
    ∙ ap (λ v. drawn_for v (view v H) w.at what) (sym wishes.by)
    ∙ ap (λ b. cond b None (drawn_of u (view u H) w.at what)) wishes.may

-- who wishes it may, and it wants room
may-want : (H : History) (w : Wish) (u : Option ℕ) (what : What) → MayWish H w u what → WantsRoom u (view u H) w.at what
    → MayWantMemory H w
may-want H w u what wishes wants =
    subst (λ (v : Option ℕ). MayWantFor v (view v H) w.at w.what) wishes.by
    (subst (λ (x : What). MayWantFor u (view u H) w.at x) (sym wishes.is) (wishes.may, wants))

-- ---- nobody, where a login is wanted

pub unauthorized : (w : Wish) (b : Ledger) (u : Option ℕ) → u ≡ caller b.history w
    → is_unauthorized u (view u b.history) w.what ≡ true
    → AnswersWish (turns.Refused refused.Unauthorized) w b b
unfolding told drawn
unauthorized w b u by is =
    let old : History = b.history in
    let now : is_unauthorized (caller old w) (view (caller old w) old) w.what ≡ true =
    ap (λ v. is_unauthorized v (view v old) w.what) (sym by) ∙ is in
    record {
      told_is = λ close. sym (ap (λ t. cond t (refusal_text refused.Unauthorized (sending_of w close))
          (served_to (caller old w) (view (caller old w) old) w.at (sending_of w close) w.what)) now);
      stepped =
          sym (ap (λ t. and_drawn old (cond t None (drawn_of (caller old w) (view (caller old w) old) w.at w.what)))
          now);
      steady = refl;
    }

-- and nothing is drawn then
pub unauthorized-draws : (w : Wish) (H : History) (u : Option ℕ) → u ≡ caller H w
    → is_unauthorized u (view u H) w.what ≡ true → drawn H w ≡ None
unfolding drawn
unauthorized-draws w H u by is =
    ap (λ t. cond t None (drawn_of (caller H w) (view (caller H w) H) w.at w.what))
    (ap (λ v. is_unauthorized v (view v H) w.what) (sym by) ∙ is)

-- ---- what is no command and no query

-- a wish that is told a refusal, and adds nothing
refused-turn : (r : Refused) (w : Wish) (u : Option ℕ) (what : What) (b : Ledger) → MayWish b.history w u what
    → ((close : Bool) → refusal_text r (sending_of w close) ≡ served_to u (view u b.history) w.at (sending_of w close)
    what) → drawn_of u (view u b.history) w.at what ≡ None
    → AnswersWish (turns.Refused r) w b b
refused-turn r w u what b wishes text none = record {
  told_is = λ close. text close ∙ sym (told-by b.history w u what close wishes);
  stepped = sym (ap (and_drawn b.history) (drawn-by b.history w u what wishes ∙ none));
  steady = refl;
}

pub no_route : (w : Wish) (u : Option ℕ) (b : Ledger) → MayWish b.history w u whats.NoRoute
    → AnswersWish (turns.Refused refused.NoRoute) w b b
no_route w u b wishes = refused-turn refused.NoRoute w u whats.NoRoute b wishes (λ close. refl) refl

pub wrong_method : (w : Wish) (u : Option ℕ) (b : Ledger) (resource : Resource)
    → MayWish b.history w u (whats.WrongMethod resource)
    → AnswersWish (turns.Refused (refused.WrongMethod resource)) w b b
wrong_method w u b resource wishes =
    refused-turn (refused.WrongMethod resource) w u (whats.WrongMethod resource) b wishes (λ close. refl) refl

pub bad_number : (w : Wish) (u : Option ℕ) (b : Ledger) (ask : Ask) → MayWish b.history w u (whats.BadNumber ask)
    → AnswersWish (turns.Refused refused.BadNumber) w b b
bad_number w u b ask wishes = refused-turn refused.BadNumber w u (whats.BadNumber ask) b wishes (λ close. refl) refl

pub bad_body : (w : Wish) (u : Option ℕ) (b : Ledger) (ask : Ask) → MayWish b.history w u (whats.BadBody ask)
    → AnswersWish (turns.Refused refused.BadBody) w b b
bad_body w u b ask wishes = refused-turn refused.BadBody w u (whats.BadBody ask) b wishes (λ close. refl) refl

pub bad_query : (w : Wish) (u : Option ℕ) (b : Ledger) (ask : Ask) (offset : ℕ)
    → MayWish b.history w u (whats.BadQuery ask offset)
    → AnswersWish (turns.Refused (refused.BadQuery offset)) w b b
bad_query w u b ask offset wishes =
    refused-turn (refused.BadQuery offset) w u (whats.BadQuery ask offset) b wishes (λ close. refl) refl

-- ---- commands and bulks

-- what a command draws, it draws as a bulk too
drawn_by-as_bulk : (outcome : Outcome Rule) → drawn_by outcome ≡ drawn_by (as_bulk outcome)
drawn_by-as_bulk (Repeats receipt) = refl
drawn_by-as_bulk (Judged (Ok drawn)) = refl
drawn_by-as_bulk (Judged (Err rule)) = refl

-- a refusal's bytes are those of its reply
refusal-told : (refusal : Broken) (sending : Sending)
    → refusal_text (refused_for refusal) sending ≡ reply_text (refusal_of refusal) sending
refusal-told (broken.Rule rule) sending = sym (append-nil (refusal_text (refused.Rule rule) sending))
refusal-told (broken.Row row rule) sending = sym (append-nil (refusal_text (refused.Row row rule) sending))

-- and so are a receipt's, of what was judged as of what repeats another
receipt-told : (receipt told : Receipt) (sending : Sending) → receipt ≡ told
    → receipt_text receipt sending ≡ reply_text (replies.Accepted told) sending
receipt-told receipt told sending is =
    ap (λ x. receipt_text x sending) is ∙ sym (append-nil (receipt_text told sending))

acts-told : (outcome : Outcome Broken) (H H' : History) (receipt : Receipt) (sending : Sending)
    → Acts outcome H H' receipt
    → receipt_text receipt sending ≡ reply_text (reply_of outcome) sending
acts-told (Repeats repeated) H H' receipt sending a = receipt-told receipt repeated sending a.0
acts-told (Judged (Ok drawn)) H H' receipt sending a = receipt-told receipt drawn.receipt sending a.0
acts-told (Judged (Err refusal)) H H' receipt sending a = absurd a

acts-adds : (outcome : Outcome Broken) (H H' : History) (receipt : Receipt) → Acts outcome H H' receipt
    → H' ≡ and_drawn H (drawn_by outcome)
acts-adds (Repeats repeated) H H' receipt a = a.1
acts-adds (Judged (Ok drawn)) H H' receipt a = a.1
acts-adds (Judged (Err refusal)) H H' receipt a = absurd a

-- what a command does, it does as a bulk too
pub acts-as_bulk : (outcome : Outcome Rule) (H H' : History) (receipt : Receipt) → Acts outcome H H' receipt
    → Acts (as_bulk outcome) H H' receipt
acts-as_bulk (Repeats repeated) H H' receipt a = a
acts-as_bulk (Judged (Ok drawn)) H H' receipt a = a
acts-as_bulk (Judged (Err rule)) H H' receipt a = absurd a

pub draws-as_bulk : (outcome : Outcome Rule) → IsSome (drawn_by outcome) → IsSome (drawn_by (as_bulk outcome))
draws-as_bulk outcome some = subst (λ (o : Option Drawn). IsSome o) (drawn_by-as_bulk outcome) some

-- a wish that comes to this, where that is what she who wishes it is served, and what it draws
pub change-turn : (turn : TurnResult) (w : Wish) (u : Option ℕ) (what : What) (outcome : Outcome Broken) (b b' : Ledger)
    → MayWish b.history w u what
    → ((sending : Sending) → served_to u (view u b.history) w.at sending what ≡ reply_text (reply_of outcome) sending)
    → drawn_of u (view u b.history) w.at what ≡ drawn_by outcome
    → (IsSome (drawn_of u (view u b.history) w.at what) → WantsRoom u (view u b.history) w.at what)
    → JudgesChange turn outcome b b' → Turns turn w b b'
change-turn (turns.Refused r) w u what outcome b b' wishes served draws wants j = record {
  told_is = λ close.
      let sending : Sending = sending_of w close in
      ap (λ x. refusal_text x sending) j.refused_is ∙ refusal-told j.refusal sending
      ∙ ap (λ x. reply_text (reply_of x) sending) (sym j.outcome_is) ∙ sym (served sending)
      ∙ sym (told-by b.history w u what close wishes);
  stepped = ap (λ (x : Ledger). x.history) j.same
      ∙ sym (ap (and_drawn b.history) (drawn-by b.history w u what wishes ∙ draws ∙ ap drawn_by j.outcome_is));
  steady = ap (λ (x : Ledger). x.faults) j.same;
}
change-turn (turns.Accepted receipt) w u what outcome b b' wishes served draws wants j = record {
  told_is = λ close.
      let sending : Sending = sending_of w close in
      acts-told outcome b.history b'.history receipt sending j.0 ∙ sym (served sending)
      ∙ sym (told-by b.history w u what close wishes);
  stepped = acts-adds outcome b.history b'.history receipt j.0
      ∙ sym (ap (and_drawn b.history) (drawn-by b.history w u what wishes ∙ draws));
  steady = j.1;
}
change-turn (turns.Answered reply) w u what outcome b b' wishes served draws wants j = absurd j
change-turn turns.Lost w u what outcome b b' wishes served draws wants j = (
  subst (λ (o : Option Drawn). IsSome o) (sym (drawn-by b.history w u what wishes ∙ draws)) j.0,
  j.1,
  j.2,
)
change-turn turns.OutOfMemory w u what outcome b b' wishes served draws wants j =
    (j.0, may-want b.history w u what wishes (wants (subst (λ (o : Option Drawn). IsSome o) (sym draws) j.1)))

pub command-turn : (turn : TurnResult) (w : Wish) (u : Option ℕ) (key : Option RetryKey) (command : Command)
    (b b' : Ledger)
    → MayWish b.history w u (whats.Command key command)
    → JudgesChange turn (as_bulk (decide (view u b.history) (call_of u w.at key command))) b b' → Turns turn w b b'
command-turn turn w u key command b b' wishes j =
    let outcome : Outcome Rule = decide (view u b.history) (call_of u w.at key command) in
    change-turn turn w u (whats.Command key command) (as_bulk outcome) b b' wishes (λ sending. refl)
    (drawn_by-as_bulk outcome) (λ some. some) j

pub bulk-turn : (turn : TurnResult) (w : Wish) (u : Option ℕ) (key : Option RetryKey) (rows : List BulkRow)
    (b b' : Ledger)
    → MayWish b.history w u (whats.Bulk key rows)
    → JudgesChange turn (decide_bulk (view u b.history) (bulk_by (maker_of u) w.at key rows)) b b' → Turns turn w b b'
bulk-turn turn w u key rows b b' wishes j =
    change-turn turn w u (whats.Bulk key rows) (decide_bulk (view u b.history) (bulk_by (maker_of u) w.at key rows)) b
    b' wishes (λ sending. refl) refl
    (λ some. some) j

-- ---- queries

-- an answer that is no brief one is no refusal
not_refused : (reply told : Reply) (rule : Rule) → (IsBrief reply → ⊥) → reply ≡ told → told ≡ replies.Refused rule → ⊥
not_refused reply told rule long is e = long (subst IsBrief (sym (is ∙ e)) tt)

pub query-turn : (turn : TurnResult) (w : Wish) (u : Option ℕ) (query : Query) (b : Ledger)
    → MayWish b.history w u (whats.Query query)
    → AnswersQuery turn u query b.history → Turns turn w b b
query-turn (turns.Refused r) w u query b wishes j = absurd j
query-turn (turns.Accepted receipt) w u query b wishes j = absurd j
query-turn (turns.Answered reply) w u query b wishes j = (
  record {
    told_is = λ close. ap (λ x. reply_text x (sending_of w close)) j
        ∙ sym (told-by b.history w u (whats.Query query) close wishes);
    stepped = sym (ap (and_drawn b.history) (drawn-by b.history w u (whats.Query query) wishes));
    steady = refl;
  },
  refl,
  λ long. may-want b.history w u (whats.Query query) wishes
      (λ rule other e. not_refused reply (answer u (view u b.history) query) rule long j e),
)
query-turn turns.Lost w u query b wishes j = absurd j
query-turn turns.OutOfMemory w u query b wishes j = (refl, may-want b.history w u (whats.Query query) wishes j)

-- ---- who calls

told-user : (told : Option Credentials) (H : History) (v : ℕ) → user_told told H ≡ Some v → IsUser H (Some v)
told-user None H v e = absurd (cc)
told-user (Some c) H v e = Legal-caller_registered c.name c.digest H v e

reads-user : (b : Bool) (told : Option Credentials) (H : History) (v : ℕ) → cond b (user_told told H) None ≡ Some v
    → IsUser H (Some v)
reads-user true told H v e = told-user told H v e
reads-user false told H v e = absurd (cc)

-- a caller has registered
caller-registered : (H : History) (w : Wish) (v : ℕ) → caller H w ≡ Some v → IsUser H (Some v)
caller-registered H w v e = reads-user (wants_login w.what) w.credentials H v e

-- who asks a query has registered, where it wants a login
pub may-query : (H : History) (w : Wish) (u : Option ℕ) (query : Query) → MayWish H w u (whats.Query query)
    → MayAsk H (needs_login (view None H) query) u
may-query H w None query wishes = wishes.may
may-query H w (Some v) query wishes = caller-registered H w v (sym wishes.by)

-- who gives a command that wants a login has registered
is-user : (H : History) (w : Wish) (u : Option ℕ) (key : Option RetryKey) (command : Command)
    → command_wants_login command ≡ true
    → MayWish H w u (whats.Command key command) → IsUser H u
is-user H w None key command wants wishes = absurd (true≢false (sym wants ∙ wishes.may))
is-user H w (Some v) key command wants wishes = caller-registered H w v (sym wishes.by)

-- nobody registers, and every other command is a registered user's
pub caller-command : (H : History) (w : Wish) (u : Option ℕ) (key : Option RetryKey) (command : Command)
    → MayWish H w u (whats.Command key command)
    → IsCaller H u command
caller-command H w u key (Register name digest) wishes =
    wishes.by ∙ ap (λ (x : What). cond (wants_login x) (user_told w.credentials H) None) wishes.is
caller-command H w u key (Tag paper tag true) wishes = is-user H w u key (Tag paper tag true) refl wishes
caller-command H w u key (Tag paper tag false) wishes = is-user H w u key (Tag paper tag false) refl wishes
caller-command H w u key command wishes = is-user H w u key command refl wishes

-- and so is every key
pub caller-key : (H : History) (u : Option ℕ) (login : Bool) (key : Option RetryKey) → CallsAs H login u
    → IsKeyFor login key → IsKeyOf u key
caller-key H u false key calls bounded = subst (λ (k : Option RetryKey). IsKeyOf u k) (sym bounded) tt
caller-key H None true key calls bounded = absurd calls
caller-key H (Some v) true None calls bounded = tt
caller-key H (Some v) true (Some key) calls bounded = bounded

-- a bulk is a registered user's
pub caller-bulk : (H : History) (w : Wish) (u : Option ℕ) (key : Option RetryKey) (rows : List BulkRow)
    → MayWish H w u (whats.Bulk key rows)
    → IsBoundedBulk rows × IsKeyOrNone key → IsMoment w.at → IsBulkCaller H u w.at key rows
caller-bulk H w None key rows wishes bounded moment = absurd (true≢false wishes.may)
caller-bulk H w (Some user) key rows wishes bounded moment =
    record {
      caller = caller-registered H w user (sym wishes.by);
      bounded = bounded.0;
      moment = moment;
      key = bounded.1;
    }

-- ---- what a turn leaves

drawn-behind : (H : History) (o : Option Drawn) → IsPrefix H (and_drawn H o)
drawn-behind H None = ([], append-nil H)
drawn-behind H (Some d) = (d.group, refl)

-- it only adds to the history, and the count of faults never falls
abbrev pub Grows : Ledger → Ledger → Type 0
Grows b b' = IsPrefix b.history b'.history × (b.faults ≤ b'.faults)

answered-grows : (turn : TurnResult) (w : Wish) (b b' : Ledger) → AnswersWish turn w b b' → Grows b b'
answered-grows turn w b b' a =
    let steady : b'.faults ≡ b.faults = a.steady in (
      subst (λ (H : History). IsPrefix b.history H) (sym a.stepped) (drawn-behind b.history (drawn b.history w)),
      omega (arith, steady),
    )

same-grows : (b b' : Ledger) → b' ≡ b → Grows b b'
same-grows b b' is = subst (λ (l : Ledger). Grows b l) (sym is) (([], append-nil b.history), omega arith)

pub turns_grow : (turn : TurnResult) (w : Wish) (b b' : Ledger) → Turns turn w b b' → Grows b b'
turns_grow (turns.Refused r) w b b' t = answered-grows (turns.Refused r) w b b' t
turns_grow (turns.Accepted receipt) w b b' t = answered-grows (turns.Accepted receipt) w b b' t
turns_grow (turns.Answered reply) w b b' t = answered-grows (turns.Answered reply) w b b' t.0
turns_grow turns.Lost w b b' t =
    (subst (λ (H : History). IsPrefix b.history H) (sym t.1) ([], append-nil b.history), t.2.0)
turns_grow turns.OutOfMemory w b b' t = same-grows b b' t.0
