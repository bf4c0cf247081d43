-- SPDX-License-Identifier: Apache-2.0 OR MIT
-- What one turn and one request do.
use mathlib.Core.List.{IsPrefix}
use Rattle.std.specs.Prelude.{◌≡◌, ℕ, List, [], ◌∷◌, Bool, true, false}
use Rattle.std.specs.Prelude.{Option, Some, None, IsSome, Err}
use Rattle.cr_base.specs.declared.bulk.Broken.{Broken}
use Rattle.cr_base.specs.declared.bulk.Broken.TheVariants as broken
use Rattle.cr_base.specs.declared.bulk.BulkRow.{BulkRow}
use Rattle.cr_base.specs.declared.command.Query.{Query}
use Rattle.cr_base.specs.declared.retry.RetryKey.{RetryKey}
use Rattle.cr_base.specs.Answering.{MayTakeMemory}
use Rattle.cr_base.specs.Calls.{call_of, bulk_by, maker_of}
use Rattle.cr_base.specs.Moments.{IsMoment}
use Rattle.cr_base.specs.Drawn.{Drawn}
use Rattle.cr_base.specs.Retries.{Outcome, Judged, drawn_by}
use Rattle.cr_policy.specs.Judge.{decide, decide_bulk, answer}
use Rattle.cr_policy.specs.Legal.{IsBulkGiven}
use Rattle.cr_policy.specs.View.{View, view}
use Rattle.cr_base.specs.History.{History}
use Rattle.cr_book.specs.Seen.{SeenBook}
use Rattle.cr_book.specs.Sound.{Acts}
use Rattle.cr_print.specs.declared.sending.Sending.{Sending}
use Rattle.cr_print.specs.declared.refused.Refused.{Refused}
use Rattle.cr_print.specs.declared.refused.Refused.TheVariants as refused
use Rattle.cr_print.specs.Answers.{IsBrief, refusal_text, receipt_text, reply_text, front_text, block_text}
use Rattle.cr_wire.specs.declared.what.What.{What}
use Rattle.cr_wire.specs.declared.what.What.TheVariants as whats
use Rattle.cr_wire.specs.declared.what.Wish.{Wish}
use Rattle.cr_wire.specs.Bounds.{IsBoundedWhat}
use Rattle.cr_wire.specs.Caller.{caller}
use Rattle.cr_session.specs.declared.turn.TurnResult.{TurnResult}
use Rattle.cr_session.specs.declared.turn.TurnResult.TheVariants as turns
use Rattle.cr_session.specs.declared.serve.RequestOutcome.{RequestOutcome}
use Rattle.cr_session.specs.declared.serve.RequestOutcome.TheVariants as served
use Rattle.cr_session.specs.Told.{sending_of, told, is_unauthorized, drawn, after_wish}
use Rattle.cr_lock.specs.Passes.{IsAsLeft, after_turn}
use Rattle.cr_session.specs.Replay.{JudgedWish, Ledger, CountsLoss, answer_to, ledger_of}
use Rattle.cr_session.specs.Tries.{Tries, Nothing, kept_of, lost_of}
use Rattle.cr_session.specs.Passing.{KnownPass, TakesTurn}
use Rattle.cr_ports.specs.Writing.{Outlet, WritesAnswers, AnswerBreaksOff}
use Rattle.cr_wire.specs.Wishes.{closes}

-- ---- one turn

-- a wish's command and its number are within their bounds, and so is its timestamp
pub record IsBoundedWish (w : Wish) : Type 0 where
  pub what : IsBoundedWhat w.what
  pub moment : IsMoment w.at

-- the bytes of the answer, by what the turn came to
abbrev pub turn_text : TurnResult → Sending → List ℕ
turn_text (turns.Refused refused) sending = refusal_text refused sending
turn_text (turns.Accepted receipt) sending = receipt_text receipt sending
turn_text (turns.Answered reply) sending = reply_text reply sending
turn_text turns.Lost sending = refusal_text refused.KeeperFault sending
turn_text turns.OutOfMemory sending = []

-- what is printed of the answer: all but what is written as it is kept
abbrev pub turn_front : TurnResult → Sending → List ℕ
turn_front (turns.Answered reply) sending = front_text sending reply
turn_front turn sending = turn_text turn sending

-- what is written after that, as it is kept
abbrev pub turn_block : TurnResult → Sending → List ℕ
turn_block (turns.Answered reply) sending = block_text sending reply
turn_block turn sending = []

-- Answer doesn't refuse the query, or refuses it since there is no plan, which takes memory to find
abbrev pub IsUnrefused : Option ℕ → View → Query → Type 0
IsUnrefused u V query = MayTakeMemory (answer u V query)

-- memory may run out for what a caller wishes on the caller's view at this timestamp: a command or a bulk that is
-- judged and accepted, not one that repeats another; or a query that Answer doesn't refuse, or that asks for a plan if
-- there is none
abbrev pub WantsRoom : Option ℕ → View → ℕ → What → Type 0
WantsRoom u V at whats.NoRoute = ⊥
WantsRoom u V at (whats.WrongMethod resource) = ⊥
WantsRoom u V at (whats.BadNumber ask) = ⊥
WantsRoom u V at (whats.BadBody ask) = ⊥
WantsRoom u V at (whats.BadQuery ask offset) = ⊥
WantsRoom u V at (whats.Command key command) = IsSome (drawn_by (decide V (call_of u at key command)))
WantsRoom u V at (whats.Bulk key rows) = IsSome (drawn_by (decide_bulk V (bulk_by (maker_of u) at key rows)))
WantsRoom u V at (whats.Query query) = IsUnrefused u V query

-- memory may run out in the turn of what a caller wishes (`WantsRoom`): only if the caller may ask it
abbrev pub MayWantFor : Option ℕ → View → ℕ → What → Type 0
MayWantFor u V at what = (is_unauthorized u V what ≡ false) × WantsRoom u V at what

-- memory may run out in the turn of the wish on this history
abbrev pub MayWantMemory : History → Wish → Type 0
MayWantMemory H w = MayWantFor (caller H w) (view (caller H w) H) w.at w.what

-- a wish was judged or answered: its answer is Told's, the history is the one after the wish, and the keeper's fault
-- counter stays
pub record AnswersWish (turn : TurnResult) (w : Wish) (b b' : Ledger) : Type 0 where
  pub told_is : (close : Bool) → turn_text turn (sending_of w close) ≡ told b.history w close
  pub stepped : b'.history ≡ after_wish b.history w
  pub steady : b'.faults ≡ b.faults

-- what one turn did to the history, and to the keeper's fault counter
abbrev pub Turns : TurnResult → Wish → Ledger → Ledger → Type 0
Turns (turns.Refused refused) w b b' = AnswersWish (turns.Refused refused) w b b'
Turns (turns.Accepted receipt) w b b' = AnswersWish (turns.Accepted receipt) w b b'
Turns (turns.Answered reply) w b b' =
    AnswersWish (turns.Answered reply) w b b' × (b' ≡ b) × ((IsBrief reply → ⊥) → MayWantMemory b.history w)
Turns turns.Lost w b b' = IsSome (drawn b.history w) × (b'.history ≡ b.history) × CountsLoss true b.faults b'.faults
Turns turns.OutOfMemory w b b' = (b' ≡ b) × MayWantMemory b.history w

-- What it did with the keeper, on this history, of what was drawn. Nothing was tried where memory ran out, nor for a
-- query, for whose answer it may run out later.
abbrev pub TurnTries : {K : Type 0} → Tries K → TurnResult → History → Option Drawn → K → K → Type 0
TurnTries tries (turns.Refused refused) H d old new = tries H (kept_of d) old new
TurnTries tries (turns.Accepted receipt) H d old new = tries H (kept_of d) old new
TurnTries tries (turns.Answered reply) H d old new = tries H (kept_of d) old new × tries H Nothing old new
TurnTries tries turns.Lost H d old new = tries H (lost_of d) old new
TurnTries tries turns.OutOfMemory H d old new = tries H Nothing old new

-- how what breaks a rule is refused
abbrev pub refused_for : Broken → Refused
refused_for (broken.Rule rule) = refused.Rule rule
refused_for (broken.Row row rule) = refused.Row row rule

-- a command or a bulk was refused, as the look-up of its number or Judge says, and nothing changed
pub record RefusesChange (r : Refused) (outcome : Outcome Broken) (b b' : Ledger) : Type 0 where
  pub refusal : Broken
  pub outcome_is : outcome ≡ Judged (Err refusal)
  pub refused_is : r ≡ refused_for refusal
  pub same : b' ≡ b

-- what the turn of a command or a bulk did that comes to this outcome: it was judged, or looked up if it repeats
-- another. If it adds nothing, it is never lost and memory never runs out.
abbrev pub JudgesChange : TurnResult → Outcome Broken → Ledger → Ledger → Type 0
JudgesChange (turns.Refused r) outcome b b' = RefusesChange r outcome b b'
JudgesChange (turns.Accepted receipt) outcome b b' =
    Acts outcome b.history b'.history receipt × (b'.faults ≡ b.faults)
JudgesChange (turns.Answered reply) outcome b b' = ⊥
JudgesChange turns.Lost outcome b b' =
    IsSome (drawn_by outcome) × (b'.history ≡ b.history) × CountsLoss true b.faults b'.faults
JudgesChange turns.OutOfMemory outcome b b' = (b' ≡ b) × IsSome (drawn_by outcome)

-- what the turn of a command or a bulk did to a book: `JudgesChange` holds of its ledgers before and after
abbrev pub ChangesBook : {K : Type 0} → (K → ℕ) → TurnResult → Outcome Broken → SeenBook K → SeenBook K → Type 0
ChangesBook faults turn outcome old new = JudgesChange turn outcome (ledger_of faults old) (ledger_of faults new)

-- the caller of a bulk is a registered user, who may give it
abbrev pub IsBulkCaller : History → Option ℕ → ℕ → Option RetryKey → List BulkRow → Type 0
IsBulkCaller H None at key rows = ⊥
IsBulkCaller H (Some user) at key rows = IsBulkGiven H (bulk_by user at key rows)

-- a query of this caller's was answered
abbrev pub AnswersQuery : TurnResult → Option ℕ → Query → History → Type 0
AnswersQuery (turns.Refused refused) u query H = ⊥
AnswersQuery (turns.Accepted receipt) u query H = ⊥
AnswersQuery (turns.Answered reply) u query H = reply ≡ answer u (view u H) query
AnswersQuery turns.Lost u query H = ⊥
AnswersQuery turns.OutOfMemory u query H = IsUnrefused u (view u H) query

-- memory may run out in writing what a turn came to: only for the answer to a query that isn't a brief one
abbrev pub MayWantToPrint : TurnResult → Type 0
MayWantToPrint (turns.Refused refused) = ⊥
MayWantToPrint (turns.Accepted receipt) = ⊥
MayWantToPrint (turns.Answered reply) = IsBrief reply → ⊥
MayWantToPrint turns.Lost = ⊥
MayWantToPrint turns.OutOfMemory = ⊥

-- ---- one request

-- what sending an answer did to the sink: the answer was begun once, before its first byte, also if its write broke off
abbrev pub Sends : RequestOutcome → Bool → List ℕ → Outlet → Outlet → Type 0
Sends served.Goes close reply s s' = (close ≡ false) × WritesAnswers (reply ∷ []) s s'
Sends served.Closes close reply s s' = (close ≡ true) × WritesAnswers (reply ∷ []) s s'
Sends served.WriteFault close reply s s' = AnswerBreaksOff [] reply s s'
Sends served.OutOfMemory close reply s s' = ⊥

-- a wish was judged in one turn of the pass
pub record JudgesInTurn {K : Type 0} (tries : Tries K) (w : Wish) (p p' : KnownPass K) : Type 0 where
  pub judged : JudgedWish
  pub wish : judged.wish ≡ w
  pub turned : TakesTurn tries judged p p'

-- memory ran out in the turn of a wish, at this history: nothing was added or tried, and no counter rose
pub record TurnsInVain {K : Type 0} (tries : Tries K) (w : Wish) (p p' : KnownPass K) : Type 0 where
  pub seen : History
  pub saw : IsPrefix p.seen seen
  pub wants : MayWantMemory seen w
  -- the keeper's count in this turn
  pub faults : ℕ
  -- the book as the turn found it, and as it left it
  pub found : SeenBook K
  pub leaves : SeenBook K
  pub finds : found.log ≡ seen
  pub stays : leaves.log ≡ seen
  pub as_left : IsAsLeft p found
  pub tried : tries seen Nothing found.keeper leaves.keeper
  pub turn : p' ≡ after_turn p found leaves seen seen faults faults

-- what one request did, as number n: it was judged once and answered once, or the write of its answer failed, or memory
-- ran out where it may, and then nothing was added, begun or written
abbrev pub ServesRequest : {K : Type 0} → Tries K → RequestOutcome → ℕ → Wish → KnownPass K → KnownPass K → Outlet
    → Outlet → Type 0
ServesRequest tries served.Goes n w p p' s s' =
    (j : JudgesInTurn tries w p p') × (closes n w ≡ false) × WritesAnswers (answer_to n j.judged ∷ []) s s'
ServesRequest tries served.Closes n w p p' s s' =
    (j : JudgesInTurn tries w p p') × (closes n w ≡ true) × WritesAnswers (answer_to n j.judged ∷ []) s s'
ServesRequest tries served.WriteFault n w p p' s s' =
    (j : JudgesInTurn tries w p p') × AnswerBreaksOff [] (answer_to n j.judged) s s'
ServesRequest tries served.OutOfMemory n w p p' s s' = (s' ≡ s) × TurnsInVain tries w p p'
