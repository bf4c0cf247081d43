-- SPDX-License-Identifier: Apache-2.0 OR MIT
-- RetriesActOnce: a command or a bulk that its caller sends again, with its number and its mark, acts once, also if the
-- opening history has it. If what was sent again is left out, the history in the end is the same; and what was sent
-- again is answered as the first was.
use Rattle.std.specs.Prelude.{◌≡◌, ◌==◌, ◌&&◌, not, ℕ, List, [], ◌∷◌, ◌++◌, Bool, true, false}
use Rattle.std.specs.Prelude.{Option, Some, None, is_none, IfSome, find, if◌then◌else◌}
use Rattle.std.specs.List.{AllByRecursion}
use Rattle.std.specs.Option.{option_map}
use Rattle.std.specs.Str.{bytes_eq}
use Rattle.cr_base.specs.declared.reply.Receipt.{Receipt}
use Rattle.cr_base.specs.declared.reply.Reply.TheVariants as replies
use Rattle.cr_base.specs.declared.retry.RetryKey.{RetryKey}
use Rattle.cr_base.specs.Drawn.{Drawn}
use Rattle.cr_base.specs.History.{History}
use Rattle.cr_base.specs.HistoryFacts.{accounts_of}
use Rattle.cr_base.specs.Keys.{kept_under}
use Rattle.cr_base.specs.Lists.{given, is_nothing}
use Rattle.cr_base.specs.Retries.{kept_call, repeated_receipt}
use Rattle.cr_base.specs.Rows.{key_mark}
use Rattle.cr_policy.specs.Legal.{Legal}
use Rattle.cr_print.specs.Answers.{reply_text}
use Rattle.cr_wire.specs.declared.what.What.{What}
use Rattle.cr_wire.specs.declared.what.What.TheVariants.{NoRoute, WrongMethod, BadNumber, BadBody, BadQuery}
use Rattle.cr_wire.specs.declared.what.What.TheVariants.{Command, Bulk, Query}
use Rattle.cr_wire.specs.declared.what.Wish.{Wish}
use Rattle.cr_wire.specs.Caller.{caller}
use Rattle.cr_session.specs.Told.{sending_of, told, told_sent, drawn, after_wish}
use Rattle.cr_session.specs.Turning.{IsBoundedWish}
use Rattle.cr_session.specs.TwoRuns.{WishInTurn, is_same}

-- ---- what was accepted

-- a command or a bulk that was accepted and added something: the history before it, the wish, and what it drew
pub record Act : Type 0 where
  pub before : History
  pub wish : Wish
  pub drawn : Drawn

-- what a wish that drew this, or nothing, did. A bulk of no rows draws a group of no entries, and so does nothing.
abbrev pub act_drawn : History → Wish → Option Drawn → List Act
act_drawn H w None = []
act_drawn H w (Some d) = given (not (is_nothing d.group)) (record { before = H; wish = w; drawn = d })

-- what a wish does on this history: one act, or none
abbrev pub acts_of : History → Wish → List Act
acts_of H w = act_drawn H w (drawn H w)

-- ---- what repeats it

-- the number and the mark of a command or a bulk, where it has them
abbrev pub key_of : What → Option RetryKey
key_of NoRoute = None
key_of (WrongMethod resource) = None
key_of (BadNumber ask) = None
key_of (BadBody ask) = None
key_of (BadQuery ask offset) = None
key_of (Command key command) = key
key_of (Bulk key rows) = key
key_of (Query query) = None

-- a bulk is wished
abbrev pub is_bulk : What → Bool
is_bulk (Bulk key rows) = true
is_bulk _ = false

-- both have a number and a mark, and these are equal
abbrev pub is_same_key : Option RetryKey → Option RetryKey → Bool
is_same_key (Some one) (Some other) = one.number == other.number && bytes_eq one.mark other.mark
is_same_key _ _ = false

-- the wish has the caller, the number and the mark of the act
abbrev pub is_repeat_of : History → Wish → Act → Bool
is_repeat_of H w act =
    is_same (caller act.before act.wish) (caller H w) && is_same_key (key_of act.wish.what) (key_of w.what)

-- what a command of this mark added, if what the history keeps under a number is of that mark
abbrev pub of_mark : List ℕ → History → Option History
of_mark mark [] = None
of_mark mark (e ∷ es) = if bytes_eq (key_mark e.stamp.key) mark then Some (e ∷ es) else None

-- what a command or a bulk with this caller, number and mark added to the history; an unauthenticated caller's has no
-- number
abbrev pub added_under : Option ℕ → Option RetryKey → History → Option History
added_under None key H = None
added_under (Some user) None H = None
added_under (Some user) (Some key) H = of_mark key.mark (kept_under user key.number H)

-- what a wish may repeat: a command or a bulk of the opening history, by the entries that it added; or an act of the
-- wishes before
pub data Earlier : Type 0 where
  Opened : History → Earlier
  Acted : Act → Earlier

-- what a wish repeats: what the opening history has, else the act, if there is one
abbrev pub earlier_of : Option History → Option Act → Option Earlier
earlier_of (Some group) act = Some (Opened group)
earlier_of None act = option_map Acted act

-- what the wish repeats on this history, if the run opened with `opening` and did these acts since; `None` if it
-- repeats nothing
abbrev pub repeated_by : History → List Act → History → Wish → Option Earlier
repeated_by opening acts H w =
    earlier_of (added_under (caller H w) (key_of w.what) opening) (find (is_repeat_of H w) acts)

-- ---- wishes without those that repeat something

-- the wishes from this history on without those that repeat something, if the run opened with `opening` and did these
-- acts before
abbrev pub without_repeats : History → List Act → History → List WishInTurn → List WishInTurn
without_repeats opening acts H [] = []
without_repeats opening acts H (w ∷ ws) =
    given (is_none (repeated_by opening acts H w.wish)) w
    ++ without_repeats opening (acts ++ acts_of H w.wish) (after_wish H w.wish) ws

-- the history after the wishes
abbrev pub ends_in : History → List WishInTurn → History
ends_in H [] = H
ends_in H (w ∷ ws) = ends_in (after_wish H w.wish) ws

-- ---- what a repeat is told

-- the receipt of a command, or of a bulk, that repeats one with this group, by the accounts of this
-- history; there is one where the group isn't empty
abbrev pub receipt_again : Bool → History → History → Option Receipt
receipt_again bulk H group = option_map (repeated_receipt bulk) (kept_call (accounts_of H) group)

-- a wish that repeats what added this group is answered with the group's receipt, on this history
pub record TellsGroup (group H : History) (w : WishInTurn) : Type 0 where
  pub receipt : Receipt
  pub receipt_is : receipt_again (is_bulk w.wish.what) H group ≡ Some receipt
  pub told_is : told H w.wish w.closes ≡ reply_text (replies.Accepted receipt) (sending_of w.wish w.closes)

-- a wish that repeats something is answered as `TellsGroup` says of the group which that added. If it repeats an act of
-- these wishes, and both are bulks, or neither is, these are the bytes that the act was answered, except for the date
-- and for whether the connection closes.
abbrev pub IsToldAgain : Earlier → History → WishInTurn → Type 0
IsToldAgain (Opened group) H w = TellsGroup group H w
IsToldAgain (Acted act) H w =
    TellsGroup act.drawn.group H w
    × (is_bulk w.wish.what ≡ is_bulk act.wish.what
    → told H w.wish w.closes ≡ told_sent act.before act.wish (sending_of w.wish w.closes))

-- each wish from this history on that repeats something is answered as `IsToldAgain` says, if the run opened with
-- `opening` and did these acts before
abbrev pub AreToldAgain : History → List Act → History → List WishInTurn → Type 0
AreToldAgain opening acts H [] = Unit {0}
AreToldAgain opening acts H (w ∷ ws) =
    IfSome (repeated_by opening acts H w.wish) (λ earlier. IsToldAgain earlier H w)
    × AreToldAgain opening (acts ++ acts_of H w.wish) (after_wish H w.wish) ws

-- ---- the law

-- each wish is within its bounds, as every wish is that is read
abbrev pub AreBounded : List WishInTurn → Type 0
AreBounded wishes = AllByRecursion (λ (w : WishInTurn). IsBoundedWish w.wish) wishes

-- without the wishes that repeat something the history ends as with them, and those are answered as `AreToldAgain` says
pub record ActsOnce (opening : History) (wishes : List WishInTurn) : Type 0 where
  pub ends : ends_in opening (without_repeats opening [] opening wishes) ≡ ends_in opening wishes
  pub told : AreToldAgain opening [] opening wishes

-- RetriesActOnce: on every legal history, whatever any caller asks, if nothing that Judge accepts is lost
abbrev pub RetriesActOnce : Type 0
RetriesActOnce =
    (opening : History) (wishes : List WishInTurn) → Legal opening → AreBounded wishes → ActsOnce opening wishes
