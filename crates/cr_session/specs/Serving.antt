-- SPDX-License-Identifier: Apache-2.0 OR MIT
-- What one connection did, from its first byte to its end, however its turns are taken: ConnectionInHistory where they
-- are those of a pass, and ConnectionBytes where they are all the turns that there are.
use Rattle.std.specs.Prelude.{◌≡◌, ◌⊎◌, ℕ, ◌+◌, ◌≤◌, length, List, [], ◌∷◌, ◌++◌, Option, Some, None, Bool}
use Rattle.cr_base.specs.Lists.{listed}
use Rattle.cr_ports.specs.Count.{Rises}
use Rattle.cr_ports.specs.Stream.{Taken, and_left}
use Rattle.cr_http.specs.declared.refusal.Refusal.{Refusal}
use Rattle.cr_http.specs.Filling.{IsAtEnd, ReadsWhile}
use Rattle.cr_http.specs.Reading.{IsSettled, IsUnsettled}
use Rattle.cr_http.specs.Requests.{End, ended_clean, ended_cut, asked, closed}
use Rattle.cr_http.specs.ToHead.{IsToHead}
use Rattle.cr_print.specs.Answers.{closing_text, no_memory_text}
use Rattle.cr_session.specs.declared.serve.Ending.{Ending}
use Rattle.cr_session.specs.declared.serve.Ending.TheVariants as endings
use Rattle.cr_session.specs.declared.serve.Why.TheVariants as whys
use Rattle.cr_session.specs.Reading.{StandsWish, MayWantToRead}
use Rattle.cr_session.specs.Answering.{Answer, Desk, desk_of, GivesMoments, FailsBehind, GivesAnswers, AnswerFails}
use Rattle.cr_session.specs.Answering.{ClockFails}
use Rattle.cr_session.specs.Replay.{JudgedWish, Ledger, Replays, answers, answer_of, wishes_of}
use Rattle.cr_session.specs.Tries.{Tries}
use Rattle.cr_session.specs.Passing.{KnownPass, TakesTurns}
use Rattle.cr_session.specs.Turning.{MayWantMemory, TurnsInVain}
use Rattle.cr_session.specs.Wishes.{Spells, Begins, Reaches}
use Rattle.cr_ports.specs.Writing.{Outlet, WritesAnswers, AnswerBreaksOff}
use Rattle.cr_wire.specs.declared.what.Wish.{Wish}

-- what a connection works on: its turns, which change a state B, as what a pass knows; the source with its count of
-- faults; and the sink and the clock, with which it answers
pub record World (B S : Type 0) : Type 0 where
  pub state : B
  pub source : S
  pub read_faults : ℕ
  pub desk : Desk

-- the world of a state, a source, a sink and a clock
abbrev pub world_of : {B S O C : Type 0} → (S → ℕ) → (O → Option Taken) → (O → ℕ) → (C → Option (List ℕ)) → (C → ℕ) → B
    → S → O → C → World B S
world_of read_faults taken write_faults coming clock_faults state source sink clock = record {
  state = state;
  source = source;
  read_faults = read_faults source;
  desk = desk_of taken write_faults coming clock_faults sink clock;
}

-- ---- answers to no wish

-- the refusal of what is no request, at this moment
abbrev pub refusal_at : Refusal → Bool → ℕ → Answer
refusal_at why head at = record { text = closing_text why head at; at = at }

-- the note that memory ran out, at this moment
abbrev pub note_at : Bool → ℕ → Answer
note_at head at = record { text = no_memory_text head at; at = at }

-- ---- out of memory

-- the note of it was written, or its write broke off
abbrev pub WritesNote : Bool → ℕ → Outlet → Outlet → Type 0
WritesNote head at s s' =
    WritesAnswers (no_memory_text head at ∷ []) s s' ⊎ AnswerBreaksOff [] (no_memory_text head at) s s'

-- what became of the note. Where the clock had given a moment for the request, it has that one. Where it had not, the
-- clock was asked for it, and where it failed nothing was begun.
abbrev pub NotesNoMemory : Option ℕ → Bool → Desk → Desk → Type 0
NotesNoMemory (Some at) head d d' = (d'.clock ≡ d.clock) × WritesNote head at d.sink d'.sink
NotesNoMemory None head d d' =
    ((at : ℕ) × GivesMoments (at ∷ []) d.clock d'.clock × WritesNote head at d.sink d'.sink)
    ⊎ (FailsBehind [] d.clock d'.clock × (d'.sink ≡ d.sink))

-- the note was given after the answers, or its write broke off
abbrev pub GivesNote : List Answer → Bool → ℕ → Desk → Desk → Type 0
GivesNote before head at d d' =
    GivesAnswers (before ++ note_at head at ∷ []) d d' ⊎ AnswerFails before (note_at head at) d d'

-- the note after the answers, with the timestamp that the clock had given for the request, if any
abbrev pub TellsWantOfMemory : List Answer → Option ℕ → Bool → Desk → Desk → Type 0
TellsWantOfMemory before (Some at) head d d' = GivesNote before head at d d'
TellsWantOfMemory before None head d d' = ((at : ℕ) × GivesNote before head at d d') ⊎ ClockFails before d d'

-- ---- by the ending

-- the source is at its end where the stream ended
abbrev pub EndsSource : Ending → Option (List ℕ) → Type 0
EndsSource endings.Clean left = IsAtEnd left
EndsSource endings.Cut left = IsAtEnd left
EndsSource (endings.Closed why) left = Unit {0}
EndsSource endings.ReadFault left = Unit {0}
EndsSource endings.WriteFault left = Unit {0}
EndsSource endings.ClockFault left = Unit {0}
EndsSource endings.OutOfMemory left = Unit {0}

-- the source's fault counter: it rose, or is at its last value, if a read failed; else it stays
abbrev pub CountsReads : Ending → ℕ → ℕ → Type 0
CountsReads endings.Clean faults faults' = faults' ≡ faults
CountsReads endings.Cut faults faults' = faults' ≡ faults
CountsReads (endings.Closed why) faults faults' = faults' ≡ faults
CountsReads endings.ReadFault faults faults' = (faults ≤ faults') × Rises faults faults'
CountsReads endings.WriteFault faults faults' = faults' ≡ faults
CountsReads endings.ClockFault faults faults' = faults' ≡ faults
CountsReads endings.OutOfMemory faults faults' = faults' ≡ faults

-- what the turns after those of the judged wishes left: there are none, unless memory ran out
abbrev pub EndsTurns : {B : Type 0} → Ending → B → B → Type 0
EndsTurns endings.Clean b b' = b' ≡ b
EndsTurns endings.Cut b b' = b' ≡ b
EndsTurns (endings.Closed why) b b' = b' ≡ b
EndsTurns endings.ReadFault b b' = b' ≡ b
EndsTurns endings.WriteFault b b' = b' ≡ b
EndsTurns endings.ClockFault b b' = b' ≡ b
EndsTurns endings.OutOfMemory b b' = Unit {0}

-- what writing a closing refusal did
abbrev pub WritesRefusal : Ending → Refusal → Bool → ℕ → Outlet → Outlet → Type 0
WritesRefusal (endings.Closed (whys.Refused said)) why head at s s' =
    (said ≡ why) × WritesAnswers (closing_text why head at ∷ []) s s'
WritesRefusal (endings.Closed whys.Asked) why head at s s' = ⊥
WritesRefusal endings.WriteFault why head at s s' = AnswerBreaksOff [] (closing_text why head at) s s'
WritesRefusal endings.Clean why head at s s' = ⊥
WritesRefusal endings.Cut why head at s s' = ⊥
WritesRefusal endings.ReadFault why head at s s' = ⊥
WritesRefusal endings.ClockFault why head at s s' = ⊥
WritesRefusal endings.OutOfMemory why head at s s' = ⊥

-- ---- nothing is read ahead

-- the text, from request number n on, begins with some of these wishes, or none, after none of them the connection
-- closes, and what follows them can't be told without more bytes, or the end
pub record WantsBehind (n : ℕ) (wishes : List Wish) (text : List ℕ) : Type 0 where
  pub first : List Wish
  pub others : List Wish
  pub parts : wishes ≡ first ++ others
  pub rest : List ℕ
  pub reaches : Reaches n text first rest
  pub unsettled : IsUnsettled rest

-- Each read was made at a text that wants more after wishes that were answered: what follows them, be it a wish whose
-- answer failed or a refusal, wasn't settled when the last byte was asked for.
abbrev pub ReadsNoFurther : {S : Type 0} → (S → Option (List ℕ)) → (S → S → List ℕ → Type 0) → ℕ → List JudgedWish → S
    → S → List ℕ → List ℕ → Type 0
ReadsNoFurther left gives n answered source source' old new =
    ReadsWhile left gives (WantsBehind n (wishes_of answered)) source source' old new

-- ---- how a connection ends

-- Memory ran out in the turn of the wish that was read, whose moment this is: of turns on a state of the type B, in
-- which `Lacks` says that memory ran out for a wish.
abbrev pub LacksInTurn : {B : Type 0} → (Wish → B → B → Type 0) → Option ℕ → B → B → List ℕ → Type 0
LacksInTurn Lacks at b b' rest =
    (w : Wish) × (after : List ℕ) × StandsWish rest w after × (at ≡ Some w.at) × Lacks w b b'

-- memory ran out after the answers so far, in reading the next request or in its turn; this timestamp was read for it,
-- or none
abbrev pub MayLackMemory : {B : Type 0} → (Wish → B → B → Type 0) → Option ℕ → B → B → List ℕ → Type 0
MayLackMemory Lacks at b b' rest = (MayWantToRead at rest × (b' ≡ b)) ⊎ LacksInTurn Lacks at b b' rest

-- From request number n on, where these bytes came of this text, and these wishes were judged and answered whole: what
-- the desk was at first and is in the end. Each answer was begun once, before its first byte, and has the moment that
-- the one call of the clock gave which was made for it.
module _ (n : ℕ) (came text : List ℕ) (answered : List JudgedWish) (d d' : Desk) where
  -- the text spells these wishes, and so it ends
  pub record TextEnds (end : End) : Type 0 where
    pub spells : Spells n text (wishes_of answered) end
    pub gave : GivesAnswers (answers n answered) d d'

  -- what stands behind them is no request for this reason, and was refused
  pub record RefusalGiven (why : Refusal) : Type 0 where
    pub head : Bool
    pub at : ℕ
    pub spells : Spells n text (wishes_of answered) (closed why head)
    pub gave : GivesAnswers (answers n answered ++ refusal_at why head at ∷ []) d d'

  -- what stands behind them is no request, and the write of its refusal failed
  pub record RefusalFailed : Type 0 where
    pub why : Refusal
    pub head : Bool
    pub at : ℕ
    pub spells : Spells n text (wishes_of answered) (closed why head)
    pub fails : AnswerFails (answers n answered) (refusal_at why head at) d d'

  -- one more wish was judged, and the write of its answer failed
  pub record AnswerFailed (failed : JudgedWish) : Type 0 where
    pub begins : Begins n text (wishes_of (answered ++ failed ∷ []))
    pub fails : AnswerFails (answers n answered) (answer_of (n + length answered) failed) d d'

  -- a read failed where the bytes that came end, between two requests or inside one
  pub record ReadFailed : Type 0 where
    pub spells : Spells n came (wishes_of answered) ended_clean ⊎ Spells n came (wishes_of answered) ended_cut
    pub gave : GivesAnswers (answers n answered) d d'

  -- the clock failed for a whole request, or for what is none, that stands behind them: neither was judged or answered
  pub record ClockFailed : Type 0 where
    pub rest : List ℕ
    pub reaches : Reaches n came (wishes_of answered) rest
    pub settled : IsSettled rest
    pub fails : ClockFails (answers n answered) d d'

  module _ {B : Type 0} (Lacks : Wish → B → B → Type 0) (b b' : B) where
    -- memory ran out behind them, for what stands there, which was read so far that it is one to HEAD or isn't
    pub record MemoryRanOut : Type 0 where
      pub rest : List ℕ
      pub reaches : Reaches n came (wishes_of answered) rest
      pub read : Option ℕ
      pub lacks : MayLackMemory Lacks read b b' rest
      pub head : Bool
      pub to_head : IsToHead rest head
      pub tells : TellsWantOfMemory (answers n answered) read head d d'

    -- One of these, by the ending, and by the wish whose answer's write failed, if there is one.
    abbrev pub EndsAs : Option JudgedWish → Ending → Type 0
    EndsAs None endings.Clean = TextEnds ended_clean
    EndsAs None endings.Cut = TextEnds ended_cut
    EndsAs None (endings.Closed whys.Asked) = TextEnds asked
    EndsAs None (endings.Closed (whys.Refused why)) = RefusalGiven why
    EndsAs None endings.ReadFault = ReadFailed
    EndsAs None endings.WriteFault = RefusalFailed
    EndsAs None endings.ClockFault = ClockFailed
    EndsAs None endings.OutOfMemory = MemoryRanOut
    EndsAs (Some failed) endings.WriteFault = AnswerFailed failed
    EndsAs (Some failed) _ = ⊥

-- ---- a whole connection

-- Of turns on a state of the type B: these wishes were judged in turn from one state to the other, and memory
-- ran out in the turn of this wish.
module _ {B : Type 0} (Judges : List JudgedWish → B → B → Type 0) (Lacks : Wish → B → B → Type 0) where
  -- A connection from request number n on, with these bytes in the inbox, up to its ending.
  pub record Connection {S : Type 0} (left : S → Option (List ℕ)) (gives : S → S → List ℕ → Type 0)
      (ending : Ending) (n : ℕ) (inbox : List ℕ)
      (w w' : World B S) : Type 0 where
    -- the bytes that the source gave
    pub got : List ℕ
    pub given : left w.source ≡ and_left got (left w'.source)
    -- the wishes that were judged, in order: those answered whole, and the one whose answer's write failed
    pub answered : List JudgedWish
    pub failed : Option JudgedWish
    -- the state behind their turns
    pub judged : B
    pub turns : Judges (answered ++ listed failed) w.state judged
    pub settled : EndsTurns ending judged w'.state
    pub ends : EndsAs n (inbox ++ got) (inbox ++ got) answered w.desk w'.desk Lacks judged w'.state failed ending
    pub ended : EndsSource ending (left w'.source)
    pub counts : CountsReads ending w.read_faults w'.read_faults
    pub needed : ReadsNoFurther left gives n answered w.source w'.source inbox (inbox ++ got)

  -- The same up to a request that doesn't close, behind so many requests.
  pub record GoesOn {S : Type 0} (left : S → Option (List ℕ)) (gives : S → S → List ℕ → Type 0)
      (count n : ℕ) (inbox inbox' : List ℕ)
      (w w' : World B S) : Type 0 where
    pub got : List ℕ
    pub given : left w.source ≡ and_left got (left w'.source)
    pub answered : List JudgedWish
    pub counted : length answered ≡ count
    pub turns : Judges answered w.state w'.state
    pub reaches : Reaches n (inbox ++ got) (wishes_of answered) inbox'
    pub answering : GivesAnswers (answers n answered) w.desk w'.desk
    pub counts : w'.read_faults ≡ w.read_faults
    pub needed : ReadsNoFurther left gives n answered w.source w'.source inbox (inbox ++ got)

  -- A connection over a source that had this text left: what came of it, and what is left.
  pub record WholeText {S : Type 0} (left : S → Option (List ℕ)) (ending : Ending) (b : List ℕ)
      (w w' : World B S) : Type 0 where
    pub came : List ℕ
    pub rest : List ℕ
    pub parts : b ≡ came ++ rest
    pub left_is : left w'.source ≡ Some rest
    pub answered : List JudgedWish
    pub failed : Option JudgedWish
    pub judged : B
    pub turns : Judges (answered ++ listed failed) w.state judged
    pub settled : EndsTurns ending judged w'.state
    pub begins : Begins 0 b (wishes_of (answered ++ listed failed))
    pub ends : EndsAs 0 came b answered w.desk w'.desk Lacks judged w'.state failed ending

-- ---- the turns of a pass: between them others may take theirs

module _ {K S : Type 0} (tries : Tries K) (left : S → Option (List ℕ)) where
  -- the same of the whole text that the source had left
  abbrev pub WholeInHistory : Ending → List ℕ → World (KnownPass K) S → World (KnownPass K) S → Type 0
  WholeInHistory ending b w w' = WholeText (TakesTurns tries) (TurnsInVain tries) left ending b w w'

  module _ (gives : S → S → List ℕ → Type 0) where
    abbrev pub ConnectionInHistory : Ending → ℕ → List ℕ → World (KnownPass K) S → World (KnownPass K) S → Type 0
    ConnectionInHistory ending n inbox w w' =
        Connection (TakesTurns tries) (TurnsInVain tries) left gives ending n inbox w w'

    -- up to a request that doesn't close
    abbrev pub GoesOnInHistory : ℕ → ℕ → List ℕ → List ℕ → World (KnownPass K) S → World (KnownPass K) S → Type 0
    GoesOnInHistory count n inbox inbox' w w' =
        GoesOn (TakesTurns tries) (TurnsInVain tries) left gives count n inbox inbox' w w'

    -- what one round of the loop did
    abbrev pub OneRound : Option Ending → ℕ → List ℕ → List ℕ → World (KnownPass K) S → World (KnownPass K) S → Type 0
    OneRound None n inbox inbox' w w' = GoesOnInHistory 1 n inbox inbox' w w'
    OneRound (Some ending) n inbox inbox' w w' = ConnectionInHistory ending n inbox w w'

-- ---- turns on a ledger, one from where the other left it

-- memory ran out in the turn of a wish, and the ledger stays
abbrev pub StaysInVain : Wish → Ledger → Ledger → Type 0
StaysInVain w b b' = (b' ≡ b) × MayWantMemory b.history w

-- ConnectionBytes: what one connection did, if its turns are all the turns that there are, on a ledger
abbrev pub ConnectionBytes : {S : Type 0} → (S → Option (List ℕ)) → (S → S → List ℕ → Type 0) → Ending → ℕ → List ℕ
    → World Ledger S → World Ledger S → Type 0
ConnectionBytes left gives ending n inbox w w' = Connection Replays StaysInVain left gives ending n inbox w w'

-- what one connection did of the whole text that its source had left, if its turns are all the turns that there are, on
-- a ledger
abbrev pub WholeBytes : {S : Type 0} → (S → Option (List ℕ)) → Ending → List ℕ → World Ledger S
    → World Ledger S → Type 0
WholeBytes left ending b w w' = WholeText Replays StaysInVain left ending b w w'
