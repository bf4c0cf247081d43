-- SPDX-License-Identifier: Apache-2.0 OR MIT
-- What a whole run did.
use Rattle.std.specs.Prelude.{◌≡◌, ◌⊎◌, ℕ, List, [], ◌++◌, Option, Some}
use Rattle.cr_base.specs.Lists.{listed}
use Rattle.cr_base.specs.declared.row.Row.{Row}
use Rattle.cr_base.specs.History.{History}
use Rattle.cr_ports.specs.Count.{Rises}
use Rattle.cr_ports.specs.Stream.{Taken}
use Rattle.cr_policy.specs.Legal.{Legal}
use Rattle.cr_book.specs.Seen.{SeenBook}
use Rattle.cr_book.specs.Sound.{IsKept}
use Rattle.cr_book.specs.Stopping.{Keepers, KeepsTold}
use Rattle.cr_drill.specs.Drill.{drilled, summary}
use Rattle.cr_http.specs.Requests.{End}
use Rattle.cr_words.specs.Usage.{usage}
use Rattle.cr_wire.specs.declared.what.Wish.{Wish}
use Rattle.cr_wire.specs.Wishes.{Wishes}
use Rattle.cr_session.specs.declared.serve.Ending.{Ending}
use Rattle.cr_session.specs.Answering.{ClockState, Desk, GivesAnswers, clock_of}
use Rattle.cr_session.specs.Replay.{JudgedWish, Ledger, lost_count}
use Rattle.cr_session.specs.Serving.{World, ConnectionBytes, WholeBytes}
use Rattle.cr_session.specs.Stopping.{KeepsWishesTold}
use Rattle.cr_ports.specs.Writing.{Outlet, outlet_of, Writes, BreaksOff}
use Rattle.cr_top.specs.declared.exit.Exit.{Exit}
use Rattle.cr_top.specs.declared.exit.Exit.TheVariants as exits
use Rattle.cr_top.specs.Exits.{exit_of}
use Rattle.cr_top.specs.Replayed.{told_along, steps_along, last_words, exit_at}

-- what a run meets outside: its input with its count of faults, its output, and its clock
pub record Outside (I : Type 0) : Type 0 where
  pub input : I
  pub read_faults : ℕ
  pub output : Outlet
  pub clock : ClockState

-- what contracts see of a run's input, output and clock, by the members of their traits
abbrev pub outside_of : {I O C : Type 0} → (I → ℕ) → (O → Option Taken) → (O → ℕ) → (C → Option (List ℕ)) → (C → ℕ)
    → I → O → C → Outside I
outside_of read_faults taken write_faults coming clock_faults input out clock = record {
  input = input;
  read_faults = read_faults input;
  output = outlet_of taken write_faults out;
  clock = clock_of coming clock_faults clock;
}

-- the sink and the clock of the one connection
abbrev pub desk : {I : Type 0} → Outside I → Desk
desk o = record { sink = o.output; clock = o.clock }

-- nothing was read, and the clock wasn't asked
pub record ReadsNothing {I : Type 0} (o o' : Outside I) : Type 0 where
  pub input : o'.input ≡ o.input
  pub faults : o'.read_faults ≡ o.read_faults
  pub clock : o'.clock ≡ o.clock

-- what a run meets outside, with a history and its keeper's fault counter
abbrev pub world : {I : Type 0} → Outside I → History → ℕ → World Ledger I
world o H faults = record {
  state = record { history = H; faults = faults };
  source = o.input;
  read_faults = o.read_faults;
  desk = desk o;
}

-- ---- one connection from an opening history on

-- what is kept, by a last history and the wishes that were judged on the way to it
abbrev pub Keeps : Type 1
Keeps = History → List JudgedWish → Type 0

-- what a stop may leave of the keeper of this book: since the book was opened, and since one connection was served over
-- it
abbrev pub KeepsSince : {K : Type 0} → Keepers K → SeenBook K → K → Keeps
KeepsSince keepers book keeper' history judged =
    KeepsTold keepers book.opened keeper' history
    × KeepsWishesTold keepers book.keeper keeper' book.log history judged

-- From this history on, whose rows the keeper had, a connection was served to its ending, and the keeper was handed
-- back with the rows of the last history, of which `keeps` holds: what a stop may leave.
pub record Pipes {K I : Type 0} (rows : K → Option (List Row)) (keeps : Keeps) (faults : K → ℕ)
    (left : I → Option (List ℕ)) (gives : I → I → List ℕ → Type 0) (opening : History) (ending : Ending)
    (keeper keeper' : K) (o o' : Outside I) : Type 0 where
  pub history : History
  pub legal : Legal history
  pub kept : IsKept rows keeper' history
  pub connection : ConnectionBytes left gives ending 0 [] (world o opening (faults keeper))
      (world o' history (faults keeper'))
  pub besides : keeps history (connection.answered ++ listed connection.failed)
  pub whole : (b : List ℕ) → left o.input ≡ Some b
      → WholeBytes left ending b (world o opening (faults keeper)) (world o' history (faults keeper'))

-- ---- the exits

-- A connection was served to its ending over a keeper in memory, which counts no fault, so that nothing is lost: the
-- exit says how the connection ended.
pub record ServesPipe {I : Type 0} (left : I → Option (List ℕ)) (gives : I → I → List ℕ → Type 0)
    (opening : History) (exit : Exit) (o o' : Outside I) : Type 0 where
  pub ending : Ending
  pub exit_is : exit ≡ exit_of ending
  pub history : History
  pub legal : Legal history
  pub connection : ConnectionBytes left gives ending 0 [] (world o opening 0) (world o' history 0)
  pub none_lost : lost_count (connection.answered ++ listed connection.failed) ≡ 0
  pub whole : (b : List ℕ) → left o.input ≡ Some b → WholeBytes left ending b (world o opening 0) (world o' history 0)

-- Words were refused: nothing was read, no clock was asked, and the usage line was written, or a part of it where its
-- write failed.
pub record TellsUsage {I : Type 0} (exit : Exit) (o o' : Outside I) : Type 0 where
  pub unread : ReadsNothing o o'
  pub written : ((exit ≡ exits.Usage) × Writes usage o.output o'.output)
      ⊎ ((exit ≡ exits.WriteFault) × BreaksOff usage o.output o'.output)

-- the summary of a drill was written, or its write broke off; or memory ran out, and nothing was written
abbrev pub TellsDrill : ℕ → ℕ → Exit → Outlet → Outlet → Type 0
TellsDrill seed steps exits.Done o o' = Writes (summary steps (drilled seed steps)) o o'
TellsDrill seed steps exits.WriteFault o o' = BreaksOff (summary steps (drilled seed steps)) o o'
TellsDrill seed steps exits.OutOfMemory o o' = o' ≡ o
TellsDrill seed steps _ o o' = ⊥

-- ---- nothing fails

-- none of the three fault counters rose
pub record IsFaultless {I : Type 0} (o o' : Outside I) : Type 0 where
  pub read : Rises o.read_faults o'.read_faults → ⊥
  pub written : Rises o.output.faults o'.output.faults → ⊥
  pub timed : Rises o.clock.faults o'.clock.faults → ⊥

-- Each wish that the bytes spell has its answer, told on the history that the wishes before it lead to, from the
-- opening one on; then comes what the end of the bytes is answered, which gives the exit. Each of these answers was
-- begun once, before its first byte, and the clock gave their moments, one an answer, in the order in which they were
-- to come.
pub record AnswersAll {I : Type 0} (opening : History) (exit : Exit) (b : List ℕ) (o o' : Outside I) : Type 0 where
  pub wishes : List Wish
  pub end : End
  pub spells : Wishes b wishes end
  pub exit_is : exit ≡ exit_at end
  pub legal : Legal (steps_along opening wishes)
  -- the moment of the refusal at the end, where there is one
  pub at : ℕ
  pub told : GivesAnswers (told_along 0 opening wishes ++ last_words end at) (desk o) (desk o')
