-- SPDX-License-Identifier: Apache-2.0 OR MIT
-- Answers as they are given: the clock gives the moment of each, and the sink takes its bytes.
use Rattle.std.specs.Prelude.{◌≡◌, ℕ, ◌≤◌, List, [], ◌∷◌, ◌++◌, map, Option}
use Rattle.cr_ports.specs.Count.{Rises}
use Rattle.cr_ports.specs.Stream.{Taken, and_left}
use Rattle.cr_ports.specs.Writing.{Outlet, outlet_of, WritesAnswers, AnswerBreaksOff}

-- ---- a clock

-- the moments that it has still to give, where it tells them, and its count of faults
pub record ClockState : Type 0 where
  pub coming : Option (List ℕ)
  pub faults : ℕ

-- what contracts see of a clock: the timestamps to come and the fault counter, by the members of its trait
abbrev pub clock_of : {C : Type 0} → (C → Option (List ℕ)) → (C → ℕ) → C → ClockState
clock_of coming faults clock = record { coming = coming clock; faults = faults clock }

-- It gave these moments, one a call, in the order in which they were to come, and no call failed.
pub record GivesMoments (moments : List ℕ) (c c' : ClockState) : Type 0 where
  pub gave : c.coming ≡ and_left moments c'.coming
  pub steady : c'.faults ≡ c.faults

-- It gave these moments, and then a call failed, which was counted.
pub record FailsBehind (moments : List ℕ) (c c' : ClockState) : Type 0 where
  pub gave : c.coming ≡ and_left moments c'.coming
  pub later : c.faults ≤ c'.faults
  pub rises : Rises c.faults c'.faults

-- ---- answers

-- an answer's bytes, and the moment that the clock gave for it
pub record Answer : Type 0 where
  pub text : List ℕ
  pub at : ℕ

-- what answers are given with: the sink that takes their bytes, and the clock that gives their moments
pub record Desk : Type 0 where
  pub sink : Outlet
  pub clock : ClockState

-- what contracts see of a sink and a clock, by the members of their traits
abbrev pub desk_of : {O C : Type 0} → (O → Option Taken) → (O → ℕ) → (C → Option (List ℕ)) → (C → ℕ) → O → C → Desk
desk_of taken write_faults coming clock_faults sink clock =
    record { sink = outlet_of taken write_faults sink; clock = clock_of coming clock_faults clock }

-- the bytes of each answer
abbrev pub texts_of : List Answer → List (List ℕ)
texts_of answers = map (λ (a : Answer). a.text) answers

-- the timestamp of each answer
abbrev pub times_of : List Answer → List ℕ
times_of answers = map (λ (a : Answer). a.at) answers

-- For each of these answers the clock was asked once, and gave its moment; each was begun once, before its first byte,
-- and written whole. No call of the clock failed, and no write.
pub record GivesAnswers (answers : List Answer) (d d' : Desk) : Type 0 where
  pub timed : GivesMoments (times_of answers) d.clock d'.clock
  pub written : WritesAnswers (texts_of answers) d.sink d'.sink

-- The answers before were given; then the clock gave this one's timestamp, it was begun, and after a part of it the
-- write failed.
pub record AnswerFails (before : List Answer) (answer : Answer) (d d' : Desk) : Type 0 where
  pub timed : GivesMoments (times_of (before ++ answer ∷ [])) d.clock d'.clock
  pub broken : AnswerBreaksOff (texts_of before) answer.text d.sink d'.sink

-- The answers before were given; for the next one the clock was asked and failed, and nothing was begun.
pub record ClockFails (before : List Answer) (d d' : Desk) : Type 0 where
  pub failed : FailsBehind (times_of before) d.clock d'.clock
  pub written : WritesAnswers (texts_of before) d.sink d'.sink
