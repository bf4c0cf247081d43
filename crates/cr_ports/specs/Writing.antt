-- SPDX-License-Identifier: Apache-2.0 OR MIT
-- What writing does to a sink.
use Rattle.std.specs.Prelude.{◌≡◌, ◌≢◌, ℕ, ◌≤◌, List, [], ◌∷◌, ◌++◌, Option}
use Rattle.cr_ports.specs.Count.{Rises}
use Rattle.cr_ports.specs.Stream.{Taken, taken_and, and_begun}

-- a sink: what it took, where it tells that, and its count of faults
pub record Outlet : Type 0 where
  pub taken : Option Taken
  pub faults : ℕ

-- what contracts see of a sink: what it has taken and its fault counter, by the members of its trait
abbrev pub outlet_of : {O : Type 0} → (O → Option Taken) → (O → ℕ) → O → Outlet
outlet_of taken faults sink = record { taken = taken sink; faults = faults sink }

-- ---- bytes that are written as they come

-- All of these bytes were written, and no write failed; no answer was begun.
pub record Writes (bytes : List ℕ) (s s' : Outlet) : Type 0 where
  pub took : s'.taken ≡ taken_and s.taken bytes
  pub steady : s'.faults ≡ s.faults

-- After a part of these bytes the write failed, and nothing more was written; no answer was begun.
pub record BreaksOff (bytes : List ℕ) (s s' : Outlet) : Type 0 where
  pub part : List ℕ
  pub missing : List ℕ
  pub parts : bytes ≡ part ++ missing
  pub short : missing ≢ []
  pub took : s'.taken ≡ taken_and s.taken part
  pub later : s.faults ≤ s'.faults
  pub rises : Rises s.faults s'.faults

-- ---- answers, each of which is begun

-- what was taken, if that is told, and then these answers, one after another, each begun before its bytes
abbrev pub and_answers : Option Taken → List (List ℕ) → Option Taken
and_answers t [] = t
and_answers t (text ∷ texts) = and_answers (taken_and (and_begun t) text) texts

-- All of these answers were written, each begun once and before its first byte, and no write failed.
pub record WritesAnswers (texts : List (List ℕ)) (s s' : Outlet) : Type 0 where
  pub took : s'.taken ≡ and_answers s.taken texts
  pub steady : s'.faults ≡ s.faults

-- The answers before were written whole. Then this one was begun, once and before its first byte; after a part of it
-- the write failed, and nothing more was written.
pub record AnswerBreaksOff (before : List (List ℕ)) (text : List ℕ) (s s' : Outlet) : Type 0 where
  pub part : List ℕ
  pub missing : List ℕ
  pub parts : text ≡ part ++ missing
  pub short : missing ≢ []
  pub took : s'.taken ≡ and_answers s.taken (before ++ part ∷ [])
  pub later : s.faults ≤ s'.faults
  pub rises : Rises s.faults s'.faults
