-- SPDX-License-Identifier: Apache-2.0 OR MIT
-- Doors, which give connections: how many, how they answer, and what they tell of those that came back.
use Rattle.std.specs.Prelude.{◌≡◌, ℕ, zero, suc, ◌+◌, ◌/◌, ◌%◌, ◌<◌, ◌≤◌, List, [], ◌∷◌, ◌++◌}
use Rattle.std.specs.Prelude.{Bool, true, false, nat_lt, if◌then◌else◌, Option, Some, None}
use Rattle.cr_ports.specs.Count.{Rises}
use Rattle.cr_ports.specs.declared.door.DoorAnswer.{DoorAnswer}
use Rattle.cr_ports.specs.declared.door.DoorAnswer.TheVariants as answers
use Rattle.cr_ports.specs.declared.door.NextConnection.{NextConnection}
use Rattle.cr_ports.specs.declared.door.NextConnection.TheVariants as next
use Rattle.cr_ports.specs.declared.door.Served.{Served}

-- ---- shares

-- how many of these connections door number i, from 0, of so many gives
abbrev pub share_of : ℕ → ℕ → ℕ → ℕ
share_of i workers connections = connections / workers + (if nat_lt i (connections % workers) then 1 else 0)

-- the shares of the doors below number i, in their order
abbrev pub shares_below : ℕ → ℕ → ℕ → List ℕ
shares_below zero workers connections = []
shares_below (suc i) workers connections = shares_below i workers connections ++ share_of i workers connections ∷ []

-- the shares of all doors, one a worker, in their order
abbrev pub shares : ℕ → ℕ → List ℕ
shares workers connections = shares_below workers workers connections

-- ---- one answer of a door

-- a connection was given
abbrev pub gives : {I O C : Type 0} → NextConnection I O C → Bool
gives (next.Conn source sink clock) = true
gives next.Done = false
gives next.Failed = false

-- How many connections are left before and after an answer: a connection given is one of them, and `Done` means that
-- none is left.
abbrev pub LeftAfter : {I O C : Type 0} → NextConnection I O C → ℕ → ℕ → Type 0
LeftAfter (next.Conn source sink clock) before now = before ≡ now + 1
LeftAfter next.Done before now = (before ≡ 0) × (now ≡ 0)
LeftAfter next.Failed before now = (0 < before) × (now ≡ before)

-- The fault counter before and after an answer: it rose if the door failed, and only then.
abbrev pub FaultsAfterNext : {I O C : Type 0} → NextConnection I O C → ℕ → ℕ → Type 0
FaultsAfterNext (next.Conn source sink clock) before now = now ≡ before
FaultsAfterNext next.Done before now = now ≡ before
FaultsAfterNext next.Failed before now = (before ≤ now) × Rises before now

-- ---- what a door tells of itself

-- a door's last answer, if it was asked; the connection that is out, as it was given; and those given back, in order
pub record DoorLog (I O C : Type 0) : Type 0 where
  pub last : Option DoorAnswer
  pub out : Option (I × O × C)
  pub served : List (Served I O C)

-- the log of a door that wasn't asked yet
abbrev pub unasked : {I O C : Type 0} → DoorLog I O C
unasked = record { last = None; out = None; served = [] }

-- the log once this was answered
abbrev pub answered : {I O C : Type 0} → DoorLog I O C → NextConnection I O C → DoorLog I O C
answered log (next.Conn source sink clock) =
    record { last = Some answers.Conn; out = Some (source, sink, clock); served = log.served }
answered log next.Done = record { last = Some answers.Done; out = log.out; served = log.served }
answered log next.Failed = record { last = Some answers.Failed; out = log.out; served = log.served }

-- the connection that was out, given back in this state
abbrev pub back_as : {I O C : Type 0} → Option (I × O × C) → I → O → C → List (Served I O C)
back_as None source sink clock = []
back_as (Some given) source sink clock = record { given = given; back = (source, sink, clock) } ∷ []

-- the log once the connection that was out was given back
abbrev pub given_back : {I O C : Type 0} → DoorLog I O C → I → O → C → DoorLog I O C
given_back log source sink clock =
    record { last = log.last; out = None; served = log.served ++ back_as log.out source sink clock }

-- the log, where it is told, once this was answered
abbrev pub and_answer : {I O C : Type 0} → Option (DoorLog I O C) → NextConnection I O C → Option (DoorLog I O C)
and_answer None answer = None
and_answer (Some log) answer = Some (answered log answer)

-- the log, where it is told, once the connection that was out was given back
abbrev pub and_back : {I O C : Type 0} → Option (DoorLog I O C) → I → O → C → Option (DoorLog I O C)
and_back None source sink clock = None
and_back (Some log) source sink clock = Some (given_back log source sink clock)
