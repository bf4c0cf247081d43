-- SPDX-License-Identifier: Apache-2.0 OR MIT
-- What contracts see of a door.
use Rattle.std.specs.Prelude.{ℕ, Bool, false}

-- how many connections it has still to give, whether one is out, and how often it failed
pub record DoorSeen : Type 0 where
  pub left : ℕ
  pub is_out : Bool
  pub faults : ℕ

-- a door that wasn't asked yet, with this share
abbrev pub new_door : ℕ → DoorSeen
new_door share = record { left = share; is_out = false; faults = 0 }
