-- SPDX-License-Identifier: Apache-2.0 OR MIT
-- How a stream in memory is told to behave, call by call.
use Rattle.std.specs.Prelude.{◌≡◌, ℕ, List, min, max, Option, Some, None, slice_get}
use Rattle.cr_ports.specs.Calls.{Advances, Listed}

-- the lengths that its calls move at most, which calls fail, and how many faults were counted
pub record Scripted : Type 0 where
  pub pieces : List ℕ
  pub calls : Listed
  pub faults : ℕ

-- a listed length, at least 1, or all that is wanted where none is listed
abbrev pub at_most : Option ℕ → ℕ → ℕ
at_most None wanted = wanted
at_most (Some n) wanted = min (max n 1) wanted

-- how many bytes the next call moves of those that are wanted
abbrev pub moved : Scripted → ℕ → ℕ
moved s wanted = at_most (slice_get s.pieces s.calls.made) wanted

-- One call was counted, by the same lists.
pub record FollowsScript (old new : Scripted) : Type 0 where
  pub pieces : new.pieces ≡ old.pieces
  pub calls : Advances old.calls new.calls
