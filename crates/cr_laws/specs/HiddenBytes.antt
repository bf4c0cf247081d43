-- SPDX-License-Identifier: Apache-2.0 OR MIT
-- HiddenBytes: if a user wishes the same in two runs at the same timestamps, the same answers close the connection, and
-- the histories before each of the user's wishes differ only in what the user isn't shown, the runs agree in every byte
-- that the user is answered.
use Rattle.std.specs.Prelude.{ℕ, Option}
use Rattle.cr_policy.specs.HiddenPayload.{LooksSame}
use Rattle.cr_session.specs.TwoRuns.{Run, HearsAlike}
use Rattle.cr_laws.specs.AskedAlike.{AsksAlike}

-- HiddenBytes: of every user and an unauthenticated caller, and of any two runs, whatever they open with and whatever
-- others ask in them
abbrev pub HiddenBytes : Type 0
HiddenBytes = (u : Option ℕ) (one other : Run) → AsksAlike (LooksSame u) u one other → HearsAlike u one other
