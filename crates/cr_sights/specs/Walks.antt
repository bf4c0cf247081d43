-- SPDX-License-Identifier: Apache-2.0 OR MIT
-- What writing a view did to a sink.
use Rattle.std.specs.Prelude.{◌≡◌, ℕ, List, ◌++◌, Result, Ok, Err}
use Rattle.cr_ports.specs.Writing.{Outlet, Writes, BreaksOff}
use Rattle.cr_sights.specs.declared.walk.ViewError.{ViewError}
use Rattle.cr_sights.specs.declared.walk.ViewError.TheVariants.{WriteFault, OutOfMemory}

-- A part of the bytes was written, from their beginning, and no write failed.
pub record StopsShort (bytes : List ℕ) (s s' : Outlet) : Type 0 where
  pub part : List ℕ
  pub missing : List ℕ
  pub parts : bytes ≡ part ++ missing
  pub written : Writes part s s'

-- All of the bytes were written; or a part of them, after which a write failed, or memory ran out.
abbrev pub WritesView : Result (Unit {0}) ViewError → List ℕ → Outlet → Outlet → Type 0
WritesView (Ok done) bytes s s' = Writes bytes s s'
WritesView (Err WriteFault) bytes s s' = BreaksOff bytes s s'
WritesView (Err OutOfMemory) bytes s s' = StopsShort bytes s s'
