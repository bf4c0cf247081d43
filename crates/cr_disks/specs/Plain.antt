-- SPDX-License-Identifier: Apache-2.0 OR MIT
-- A disk in memory that keeps no record.
use Rattle.std.specs.Prelude.{ℕ, List}

-- a plain disk: its bytes, for how many more it has room, and the faults that it has counted
pub record PlainHeld : Type 0 where
  pub bytes : List ℕ
  pub room : ℕ
  pub faults : ℕ
