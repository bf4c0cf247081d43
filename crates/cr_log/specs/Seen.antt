-- SPDX-License-Identifier: Apache-2.0 OR MIT
-- What contracts see of a log, and of what it finds.
use Rattle.std.specs.Prelude.{ℕ, [], ◌∷◌, length, Option, Some, None}
use Rattle.cr_base.specs.declared.entry.Stamped.{Stamped}
use Rattle.cr_base.specs.History.{History}

-- the history, and for how many more entries and for how many more numbers there is room
pub record SeenLog : Type 0 where
  pub entries : History
  pub room : ℕ
  pub numbers : ℕ

-- the first entry that was added under a number, and how many there are
pub record SeenKept : Type 0 where
  pub first : Stamped
  pub count : ℕ

-- the same of the entries, where there are any
abbrev pub seen_kept : History → Option SeenKept
seen_kept [] = None
seen_kept (e ∷ es) = Some (record { first = e; count = length (e ∷ es) })
