-- SPDX-License-Identifier: Apache-2.0 OR MIT
-- What contracts see of a book, and of one that is being read.
use Rattle.std.specs.Prelude.{List}
use Rattle.cr_base.specs.declared.entry.Stamped.{Stamped}

-- the history, the keeper of its rows, and that keeper as it was when the book was opened
pub record SeenBook (K : Type 0) : Type 0 where
  pub log : List Stamped
  pub keeper : K
  pub opened : K

-- the history of the groups that are whole, and the entries of the one that isn't yet
pub record SeenReading : Type 0 where
  pub log : List Stamped
  pub begun : List Stamped
