-- SPDX-License-Identifier: Apache-2.0 OR MIT
-- What contracts see of what tables keep.
use Rattle.std.specs.Prelude.{ℕ, List}
use Rattle.cr_base.specs.declared.filed.Filed.{Filed}

-- the values of one paper, and for how many more there is room
pub record SeenDrawer (V : Type 0) : Type 0 where
  pub values : List V
  pub room : ℕ

-- the values of all papers, paper by paper, and by the paper's number for how many more of its values there is room
pub record SeenCabinet (V : Type 0) : Type 0 where
  pub files : List (Filed V)
  pub rooms : List ℕ

-- the sums by user number, and how many fit without taking memory
pub record SeenSums : Type 0 where
  pub sums : List ℕ
  pub capacity : ℕ
