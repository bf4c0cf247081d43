-- SPDX-License-Identifier: Apache-2.0 OR MIT
-- What contracts see of the table of papers.
use Rattle.std.specs.Prelude.{ℕ, List}
use Rattle.cr_base.specs.declared.filed.Filed.{Filed}
use Rattle.cr_base.specs.History.{Upload}
use Rattle.cr_base.specs.Papers.{PapersState}

-- for how many more papers there is room, and by the paper's number for how many more uploads to it
pub record PapersRooms : Type 0 where
  pub papers : ℕ
  pub uploads : List ℕ

-- the papers and the sums, and the room for more
pub record SeenPapers : Type 0 where
  pub papers : PapersState
  pub rooms : PapersRooms

-- the uploads paper by paper, and by the paper's number for how many more to it there is room
pub record SeenUploads : Type 0 where
  pub uploads : List (Filed Upload)
  pub rooms : List ℕ
