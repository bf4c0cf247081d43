-- SPDX-License-Identifier: Apache-2.0 OR MIT
-- What contracts see of the table of tags.
use Rattle.std.specs.Prelude.{ℕ, List}
use Rattle.cr_base.specs.Tags.{TagsState}

-- the tags that are on, and by the paper's number for how many more at it there is room
pub record SeenTags : Type 0 where
  pub tags : TagsState
  pub rooms : List ℕ
