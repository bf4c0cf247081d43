-- SPDX-License-Identifier: Apache-2.0 OR MIT
-- Where a tag stands among those on a paper, or where it would stand.
use Rattle.std.specs.Prelude.{ℕ, ◌≡◌, ◌≤◌, ◌<◌, List, length, slice_index_or}
use Rattle.std.specs.declared.cmp.Ordering.TheVariants.{Less, Equal, Greater}
use Rattle.cr_base.specs.declared.tag.SetTag.{SetTag}
use Rattle.cr_base.specs.Tags.{tag_order}

-- the tag, of the same owner, stands at this index
pub record IsAt (t : SetTag) (tags : List SetTag) (index : ℕ) : Type 0 where
  pub in_range : index < length tags
  pub is : (d : SetTag) → tag_order (slice_index_or tags index d) t ≡ Equal

-- it would stand at this index: what is before comes before it, and it comes before what is behind
pub record IsGapFor (t : SetTag) (tags : List SetTag) (index : ℕ) : Type 0 where
  pub in_range : index ≤ length tags
  pub before : (k : ℕ) (d : SetTag) → k < index → tag_order (slice_index_or tags k d) t ≡ Less
  pub behind : (k : ℕ) (d : SetTag) → index ≤ k → k < length tags → tag_order (slice_index_or tags k d) t ≡ Greater
