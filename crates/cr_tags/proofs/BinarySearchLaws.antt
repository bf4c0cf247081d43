-- SPDX-License-Identifier: Apache-2.0 OR MIT
-- What a search says of the tags of a paper, and what all are with one on in its place, or off.
use Rattle.std.proofs.Common.{ℕ, Bool, true, false, ◌≡◌, ◌∙◌, List, length, set, insert, Result, Ok, Err, MatchResult}
use Rattle.std.proofs.Common.{sym, ap, subst, arith}
use Rattle.std.specs.List.{remove}
use Rattle.std.specs.List.Sorted.{IsSearchInRange, IsBinarySearchResult}
use Rattle.cr_base.specs.declared.filed.Filed.{Filed}
use Rattle.cr_base.specs.declared.tag.SetTag.{SetTag}
use Rattle.cr_base.specs.Filed.{filed, filed_of}
use Rattle.cr_base.specs.Tags.{TagsState, IsSortedState, IsSortedTags, tag_before, tag_order, tag_switched}
use Rattle.cr_base.proofs.SortedLists.{sorted-searchable, switched-found, switched-gap}
use Rattle.cr_base.proofs.TagLaws.{tag_order-total, tag_before-order, sorted-tag_switched}
use Rattle.cr_kept.specs.Drawers.{with_values}
use Rattle.cr_tags.specs.BinarySearch.{IsAt, IsGapFor}
use Rattle.cr_tags.proofs.PaperTags.{sorted-of, with_own, switched-of}

-- a search ends where the tag stands, or where it would stand
pub searched : (t : SetTag) (tags : List SetTag) (found : Result ℕ ℕ) → IsSortedTags tags
    → IsSearchInRange found (length tags)
    → IsBinarySearchResult (λ (s : SetTag). tag_order s t) tags found
    → MatchResult found (IsAt t tags) (IsGapFor t tags)
searched t tags (Ok index) sorted in_range is = record { in_range = in_range; is = is }
searched t tags (Err index) sorted in_range is =
    let parts = is (sorted-searchable tag_order tag_order-total tag_before tag_before-order t tags sorted) in
    record { in_range = in_range; before = λ k d h. parts.0 k d (omega arith) h; behind = parts.1 }

module _ (p : ℕ) (t : SetTag) (tags : TagsState) (index : ℕ) (sorted : IsSortedState tags) where
  abbrev own : List SetTag
  own = filed_of p tags

  -- the tags after the tag was put where it stands, or would stand
  pub replaced : IsAt t own index → with_values p (set own index t) tags ≡ tag_switched true (filed p t) tags
  replaced at =
      ap (λ (ts : List SetTag). with_values p ts tags)
      (sym (switched-found tag_order tag_order-total tag_before tag_before-order true t own index
      (sorted-of p tags sorted) at.in_range at.is))
      ∙ switched-of p t true tags sorted

  pub inserted : IsGapFor t own index → with_values p (insert own index t) tags ≡ tag_switched true (filed p t) tags
  inserted gap =
      ap (λ (ts : List SetTag). with_values p ts tags)
      (sym (switched-gap tag_order tag_order-total tag_before tag_before-order true t own index gap.in_range gap.before
      gap.behind))
      ∙ switched-of p t true tags sorted

  -- after it was taken from where it stands
  pub removed : IsAt t own index → with_values p (remove own index) tags ≡ tag_switched false (filed p t) tags
  removed at =
      ap (λ (ts : List SetTag). with_values p ts tags)
      (sym (switched-found tag_order tag_order-total tag_before tag_before-order false t own index
      (sorted-of p tags sorted) at.in_range at.is))
      ∙ switched-of p t false tags sorted

  -- and as they stay, where the tag isn't on
  pub absent : IsGapFor t own index → tags ≡ tag_switched false (filed p t) tags
  absent gap =
      sym (with_own p tags sorted)
      ∙ ap (λ (ts : List SetTag). with_values p ts tags)
      (sym (switched-gap tag_order tag_order-total tag_before tag_before-order false t own index gap.in_range gap.before
      gap.behind))
      ∙ switched-of p t false tags sorted

-- the order stays
pub sorted-after : (on : Bool) (x : Filed SetTag) (tags new : TagsState) → IsSortedState tags
    → new ≡ tag_switched on x tags → IsSortedState new
sorted-after on x tags new sorted is = subst IsSortedState (sym is) (sorted-tag_switched on x tags sorted)
