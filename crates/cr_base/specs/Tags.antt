-- SPDX-License-Identifier: Apache-2.0 OR MIT
-- Tags: their grammar and their order (the HotCRP manual's tags, `~` for one's own and `~~` for chairs), and the
-- table of the tags that are on.
use Rattle.std.specs.Prelude.{ℕ, Bool, true, false, ◌&&◌, ◌||◌, ◌==◌, nat_lt, List, []}
use Rattle.std.specs.Prelude.{◌∷◌, ◌++◌, map, filter, Option, Some, None, if◌then◌else◌}
use Rattle.std.specs.Cmp.Lexicographic.{slice_cmp}
use Rattle.std.specs.declared.cmp.Ordering.{Ordering}
use Rattle.std.specs.Ordering.{is_lt, nat_cmp, ordering_then}
use Rattle.std.specs.Str.{bytes_eq}
use Rattle.cr_base.specs.declared.entry.Entry.{Entry}
use Rattle.cr_base.specs.declared.entry.Entry.TheVariants.{Tagged}
use Rattle.cr_base.specs.declared.filed.Filed.{Filed}
use Rattle.cr_base.specs.declared.tag.SetTag.{SetTag}
use Rattle.cr_base.specs.Filed.{filed, filed_of}
use Rattle.cr_base.specs.Lists.{is_number, IsSorted}
use Rattle.cr_base.specs.TagTexts.{is_private, is_for_chairs}

-- ---- one tag

-- the owner of a tag that this user sets: the user, if it is private; else none
abbrev pub tag_owner : List ℕ → ℕ → Option ℕ
tag_owner tag maker = if is_private tag then Some maker else None

-- an owner's number; 0 if the tag has none
abbrev pub owner_number : Option ℕ → ℕ
owner_number None = 0
owner_number (Some user) = user

-- the first text comes before the second, by its bytes
abbrev pub bytes_before : List ℕ → List ℕ → Bool
bytes_before x y = is_lt (slice_cmp nat_cmp x y)

-- the first tag comes before the second: by its bytes, and of equal ones by their owners
abbrev pub tag_before : SetTag → SetTag → Bool
tag_before x y =
    bytes_before x.tag y.tag || (bytes_eq x.tag y.tag && nat_lt (owner_number x.owner) (owner_number y.owner))

-- how the first tag compares to the second, as `tag_before` orders them
abbrev pub tag_order : SetTag → SetTag → Ordering
tag_order x y = ordering_then (slice_cmp nat_cmp x.tag y.tag) (nat_cmp (owner_number x.owner) (owner_number y.owner))

-- ---- the tags of one paper that are on

-- each tag comes before all later ones, so none is there twice
abbrev pub IsSortedTags : List SetTag → Type 0
IsSortedTags ts = IsSorted tag_before ts

-- the tags, in their order, with this one on, or off
abbrev pub with_tag : Bool → SetTag → List SetTag → List SetTag
with_tag on t ts =
    filter (λ (s : SetTag). tag_before s t) ts ++ (if on then t ∷ [] else [])
    ++ filter (λ (s : SetTag). tag_before t s) ts

-- the tag's owner, if it has one, is the reader
abbrev pub is_owner : Option ℕ → Option ℕ → Bool
is_owner u None = false
is_owner u (Some owner) = is_number u owner

-- the tag is for this reader: the committee's, the reader's own private one, or a chairs', if the reader is one
abbrev pub is_tag_for : Option ℕ → Bool → SetTag → Bool
is_tag_for u chair t = if is_for_chairs t.tag then chair else (if is_private t.tag then is_owner u t.owner else true)

-- the tags that are for this reader, by their bytes
abbrev pub tags_for : Option ℕ → Bool → List SetTag → List (List ℕ)
tags_for u chair ts = map (λ (t : SetTag). t.tag) (filter (is_tag_for u chair) ts)

-- ---- the state

-- the tags that are on: paper by paper, and those of a paper in their order
abbrev pub TagsState : Type 0
TagsState = List (Filed SetTag)

-- no tags
abbrev pub no_tags : TagsState
no_tags = []

-- the first comes before the second: by their papers, and of one paper by their tags
abbrev pub stands_before : Filed SetTag → Filed SetTag → Bool
stands_before x y = nat_lt x.paper y.paper || (x.paper == y.paper && tag_before x.value y.value)

-- how the first compares to the second, as `stands_before` orders them
abbrev pub filed_order : Filed SetTag → Filed SetTag → Ordering
filed_order x y = ordering_then (nat_cmp x.paper y.paper) (tag_order x.value y.value)

-- each comes before all later ones
abbrev pub IsSortedState : TagsState → Type 0
IsSortedState tags = IsSorted stands_before tags

-- the tags with this one on, in its place, or off
abbrev pub tag_switched : Bool → Filed SetTag → TagsState → TagsState
tag_switched on x xs =
    filter (λ (y : Filed SetTag). stands_before y x) xs ++ (if on then x ∷ [] else [])
    ++ filter (λ (y : Filed SetTag). stands_before x y) xs

-- the tags after one more entry, by this maker
abbrev pub tags_after : TagsState → ℕ → Entry → TagsState
tags_after tags maker (Tagged paper tag on) =
    tag_switched on (filed paper (record { tag = tag; owner = tag_owner tag maker })) tags
tags_after tags maker _ = tags

-- ---- what is read

-- the tags on the paper that are for this reader, by their bytes
abbrev pub tags_in : TagsState → Option ℕ → Bool → ℕ → List (List ℕ)
tags_in tags u chair p = tags_for u chair (filed_of p tags)
