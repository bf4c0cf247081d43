-- SPDX-License-Identifier: Apache-2.0 OR MIT
-- The parts of an entry that a reader may be shown.
use Rattle.std.specs.Prelude.{ℕ, Bool, true, false, List, [], ◌∷◌, ◌==◌, ◌||◌}
use Rattle.std.specs.List.{list_any}

-- the parts that an entry may have beside its kind and its paper, which are never hidden; `by` is who made it,
-- `at` when, `key` the number of the command that did, with the mark of its request, `value` that of a bid,
-- `review_kind` what a reviewer is to the paper, `n` a comment's number; the others are marks: `done` that under the
-- label is a form, `outcome` that the decision is what became of the reader's paper, `accepted` that the paper is
-- accepted
pub data Part : Type 0 where
  user : Part
  name : Part
  digest : Part
  role : Part
  phase : Part
  mode : Part
  by : Part
  title : Part
  abstract : Part
  version : Part
  content : Part
  on : Part
  value : Part
  review_kind : Part
  ordinal : Part
  score : Part
  confidence : Part
  to_authors : Part
  to_pc : Part
  done : Part
  n : Part
  text : Part
  tag : Part
  decision : Part
  outcome : Part
  accepted : Part
  at : Part
  until : Part
  key : Part

-- a number of its own for each part
abbrev pub part_number : Part → ℕ
part_number user = 0
part_number name = 1
part_number digest = 2
part_number role = 3
part_number phase = 4
part_number mode = 5
part_number by = 6
part_number title = 7
part_number abstract = 8
part_number version = 9
part_number content = 10
part_number on = 11
part_number value = 12
part_number review_kind = 13
part_number ordinal = 14
part_number score = 15
part_number confidence = 16
part_number to_authors = 17
part_number to_pc = 18
part_number done = 19
part_number n = 20
part_number text = 21
part_number tag = 22
part_number decision = 23
part_number outcome = 24
part_number accepted = 25
part_number at = 26
part_number until = 27
part_number key = 28

-- the part is one of these
abbrev pub these : List Part → Part → Bool
these parts part = list_any (λ p. part_number p == part_number part) parts

-- the part belongs to the whole of an entry, whatever its kind: it is one of its numbers and bytes, and neither who
-- made the entry, when or by which number, nor a mark
abbrev pub whole : Part → Bool
whole user = true
whole name = true
whole digest = true
whole role = true
whole phase = true
whole mode = true
whole by = false
whole title = true
whole abstract = true
whole version = true
whole content = true
whole on = true
whole value = true
whole review_kind = true
whole ordinal = true
whole score = true
whole confidence = true
whole to_authors = true
whole to_pc = true
whole done = false
whole n = true
whole text = true
whole tag = true
whole decision = true
whole outcome = false
whole accepted = false
whole at = false
whole until = true
whole key = false

-- the part belongs to the whole of an entry, or is one of these
abbrev pub whole_and : List Part → Part → Bool
whole_and parts part = whole part || these parts part

-- the part is one that the user who made an entry is shown of it: the whole, its timestamp, and its command's number
abbrev pub own_parts : Part → Bool
own_parts = whole_and (at ∷ key ∷ [])
