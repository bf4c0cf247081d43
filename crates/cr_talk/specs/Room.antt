-- SPDX-License-Identifier: Apache-2.0 OR MIT
-- Room for what a group of entries comments, and for what authors respond.
use Rattle.std.specs.Prelude.{ℕ, List, Option, Some, None}
use Rattle.cr_base.specs.declared.entry.Entry.{Entry}
use Rattle.cr_base.specs.declared.entry.Entry.TheVariants.{Commented, Responded}
use Rattle.cr_base.specs.declared.entry.Stamped.{Stamped}
use Rattle.cr_base.specs.History.{History}
use Rattle.cr_rooms.specs.Rooms.{HasRoomFor}

-- for how many more comments on each paper there is room, and for how many more responses of its authors
pub record TalkRooms : Type 0 where
  pub comments : List ℕ
  pub responses : List ℕ

-- the paper on which an entry comments, if it does
abbrev pub comments_on : Entry → Option ℕ
comments_on (Commented paper n ordinal text) = Some paper
comments_on _ = None

abbrev pub paper_commented : Stamped → Option ℕ
paper_commented stamped = comments_on stamped.entry

-- the paper whose authors respond by an entry, if they do
abbrev pub responds_on : Entry → Option ℕ
responds_on (Responded paper text) = Some paper
responds_on _ = None

abbrev pub paper_responded : Stamped → Option ℕ
paper_responded stamped = responds_on stamped.entry

-- there is room for all comments of the group, and for all responses
pub record TalkHasRoom (group : History) (rooms : TalkRooms) : Type 0 where
  pub comments : HasRoomFor paper_commented group rooms.comments
  pub responses : HasRoomFor paper_responded group rooms.responses
