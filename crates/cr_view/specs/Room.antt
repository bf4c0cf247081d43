-- SPDX-License-Identifier: Apache-2.0 OR MIT
-- For which entries there is room in the tables.
use Rattle.std.specs.Prelude.{ℕ, ◌≤◌, List, length}
use Rattle.cr_base.specs.History.{History}
use Rattle.cr_assign.specs.Room.{SeatsRooms, SeatsHaveRoom}
use Rattle.cr_conflicts.specs.Room.{TiesRooms, TiesHaveRoom}
use Rattle.cr_decisions.specs.Room.{DecisionsHaveRoom}
use Rattle.cr_papers.specs.Room.{PapersHaveRoom}
use Rattle.cr_papers.specs.Seen.{PapersRooms}
use Rattle.cr_reviews.specs.Room.{ReviewsHaveRoom}
use Rattle.cr_tags.specs.Room.{TagsHaveRoom}
use Rattle.cr_talk.specs.Room.{TalkRooms, TalkHasRoom}

-- the room of each table: for how many more accounts; and of each paper, and each user, for how many more of what the
-- table keeps together
pub record Rooms : Type 0 where
  pub accounts : ℕ
  pub papers : PapersRooms
  pub ties : TiesRooms
  pub seats : SeatsRooms
  pub reviews : List ℕ
  pub talk : TalkRooms
  pub tags : List ℕ
  pub decisions : List ℕ

-- each table has room for what the entries of the group tell it
pub record RoomFor (group : History) (rooms : Rooms) : Type 0 where
  pub accounts : length group ≤ rooms.accounts
  pub papers : PapersHaveRoom group rooms.papers
  pub ties : TiesHaveRoom group rooms.ties
  pub seats : SeatsHaveRoom group rooms.seats
  pub reviews : ReviewsHaveRoom group rooms.reviews
  pub talk : TalkHasRoom group rooms.talk
  pub tags : TagsHaveRoom group rooms.tags
  pub decisions : DecisionsHaveRoom group rooms.decisions
