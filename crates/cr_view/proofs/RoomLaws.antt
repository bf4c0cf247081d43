-- SPDX-License-Identifier: Apache-2.0 OR MIT
-- Room in the tables, of all of them.
use Rattle.std.proofs.Common.{◌≤◌, arith}
use Rattle.cr_base.specs.History.{History}
use Rattle.cr_assign.specs.Room.{SeatsHaveRoom}
use Rattle.cr_conflicts.specs.Room.{TiesHaveRoom}
use Rattle.cr_decisions.specs.Room.{DecisionsHaveRoom}
use Rattle.cr_papers.specs.Room.{PapersHaveRoom}
use Rattle.cr_reviews.specs.Room.{ReviewsHaveRoom}
use Rattle.cr_tags.specs.Room.{TagsHaveRoom}
use Rattle.cr_talk.specs.Room.{TalkHasRoom}
use Rattle.cr_view.specs.Room.{Rooms, RoomFor}

-- where each table has room as before, there is room as before
pub room-kept : (any : History) (old new : Rooms) → old.accounts ≤ new.accounts
    → (PapersHaveRoom any old.papers → PapersHaveRoom any new.papers)
    → (TiesHaveRoom any old.ties → TiesHaveRoom any new.ties)
    → (SeatsHaveRoom any old.seats → SeatsHaveRoom any new.seats)
    → (ReviewsHaveRoom any old.reviews → ReviewsHaveRoom any new.reviews)
    → (TalkHasRoom any old.talk → TalkHasRoom any new.talk)
    → (TagsHaveRoom any old.tags → TagsHaveRoom any new.tags)
    → (DecisionsHaveRoom any old.decisions → DecisionsHaveRoom any new.decisions)
    → RoomFor any old → RoomFor any new
room-kept any old new accounts papers ties seats reviews talk tags decisions has = record {
  accounts = let enough = has.accounts in omega (arith, accounts, enough);
  papers = papers has.papers;
  ties = ties has.ties;
  seats = seats has.seats;
  reviews = reviews has.reviews;
  talk = talk has.talk;
  tags = tags has.tags;
  decisions = decisions has.decisions;
}
