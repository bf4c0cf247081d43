-- SPDX-License-Identifier: Apache-2.0 OR MIT
-- Room in the table of ties, entry by entry.
use Rattle.std.proofs.Common.{ℕ, ◌≡◌, List, ◌∷◌, map, arith, Some}
use Rattle.std.specs.List.{filter_map}
use Rattle.cr_base.specs.declared.entry.Stamped.{Stamped}
use Rattle.cr_base.specs.declared.pairs.Pair.{Pair}
use Rattle.cr_base.specs.History.{History}
use Rattle.cr_base.specs.Ties.{pair_of}
use Rattle.cr_rooms.specs.Rooms.{IsNoLess, IsOneLess}
use Rattle.cr_rooms.proofs.RoomLaws.{has-room-kept, told-rest, rest-kept}
use Rattle.cr_conflicts.specs.Room.{TiesRooms, TiesHaveRoom, authored_pair, conflict_pair, bid_pair}

abbrev paper : Pair → ℕ
paper q = q.paper

abbrev user : Pair → ℕ
user q = q.user

-- no paper and no user has less room
pub record HaveNoLess (old new : TiesRooms) : Type 0 where
  pub authors : IsNoLess old.authors new.authors
  pub authored : IsNoLess old.authored new.authored
  pub conflicts : IsNoLess old.conflicts new.conflicts
  pub conflicting : IsNoLess old.conflicting new.conflicting
  pub declared : IsNoLess old.declared new.declared
  pub bids : IsNoLess old.bids new.bids

-- so there is room for any group as before, and for the rest of one
pub room-kept : (any : History) (old new : TiesRooms) → HaveNoLess old new → TiesHaveRoom any old → TiesHaveRoom any new
room-kept any old new keeps has = record {
  authors = has-room-kept (map paper (filter_map authored_pair any)) old.authors new.authors has.authors keeps.authors;
  authored =
      has-room-kept (map user (filter_map authored_pair any)) old.authored new.authored has.authored keeps.authored;
  conflicts =
      has-room-kept (map paper (filter_map conflict_pair any)) old.conflicts new.conflicts has.conflicts
      keeps.conflicts;
  conflicting = has-room-kept (map user (filter_map conflict_pair any)) old.conflicting new.conflicting has.conflicting
      keeps.conflicting;
  declared =
      has-room-kept (map paper (filter_map conflict_pair any)) old.declared new.declared has.declared keeps.declared;
  bids = has-room-kept (map paper (filter_map bid_pair any)) old.bids new.bids has.bids keeps.bids;
}

pub room-rest : (e : Stamped) (rest : History) (rooms : TiesRooms) → TiesHaveRoom (e ∷ rest) rooms
    → TiesHaveRoom rest rooms
room-rest e rest rooms has = record {
  authors = rest-kept authored_pair paper e rest rooms.authors rooms.authors (same rooms.authors) has.authors;
  authored = rest-kept authored_pair user e rest rooms.authored rooms.authored (same rooms.authored) has.authored;
  conflicts = rest-kept conflict_pair paper e rest rooms.conflicts rooms.conflicts (same rooms.conflicts) has.conflicts;
  conflicting =
      rest-kept conflict_pair user e rest rooms.conflicting rooms.conflicting (same rooms.conflicting) has.conflicting;
  declared = rest-kept conflict_pair paper e rest rooms.declared rooms.declared (same rooms.declared) has.declared;
  bids = rest-kept bid_pair paper e rest rooms.bids rooms.bids (same rooms.bids) has.bids;
}
  where
    same : (ns : List ℕ) → IsNoLess ns ns
    same ns n = omega arith

-- a conflict and a bid leave room for the rest
module _ (e : Stamped) (p u : ℕ) (rest : History) (old : TiesRooms) (has : TiesHaveRoom (e ∷ rest) old) where
  behind : TiesHaveRoom rest old
  behind = room-rest e rest old has

  pub conflict-behind : (conflicts conflicting declared : List ℕ) → conflict_pair e ≡ Some (pair_of p u)
      → IsOneLess p old.conflicts conflicts
      → IsOneLess u old.conflicting conflicting → IsOneLess p old.declared declared
      → TiesHaveRoom rest (record old { conflicts = conflicts; conflicting = conflicting; declared = declared })
  conflict-behind conflicts conflicting declared told papers users named = record {
    authors = behind.authors;
    authored = behind.authored;
    conflicts = told-rest conflict_pair paper e (pair_of p u) rest old.conflicts conflicts told papers has.conflicts;
    conflicting =
        told-rest conflict_pair user e (pair_of p u) rest old.conflicting conflicting told users has.conflicting;
    declared = told-rest conflict_pair paper e (pair_of p u) rest old.declared declared told named has.declared;
    bids = behind.bids;
  }

  pub bid-behind : (bids : List ℕ) → bid_pair e ≡ Some (pair_of p u) → IsOneLess p old.bids bids
      → TiesHaveRoom rest (record old { bids = bids })
  bid-behind bids told papers = record {
    authors = behind.authors;
    authored = behind.authored;
    conflicts = behind.conflicts;
    conflicting = behind.conflicting;
    declared = behind.declared;
    bids = told-rest bid_pair paper e (pair_of p u) rest old.bids bids told papers has.bids;
  }
