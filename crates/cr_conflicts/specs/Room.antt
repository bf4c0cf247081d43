-- SPDX-License-Identifier: Apache-2.0 OR MIT
-- For which entries there is room in the table of ties.
use Rattle.std.specs.Prelude.{ℕ, List, map, Option, Some, None}
use Rattle.std.specs.List.{filter_map}
use Rattle.cr_base.specs.declared.entry.Entry.{Entry}
use Rattle.cr_base.specs.declared.entry.Entry.TheVariants.{Submitted, Coauthor, Conflict, Bid}
use Rattle.cr_base.specs.declared.entry.Stamped.{Stamped}
use Rattle.cr_base.specs.declared.pairs.Pair.{Pair}
use Rattle.cr_base.specs.History.{History}
use Rattle.cr_base.specs.Ties.{pair_of}
use Rattle.cr_rooms.specs.Rooms.{HasRoom}

-- for how many more of each paper there is room: authors, conflicts, declared ones and bids; and for how many more of
-- each user: papers whose author she is, and papers with which she is in conflict
pub record TiesRooms : Type 0 where
  pub authors : List ℕ
  pub authored : List ℕ
  pub conflicts : List ℕ
  pub conflicting : List ℕ
  pub declared : List ℕ
  pub bids : List ℕ

-- the paper and the user whom the entry by this maker makes its author, where it does; whose conflict it turns on or
-- off; and who bids by it
abbrev pub pair_authored : ℕ → Entry → Option Pair
pair_authored maker (Submitted paper title abstract) = Some (pair_of paper maker)
pair_authored maker (Coauthor paper user) = Some (pair_of paper user)
pair_authored maker _ = None

abbrev pub pair_conflicted : Entry → Option Pair
pair_conflicted (Conflict paper user on) = Some (pair_of paper user)
pair_conflicted _ = None

abbrev pub pair_bid : ℕ → Entry → Option Pair
pair_bid maker (Bid paper value) = Some (pair_of paper maker)
pair_bid maker _ = None

abbrev pub authored_pair : Stamped → Option Pair
authored_pair e = pair_authored e.stamp.maker e.entry

abbrev pub conflict_pair : Stamped → Option Pair
conflict_pair e = pair_conflicted e.entry

abbrev pub bid_pair : Stamped → Option Pair
bid_pair e = pair_bid e.stamp.maker e.entry

-- there is room for what each of the entries tells
pub record TiesHaveRoom (group : History) (rooms : TiesRooms) : Type 0 where
  pub authors : HasRoom (map (λ (q : Pair). q.paper) (filter_map authored_pair group)) rooms.authors
  pub authored : HasRoom (map (λ (q : Pair). q.user) (filter_map authored_pair group)) rooms.authored
  pub conflicts : HasRoom (map (λ (q : Pair). q.paper) (filter_map conflict_pair group)) rooms.conflicts
  pub conflicting : HasRoom (map (λ (q : Pair). q.user) (filter_map conflict_pair group)) rooms.conflicting
  pub declared : HasRoom (map (λ (q : Pair). q.paper) (filter_map conflict_pair group)) rooms.declared
  pub bids : HasRoom (map (λ (q : Pair). q.paper) (filter_map bid_pair group)) rooms.bids
