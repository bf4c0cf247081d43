-- SPDX-License-Identifier: Apache-2.0 OR MIT
-- For which entries there is room in the table of seats.
use Rattle.std.specs.Prelude.{ℕ, List, map, Option, Some, None}
use Rattle.std.specs.List.{filter_map}
use Rattle.cr_base.specs.declared.entry.Entry.{Entry}
use Rattle.cr_base.specs.declared.entry.Entry.TheVariants.{Assigned, Invited}
use Rattle.cr_base.specs.declared.entry.Stamped.{Stamped}
use Rattle.cr_base.specs.declared.pairs.Pair.{Pair}
use Rattle.cr_base.specs.declared.pairs.Order.TheVariants.{ByPaper, ByUser}
use Rattle.cr_base.specs.History.{History}
use Rattle.cr_base.specs.Pairs.{major}
use Rattle.cr_base.specs.Ties.{pair_of}
use Rattle.cr_rooms.specs.Rooms.{HasRoom}

-- for how many more seats of each paper there is room, for how many more pairs of each user who reviews, and for how
-- many more invitations to each paper and of each user
pub record SeatsRooms : Type 0 where
  pub seats : List ℕ
  pub reviewing : List ℕ
  pub invites : List ℕ
  pub inviting : List ℕ

-- the paper and the user whom the entry assigns to it, where it does
abbrev pub pair_assigned : Entry → Option Pair
pair_assigned (Assigned paper user kind ordinal) = Some (pair_of paper user)
pair_assigned _ = None

abbrev pub assigned_pair : Stamped → Option Pair
assigned_pair e = pair_assigned e.entry

-- the paper and the user whom the entry invites to it, where it does
abbrev pub pair_invited : Entry → Option Pair
pair_invited (Invited paper user) = Some (pair_of paper user)
pair_invited _ = None

abbrev pub invited_pair : Stamped → Option Pair
invited_pair e = pair_invited e.entry

-- there is room for a seat, and for a pair by user, of each assignment among the entries, and for each invitation
pub record SeatsHaveRoom (group : History) (rooms : SeatsRooms) : Type 0 where
  pub seats : HasRoom (map (λ (q : Pair). q.paper) (filter_map assigned_pair group)) rooms.seats
  pub reviewing : HasRoom (map (λ (q : Pair). q.user) (filter_map assigned_pair group)) rooms.reviewing
  pub invites : HasRoom (map (major ByPaper) (filter_map invited_pair group)) rooms.invites
  pub inviting : HasRoom (map (major ByUser) (filter_map invited_pair group)) rooms.inviting
