-- SPDX-License-Identifier: Apache-2.0 OR MIT
-- What contracts see of the table of seats.
use Rattle.cr_base.specs.Invites.{InvitesState}
use Rattle.cr_base.specs.Seats.{SeatsState}
use Rattle.cr_assign.specs.Room.{SeatsRooms}

-- the seats, who is invited, and for how many more there is room
pub record SeenSeats : Type 0 where
  pub seats : SeatsState
  pub invites : InvitesState
  pub rooms : SeatsRooms
