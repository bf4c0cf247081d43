-- SPDX-License-Identifier: Apache-2.0 OR MIT
-- What contracts see of the table of ties.
use Rattle.cr_base.specs.Ties.{TiesState}
use Rattle.cr_conflicts.specs.Room.{TiesRooms}

-- the ties, and for how many more there is room
pub record SeenTies : Type 0 where
  pub ties : TiesState
  pub rooms : TiesRooms
