-- SPDX-License-Identifier: Apache-2.0 OR MIT
-- What contracts see of all tables.
use Rattle.cr_base.specs.Tables.{Tables}
use Rattle.cr_view.specs.Room.{Rooms}

-- the tables, and the room of each
pub record SeenTables : Type 0 where
  pub tables : Tables
  pub rooms : Rooms
