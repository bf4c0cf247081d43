-- SPDX-License-Identifier: Apache-2.0 OR MIT
use Rattle.std.proofs.Common.{◌≡◌, take}
use Rattle.cr_rooms.specs.Rooms.{HasRoom, IsNoLess}
use Rattle.cr_kept.proofs.cabinet.Cabinet.room.Given as goal

abbrev pub invariant-loop-i : goal.invariant-loop-i
invariant-loop-i g l = HasRoom (take l.i l.papers) l.self.rooms × (l.self.files ≡ l.initial.self.files)
    × IsNoLess l.initial.self.rooms l.self.rooms
