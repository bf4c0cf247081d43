-- SPDX-License-Identifier: Apache-2.0 OR MIT
use Rattle.std.proofs.Common.{◌≡◌, take, map}
use Rattle.cr_base.specs.Pairs.{major}
use Rattle.cr_rooms.specs.Rooms.{HasRoom, IsNoLess}
use Rattle.cr_pairs.proofs.pair_rows.PairRows.room.Given as goal

abbrev pub invariant-loop-i : goal.invariant-loop-i
invariant-loop-i g l =
    HasRoom (map (major l.initial.self.order) (take l.i l.pairs)) l.self.rooms
    × (l.self.order ≡ l.initial.self.order)
    × (l.self.ties ≡ l.initial.self.ties)
    × IsNoLess l.initial.self.rooms l.self.rooms
