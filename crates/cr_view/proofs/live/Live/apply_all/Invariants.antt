-- SPDX-License-Identifier: Apache-2.0 OR MIT
use Rattle.std.proofs.Common.{◌≡◌, ◌++◌, length}
use Rattle.cr_base.specs.History.{History}
use Rattle.cr_base.specs.Tables.{tables_from, FitInTurn}
use Rattle.cr_view.specs.Room.{RoomFor}
use Rattle.cr_view.proofs.live.Live.apply_all.Given as goal

abbrev pub invariant-loop-stamped : goal.invariant-loop-stamped
invariant-loop-stamped l =
    record {
      rest : tables_from l.self.tables l.stamped-iterator.rest.items ≡ tables_from l.fn.self.tables l.fn.group.items;
      fits : FitInTurn l.self.tables l.stamped-iterator.rest.items;
      enough : RoomFor l.stamped-iterator.rest.items l.self.rooms;
      room : (more : History) → RoomFor (l.fn.group.items ++ more) l.fn.self.rooms
          → RoomFor (l.stamped-iterator.rest.items ++ more) l.self.rooms;
      count : length l.stamped-iterator.rest.items ≡ l.stamped-iterator.rest.len;
    }
