-- SPDX-License-Identifier: Apache-2.0 OR MIT
use Rattle.std.proofs.Common.{◌≡◌, ◌+◌, ◌-◌, vec_len}
use Rattle.cr_kept.specs.Drawers.{files_from, rooms_of}
use Rattle.cr_rooms.specs.Rooms.{IsNoLess}
use Rattle.cr_kept.proofs.cabinet.fill.Given as goal

abbrev pub invariant-loop-alloc : goal.invariant-loop-alloc
invariant-loop-alloc g l = (files_from 0 l.drawers.items ≡ files_from 0 l.initial.drawers.items)
    × IsNoLess (rooms_of l.initial.drawers.items) (rooms_of l.drawers.items)

abbrev pub decreases-loop-alloc : goal.decreases-loop-alloc
decreases-loop-alloc g l = l.index + 1 - vec_len l.drawers
