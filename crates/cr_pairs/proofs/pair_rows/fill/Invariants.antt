-- SPDX-License-Identifier: Apache-2.0 OR MIT
use Rattle.std.proofs.Common.{◌≡◌, ◌+◌, ◌-◌, vec_len}
use Rattle.cr_rooms.specs.Rooms.{IsNoLess}
use Rattle.cr_pairs.specs.Rows.{ties_in, rooms_of, AreRows}
use Rattle.cr_pairs.proofs.pair_rows.fill.Given as goal

abbrev pub invariant-loop-alloc : goal.invariant-loop-alloc
invariant-loop-alloc g l = AreRows l.order 0 l.rows.items × (ties_in l.rows.items ≡ ties_in l.initial.rows.items)
    × IsNoLess (rooms_of l.initial.rows.items) (rooms_of l.rows.items)

abbrev pub decreases-loop-alloc : goal.decreases-loop-alloc
decreases-loop-alloc g l = l.index + 1 - vec_len l.rows
