-- SPDX-License-Identifier: Apache-2.0 OR MIT
use Rattle.std.proofs.Common.{◌≤◌, ◌∙◌, get_or, ap, subst, arith}
use Rattle.cr_rooms.proofs.RoomLaws.{no-less-row, room-of-row}
use Rattle.cr_pairs.specs.Seen.{SeenPairs}
use Rattle.cr_pairs.specs.Seen.{SeenRows}
use Rattle.cr_pairs.specs.Rows.{rooms_of}
use Rattle.cr_pairs.proofs.RowLaws.{roomed}
use Rattle.cr_pairs.proofs.pair_rows.PairRows.room_of.Goals as goal

pub invariant_of-self-2 : goal.invariant_of-self-2
invariant_of-self-2 g c =
    (roomed c.self.inside.order c.args.number c.fill.new.rows.items c.index_mut-row.result.now c.room.new.self _
    c.in_ok-fill.ensures.ok c.index_mut-row.ensures.value c.fill.ensures.rows c.room.ensures.order
    c.room.ensures.same).1

pub returns-clause-ok : goal.returns-clause-ok
returns-clause-ok g c =
    rw (room-of-row (λ (r : SeenPairs g.row.V.Denot). r.room) c.args.number c.fill.new.rows.items c.room.new.self
    c.in_ok-fill.ensures.ok) c.room.ensures.ok

pub returns-clause-same : goal.returns-clause-same
returns-clause-same g c =
    (roomed c.self.inside.order c.args.number c.fill.new.rows.items c.index_mut-row.result.now c.room.new.self _
    c.in_ok-fill.ensures.ok c.index_mut-row.ensures.value c.fill.ensures.rows c.room.ensures.order
    c.room.ensures.same).0
    ∙ c.fill.ensures.same
    ∙ ap (λ (v : SeenRows g.row.V.Denot). v.ties) c.self.view_is

pub returns-clause-keeps : goal.returns-clause-keeps
returns-clause-keeps g c p =
    let first = subst (λ (v : SeenRows g.row.V.Denot). get_or v.rooms p 0 ≤ get_or (rooms_of c.fill.new.rows.items) p 0)
    c.self.view_is (c.fill.ensures.keeps p) in
    let second = no-less-row (λ (r : SeenPairs g.row.V.Denot). r.room) c.args.number c.fill.new.rows.items
    c.index_mut-row.result.now c.room.new.self
    (subst (λ (r : SeenPairs g.row.V.Denot). r.room ≤ c.room.new.self.room) c.index_mut-row.ensures.value
    c.room.ensures.keeps) p in
    omega (arith, first, second)
