-- SPDX-License-Identifier: Apache-2.0 OR MIT
use Rattle.std.proofs.Common.{◌≤◌, ◌∙◌, get_or, ap, subst, arith}
use Rattle.cr_kept.specs.Seen.{SeenCabinet, SeenDrawer}
use Rattle.cr_kept.specs.Drawers.{rooms_of}
use Rattle.cr_rooms.proofs.RoomLaws.{no-less-row, room-of-row}
use Rattle.cr_kept.proofs.DrawerLaws.{same-drawer}
use Rattle.cr_kept.proofs.cabinet.Cabinet.room_of.Goals as goal

pub returns-clause-ok : goal.returns-clause-ok
returns-clause-ok g c =
    rw (
      ← c.number-index.ensures.value,
      room-of-row (λ (d : SeenDrawer g.row.V.Denot). d.room) c.number-index.result
          c.fill.new.drawers.items c.room.new.self c.in_ok-fill.ensures.ok,
    ) c.room.ensures.ok

pub returns-clause-same : goal.returns-clause-same
returns-clause-same g c =
    same-drawer 0 c.number-index.result c.fill.new.drawers.items _ c.room.new.self c.in_ok-fill.ensures.ok
    (c.room.ensures.same ∙ ap (λ (d : SeenDrawer g.row.V.Denot). d.values) c.index_mut-drawer.ensures.value)
    ∙ c.fill.ensures.same
    ∙ ap (λ (s : SeenCabinet g.row.V.Denot). s.files) c.self.view_is

pub returns-clause-keeps : goal.returns-clause-keeps
returns-clause-keeps g c p =
    let V = g.row.V.Denot in
    let le = subst (λ (d : SeenDrawer V). d.room ≤ c.room.new.self.room) c.index_mut-drawer.ensures.value
    c.room.ensures.keeps in
    let first = subst (λ (s : SeenCabinet V). get_or s.rooms p 0 ≤ get_or (rooms_of c.fill.new.drawers.items) p 0)
    c.self.view_is (c.fill.ensures.keeps p) in
    let second = no-less-row (λ (d : SeenDrawer V). d.room) c.number-index.result c.fill.new.drawers.items
    c.index_mut-drawer.result.now c.room.new.self le p in
    omega (arith, first, second)
