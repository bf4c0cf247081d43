-- SPDX-License-Identifier: Apache-2.0 OR MIT
use Rattle.std.proofs.Common.{ℕ, ◌+◌, ◌<◌, ◌≤◌, ◌∙◌, get_or, ap, sym, subst, arith, length, set, [], ◌∷◌, ◌++◌}
use Rattle.cr_base.specs.Filed.{filed, with_filed}
use Rattle.cr_rooms.specs.Rooms.{IsOneLess}
use Rattle.cr_rooms.proofs.RoomLaws.{one-less-row, has-row}
use Rattle.cr_kept.specs.Seen.{SeenCabinet, SeenDrawer}
use Rattle.cr_kept.specs.Drawers.{rooms_of}
use Rattle.cr_kept.proofs.DrawerLaws.{put-drawer}
use Rattle.cr_kept.proofs.cabinet.Cabinet.file.Goals as goal

pub returns-clause-files : goal.returns-clause-files
returns-clause-files g c =
    let drawers = c.self.inside.drawers.items in
    let room =
    subst (λ (s : SeenCabinet g.row.V.Denot). 0 < get_or s.rooms c.args.paper 0) (sym c.self.view_is) c.requires in
    let there : c.number.result < length drawers = subst (λ (i : ℕ). i < length drawers) (sym c.number.ensures.value)
    (has-row (λ (d : SeenDrawer g.row.V.Denot). d.room) c.args.paper drawers room) in
    put-drawer c.args.paper 0 c.number.result c.args.value drawers _ c.push.new.self
    (omega (arith, c.number.ensures.value)) there
    (c.push.ensures.values ∙ ap (λ (d : SeenDrawer g.row.V.Denot). d.values ++ c.args.value ∷ [])
    c.index_mut-drawer.ensures.value)
    ∙ ap (λ (s : SeenCabinet g.row.V.Denot). with_filed (filed c.args.paper c.args.value) s.files) c.self.view_is

pub returns-clause-rooms : goal.returns-clause-rooms
returns-clause-rooms g c =
    let drawers = c.self.inside.drawers.items in
    let V = g.row.V.Denot in
    let le = subst (λ (d : SeenDrawer V). d.room ≤ c.push.new.self.room + 1) c.index_mut-drawer.ensures.value
    c.push.ensures.room in
    let less = one-less-row (λ (d : SeenDrawer V). d.room) c.number.result drawers c.index_mut-drawer.result.now
    c.push.new.self le in
    let at = subst (λ (i : ℕ). IsOneLess i (rooms_of drawers) (rooms_of (set drawers c.number.result c.push.new.self)))
    c.number.ensures.value less in
    subst (λ (s : SeenCabinet V). IsOneLess c.args.paper s.rooms
    (rooms_of (set drawers c.number.result c.push.new.self)))
    c.self.view_is at
