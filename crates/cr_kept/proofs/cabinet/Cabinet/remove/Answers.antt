-- SPDX-License-Identifier: Apache-2.0 OR MIT
use Rattle.std.proofs.Common.{rules, ◌<◌, ◌≤◌, ◌∙◌, List, [], length, set, refl, ap, sym, subst, arith}
use Rattle.std.specs.List.{remove}
use Rattle.cr_base.specs.Filed.{filed_of}
use Rattle.cr_rooms.specs.Rooms.{IsNoLess}
use Rattle.cr_rooms.proofs.RoomLaws.{no-less-row}
use Rattle.cr_kept.specs.Drawers.{files_from, rooms_of, with_values}
use Rattle.cr_kept.specs.Seen.{SeenDrawer, SeenCabinet}
use Rattle.cr_kept.proofs.DrawerLaws.{has-value, of-place}
use Rattle.cr_kept.proofs.ValueLaws.{with-drawer}
use Rattle.cr_kept.proofs.cabinet.Cabinet.remove.Goals as goal

pub index_mut-drawer-requires : goal.index_mut-drawer-requires
index_mut-drawer-requires g c =
    let V = g.row.V.Denot in
    let within = subst (λ (s : SeenCabinet V). c.args.index < length (filed_of c.args.paper s.files))
    (sym c.self.view_is)
    c.requires in
    let none : SeenDrawer V = record { values = []; room = 0 } in
    let there =
    (has-value c.args.paper c.number.result c.args.index c.self.inside.drawers.items none c.number.ensures.value
    within).0 in
    search (rules, there)

pub remove-requires : goal.remove-requires
remove-requires g c =
    let V = g.row.V.Denot in
    let drawer = c.index_mut-drawer.result.now in
    let within = subst (λ (s : SeenCabinet V). c.args.index < length (filed_of c.args.paper s.files))
    (sym c.self.view_is)
    c.requires in
    let there = has-value c.args.paper c.number.result c.args.index c.self.inside.drawers.items drawer
    c.number.ensures.value within in
    subst (λ (d : SeenDrawer V). c.args.index < length d.values) (sym c.index_mut-drawer.ensures.value) there.1

pub returns-clause-values : goal.returns-clause-values
returns-clause-values g c =
    let V = g.row.V.Denot in
    let a = c.args in
    let drawers = c.self.inside.drawers.items in
    let drawer = c.index_mut-drawer.result.now in
    let within =
    subst (λ (s : SeenCabinet V). a.index < length (filed_of a.paper s.files)) (sym c.self.view_is) c.requires in
    let there = has-value a.paper c.number.result a.index drawers drawer c.number.ensures.value within in
    let place = of-place a.paper c.number.result drawers drawers drawer c.number.ensures.value refl there.0
    c.index_mut-drawer.ensures.value in
    with-drawer a.paper (remove (filed_of a.paper (files_from 0 drawers)) a.index) 0 c.number.result drawers
    c.remove.new.self
    (omega (arith, c.number.ensures.value)) there.0
    (c.remove.ensures.values ∙ ap (λ (vs : List V). remove vs a.index) place)
    ∙ ap (λ (s : SeenCabinet V). with_values a.paper (remove (filed_of a.paper s.files) a.index) s.files) c.self.view_is

pub returns-clause-rooms : goal.returns-clause-rooms
returns-clause-rooms g c =
    let V = g.row.V.Denot in
    let drawers = c.self.inside.drawers.items in
    let le = subst (λ (d : SeenDrawer V). d.room ≤ c.remove.new.self.room) c.index_mut-drawer.ensures.value
    c.remove.ensures.room in
    let kept = no-less-row (λ (d : SeenDrawer V). d.room) c.number.result drawers c.index_mut-drawer.result.now
    c.remove.new.self le in
    subst (λ (s : SeenCabinet V). IsNoLess s.rooms (rooms_of (set drawers c.number.result c.remove.new.self)))
    c.self.view_is kept
