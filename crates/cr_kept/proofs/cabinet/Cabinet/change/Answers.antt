-- SPDX-License-Identifier: Apache-2.0 OR MIT
use Rattle.std.proofs.Common.{rules, ◌<◌, ◌≤◌, ◌∙◌, List, [], length, set, refl, ap, sym, subst, arith}
use Rattle.cr_base.specs.Filed.{filed_of}
use Rattle.cr_rooms.specs.Rooms.{IsNoLess}
use Rattle.cr_rooms.proofs.RoomLaws.{no-less-row}
use Rattle.cr_kept.specs.Drawers.{files_from, rooms_of, with_changed, with_values}
use Rattle.cr_kept.specs.Seen.{SeenDrawer, SeenCabinet}
use Rattle.cr_kept.proofs.DrawerLaws.{has-value, change-drawer, of-place}
use Rattle.cr_kept.proofs.ValueLaws.{with-drawer}
use Rattle.cr_kept.proofs.cabinet.Cabinet.change.Goals as goal

pub index_mut-drawer-requires : goal.index_mut-drawer-requires
index_mut-drawer-requires g c =
    let V = g.row.V.Denot in
    let within = subst (λ (s : SeenCabinet V). c.args.index < length (filed_of c.args.paper s.files))
    (sym c.self.view_is)
    c.requires in
    let none : SeenDrawer V = record { values = []; room = 0 } in
    let there =
    (has-value c.args.paper c.number.result c.args.index c.self.inside.drawers.items none c.number.ensures.value
    within).0 in
    search (rules, there)

pub set-requires : goal.set-requires
set-requires g c =
    let V = g.row.V.Denot in
    let drawer = c.index_mut-drawer.result.now in
    let within = subst (λ (s : SeenCabinet V). c.args.index < length (filed_of c.args.paper s.files))
    (sym c.self.view_is)
    c.requires in
    let there = has-value c.args.paper c.number.result c.args.index c.self.inside.drawers.items drawer
    c.number.ensures.value within in
    subst (λ (d : SeenDrawer V). c.args.index < length d.values) (sym c.index_mut-drawer.ensures.value) there.1

pub returns-clause-files : goal.returns-clause-files
returns-clause-files g c =
    let V = g.row.V.Denot in
    let drawers = c.self.inside.drawers.items in
    let drawer = c.index_mut-drawer.result.now in
    let within = subst (λ (s : SeenCabinet V). c.args.index < length (filed_of c.args.paper s.files))
    (sym c.self.view_is)
    c.requires in
    let there = has-value c.args.paper c.number.result c.args.index drawers drawer c.number.ensures.value within in
    change-drawer c.args.paper 0 c.number.result c.args.index c.args.value drawers drawer c.set.new.self
    (omega (arith, c.number.ensures.value)) there.0 there.1
    (c.set.ensures.values ∙ ap (λ (d : SeenDrawer V). set d.values c.args.index c.args.value)
    c.index_mut-drawer.ensures.value)
    ∙ ap (λ (s : SeenCabinet V). with_changed c.args.paper c.args.index c.args.value s.files) c.self.view_is

pub returns-clause-values : goal.returns-clause-values
returns-clause-values g c =
    let V = g.row.V.Denot in
    let a = c.args in
    let drawers = c.self.inside.drawers.items in
    let drawer = c.index_mut-drawer.result.now in
    let within =
    subst (λ (s : SeenCabinet V). a.index < length (filed_of a.paper s.files)) (sym c.self.view_is) c.requires in
    let there = has-value a.paper c.number.result a.index drawers drawer c.number.ensures.value within in
    let place = of-place a.paper c.number.result drawers drawers drawer c.number.ensures.value refl there.0
    c.index_mut-drawer.ensures.value in
    with-drawer a.paper (set (filed_of a.paper (files_from 0 drawers)) a.index a.value) 0 c.number.result drawers
    c.set.new.self
    (omega (arith, c.number.ensures.value)) there.0
    (c.set.ensures.values ∙ ap (λ (vs : List V). set vs a.index a.value) place)
    ∙ ap (λ (s : SeenCabinet V). with_values a.paper (set (filed_of a.paper s.files) a.index a.value) s.files)
    c.self.view_is

pub returns-clause-rooms : goal.returns-clause-rooms
returns-clause-rooms g c =
    let V = g.row.V.Denot in
    let drawers = c.self.inside.drawers.items in
    let le =
    subst (λ (d : SeenDrawer V). d.room ≤ c.set.new.self.room) c.index_mut-drawer.ensures.value c.set.ensures.room in
    let kept = no-less-row (λ (d : SeenDrawer V). d.room) c.number.result drawers c.index_mut-drawer.result.now
    c.set.new.self le in
    subst (λ (s : SeenCabinet V). IsNoLess s.rooms (rooms_of (set drawers c.number.result c.set.new.self)))
    c.self.view_is kept
