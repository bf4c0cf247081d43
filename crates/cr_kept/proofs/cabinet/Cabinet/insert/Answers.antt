-- SPDX-License-Identifier: Apache-2.0 OR MIT
use Rattle.std.proofs.Common.{ℕ, ◌+◌, ◌<◌, ◌≤◌, ◌∙◌, List, length, get_or, set, insert, refl, ap, sym, subst, arith}
use Rattle.cr_base.specs.Filed.{filed_of}
use Rattle.cr_rooms.specs.Rooms.{IsOneLess}
use Rattle.cr_rooms.proofs.RoomLaws.{one-less-row, has-row}
use Rattle.cr_kept.specs.Drawers.{files_from, rooms_of, with_values}
use Rattle.cr_kept.specs.Seen.{SeenDrawer, SeenCabinet}
use Rattle.cr_kept.proofs.DrawerLaws.{of-place}
use Rattle.cr_kept.proofs.ValueLaws.{with-drawer}
use Rattle.cr_kept.proofs.cabinet.Cabinet.insert.Goals as goal

pub insert-requires-clause-index : goal.insert-requires-clause-index
insert-requires-clause-index g c =
    let V = g.row.V.Denot in
    let a = c.args in
    let drawers = c.self.inside.drawers.items in
    let drawer = c.index_mut-drawer.result.now in
    let room = subst (λ (s : SeenCabinet V). 0 < get_or s.rooms a.paper 0) (sym c.self.view_is) c.requires.room in
    let there = subst (λ (i : ℕ). i < length drawers) (sym c.number.ensures.value)
    (has-row (λ (d : SeenDrawer V). d.room) a.paper drawers room) in
    let place = of-place a.paper c.number.result drawers drawers drawer c.number.ensures.value refl there
    c.index_mut-drawer.ensures.value in
    let within =
    subst (λ (s : SeenCabinet V). a.index ≤ length (filed_of a.paper s.files)) (sym c.self.view_is) c.requires.index in
    subst (λ (vs : List V). a.index ≤ length vs) (sym place) within

pub returns-clause-values : goal.returns-clause-values
returns-clause-values g c =
    let V = g.row.V.Denot in
    let a = c.args in
    let drawers = c.self.inside.drawers.items in
    let drawer = c.index_mut-drawer.result.now in
    let room = subst (λ (s : SeenCabinet V). 0 < get_or s.rooms a.paper 0) (sym c.self.view_is) c.requires.room in
    let there = subst (λ (i : ℕ). i < length drawers) (sym c.number.ensures.value)
    (has-row (λ (d : SeenDrawer V). d.room) a.paper drawers room) in
    let place = of-place a.paper c.number.result drawers drawers drawer c.number.ensures.value refl there
    c.index_mut-drawer.ensures.value in
    with-drawer a.paper (insert (filed_of a.paper (files_from 0 drawers)) a.index a.value) 0 c.number.result drawers
    c.insert.new.self
    (omega (arith, c.number.ensures.value)) there
    (c.insert.ensures.values ∙ ap (λ (vs : List V). insert vs a.index a.value) place)
    ∙ ap (λ (s : SeenCabinet V). with_values a.paper (insert (filed_of a.paper s.files) a.index a.value) s.files)
    c.self.view_is

pub returns-clause-rooms : goal.returns-clause-rooms
returns-clause-rooms g c =
    let V = g.row.V.Denot in
    let drawers = c.self.inside.drawers.items in
    let le = subst (λ (d : SeenDrawer V). d.room ≤ c.insert.new.self.room + 1) c.index_mut-drawer.ensures.value
    c.insert.ensures.room in
    let less = one-less-row (λ (d : SeenDrawer V). d.room) c.number.result drawers c.index_mut-drawer.result.now
    c.insert.new.self le in
    let at =
    subst (λ (i : ℕ). IsOneLess i (rooms_of drawers) (rooms_of (set drawers c.number.result c.insert.new.self)))
    c.number.ensures.value less in
    subst (λ (s : SeenCabinet V). IsOneLess c.args.paper s.rooms
    (rooms_of (set drawers c.number.result c.insert.new.self))) c.self.view_is at
