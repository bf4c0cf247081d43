-- SPDX-License-Identifier: Apache-2.0 OR MIT
use Rattle.std.proofs.Common.{◌∙◌, List, Bool, inr, subst, sym}
use Rattle.cr_ports.specs.Writing.{outlet_of}
use Rattle.cr_top.specs.Stores.{state_of}
use Rattle.cr_top.proofs.Stored.{none-tried, stands-by, views-store}
use Rattle.cr_top.proofs.viewing.view_store.Goals as goal

pub shut-requires : goal.shut-requires
shut-requires g c =
    subst (λ (kind : List Bool). g.S.Shelf.has_opened c.open_store.new.shelf c.args.path.now kind)
    (sym c.close.ensures.alike) c.in-Ok.ensures.open

pub returns-in-Ok-clause-views : goal.returns-in-Ok-clause-views
returns-in-Ok-clause-views g c =
    let outlet = outlet_of g.O.Sink.taken g.O.Sink.faults in
    let stores = state_of g.S.Shelf.rows g.S.Shelf.faults in
    let K = g.S.Keeper.Keeper in
    let path = c.args.path.now in
    let tells = g.S.Shelf.tells_stops c.args.shelf.now path in
    let so' = K.tells_alike c.close.result c.in-Ok.book.opened c.close.ensures.alike ∙ c.in-Ok.ensures.telling in
    inr (views-store tells K.rows K.tried K.faults c.args.path.now c.args.name.now c.print_view-exit.result
    c.in-Ok.book c.close.result
    (outlet c.args.out.now) (outlet c.print_view-exit.new.out) (stores c.args.shelf.now) (stores c.open_store.new.shelf)
    (stores c.shut.new.self)
    c.in-Ok.ensures.opened c.close.ensures.same
    (none-tried tells K _ c.in-Ok.book c.close.result
    c.in-Ok.ensures.begins c.close.ensures.same)
    c.print_view-exit.ensures
    (stands-by (K.tells_stops c.close.result) tells so' (K.rows c.close.result) (K.tried c.close.result)
    (g.S.Shelf.rows c.open_store.new.shelf path) (g.S.Shelf.rows c.shut.new.self path) c.shut.ensures.kept)
    c.shut.ensures.others c.shut.ensures.count)
