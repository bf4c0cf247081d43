-- SPDX-License-Identifier: Apache-2.0 OR MIT
use Rattle.std.proofs.Common.{List, ap, ◌∙◌}
use Rattle.std.specs.List.{slice_get}
use Rattle.cr_base.specs.Filed.{filed_of}
use Rattle.cr_kept.specs.Seen.{SeenCabinet}
use Rattle.cr_kept.proofs.DrawerLaws.{of-place, of-no_place}
use Rattle.cr_kept.proofs.cabinet.Cabinet.get.Goals as goal

pub returns-in-Some-clause-value : goal.returns-in-Some-clause-value
returns-in-Some-clause-value g c =
    let V = g.row.V.Denot in
    let looked = c.in-Some.ensures.lookup in
    let place = of-place c.args.paper c.number.result c.self.inside.drawers.items c.deref.result.now
    c.in-Some.drawer.now c.number.ensures.value c.deref.ensures.value looked.3.0 looked.1 in
    c.get-in-Some.ensures.value
    ∙ ap (λ (vs : List V). slice_get vs c.args.index) place
    ∙ ap (λ (s : SeenCabinet V). slice_get (filed_of c.args.paper s.files) c.args.index) c.self.view_is

pub returns-in-None-clause-value : goal.returns-in-None-clause-value
returns-in-None-clause-value g c =
    let V = g.row.V.Denot in
    let looked = c.in-None.ensures.lookup in
    let place = of-no_place c.args.paper c.number.result c.self.inside.drawers.items c.deref.result.now
    c.number.ensures.value c.deref.ensures.value looked.3 in
    ap (λ (vs : List V). slice_get vs c.args.index) place
    ∙ ap (λ (s : SeenCabinet V). slice_get (filed_of c.args.paper s.files) c.args.index) c.self.view_is
