-- SPDX-License-Identifier: Apache-2.0 OR MIT
use Rattle.std.proofs.Common.{List, length, ap, ◌∙◌}
use Rattle.cr_base.specs.Filed.{filed_of}
use Rattle.cr_kept.specs.Seen.{SeenCabinet}
use Rattle.cr_kept.proofs.DrawerLaws.{of-place, of-no_place}
use Rattle.cr_kept.proofs.cabinet.Cabinet.count_of.Goals as goal

pub returns-in-Some : goal.returns-in-Some
returns-in-Some g c =
    let V = g.row.V.Denot in
    let looked = c.in-Some.ensures.lookup in
    let place = of-place c.args.paper c.number.result c.self.inside.drawers.items c.deref.result.now
    c.in-Some.drawer.now c.number.ensures.value c.deref.ensures.value looked.3.0 looked.1 in
    c.count.ensures
    ∙ ap (λ (vs : List V). length vs) place
    ∙ ap (λ (s : SeenCabinet V). length (filed_of c.args.paper s.files)) c.self.view_is

pub returns-in-None : goal.returns-in-None
returns-in-None g c =
    let V = g.row.V.Denot in
    let looked = c.in-None.ensures.lookup in
    let place = of-no_place c.args.paper c.number.result c.self.inside.drawers.items c.deref.result.now
    c.number.ensures.value c.deref.ensures.value looked.3 in
    ap (λ (vs : List V). length vs) place
    ∙ ap (λ (s : SeenCabinet V). length (filed_of c.args.paper s.files)) c.self.view_is
