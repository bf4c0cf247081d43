-- SPDX-License-Identifier: Apache-2.0 OR MIT
use Rattle.std.proofs.Common.{◌≡◌, ◌∙◌, List, length, ap, sym, subst}
use Rattle.cr_base.specs.Filed.{filed_of}
use Rattle.cr_base.specs.Steps.{Takes}
use Rattle.cr_base.proofs.StepLaws.{takes-nothing}
use Rattle.cr_kept.specs.Seen.{SeenCabinet}
use Rattle.cr_kept.proofs.DrawerLaws.{of-place, of-no_place}
use Rattle.cr_kept.proofs.cabinet.Cabinet.of_paper.Goals as goal

pub returns-in-Some-clause-values : goal.returns-in-Some-clause-values
returns-in-Some-clause-values g c =
    let looked = c.in-Some.ensures.lookup in
    c.values.ensures.values
    ∙ of-place c.args.paper c.number.result c.self.inside.drawers.items c.deref.result.now c.in-Some.drawer.now
    c.number.ensures.value c.deref.ensures.value looked.3.0 looked.1
    ∙ ap (λ (s : SeenCabinet g.row.V.Denot). filed_of c.args.paper s.files) c.self.view_is

pub returns-in-None-clause-values : goal.returns-in-None-clause-values
returns-in-None-clause-values g c =
    let looked = c.in-None.ensures.lookup in
    of-no_place c.args.paper c.number.result c.self.inside.drawers.items c.deref.result.now c.number.ensures.value
    c.deref.ensures.value looked.3
    ∙ ap (λ (s : SeenCabinet g.row.V.Denot). filed_of c.args.paper s.files) c.self.view_is

pub returns-in-Some-clause-steps : goal.returns-in-Some-clause-steps
returns-in-Some-clause-steps g c =
    let V = g.row.V.Denot in
    let same : c.in-Some.drawer.now.values ≡ filed_of c.args.paper c.args.self.now.files =
    sym c.values.ensures.values ∙ returns-in-Some-clause-values g c in
    subst (λ (vs : List V). Takes (length vs) c.args.steps.now c.values.new.steps) same c.values.ensures.steps

pub returns-in-None-clause-steps : goal.returns-in-None-clause-steps
returns-in-None-clause-steps g c =
    subst (λ (vs : List g.row.V.Denot). Takes (length vs) c.args.steps.now c.args.steps.now)
    (returns-in-None-clause-values g c) (takes-nothing c.args.steps.now)
