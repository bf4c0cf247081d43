-- SPDX-License-Identifier: Apache-2.0 OR MIT
use Rattle.std.proofs.Common.{◌≡◌, ◌∙◌, List, length, refl, sym, ap, subst}
use Rattle.cr_base.specs.declared.pairs.Tie.{Tie}
use Rattle.cr_base.specs.Pairs.{IsAscending, ties_of}
use Rattle.cr_base.specs.Steps.{Takes}
use Rattle.cr_base.proofs.StepLaws.{takes-nothing}
use Rattle.cr_pairs.specs.Seen.{SeenRows}
use Rattle.cr_pairs.proofs.RowLaws.{ascending-in, seen-row, no-row}
use Rattle.cr_pairs.proofs.pair_rows.PairRows.of.Goals as goal

pub returns-in-Some-clause-ties : goal.returns-in-Some-clause-ties
returns-in-Some-clause-ties g c =
    let order = c.self.inside.order in
    let looked = c.in-Some.ensures.lookup in
    c.ties.ensures.ties
    ∙ seen-row order c.args.number c.args.number c.self.inside.rows.items c.deref.result.now c.in-Some.row.now refl
    c.deref.ensures.value looked.3.0 looked.1 c.self.invariant
    ∙ ap (λ (s : SeenRows g.row.V.Denot). ties_of s.order c.args.number s.ties) c.self.view_is

pub returns-in-None-clause-ties : goal.returns-in-None-clause-ties
returns-in-None-clause-ties g c =
    no-row c.self.inside.order c.args.number c.args.number c.self.inside.rows.items c.deref.result.now refl
    c.deref.ensures.value c.in-None.ensures.lookup.3 c.self.invariant
    ∙ ap (λ (s : SeenRows g.row.V.Denot). ties_of s.order c.args.number s.ties) c.self.view_is

pub returns-in-Some-clause-order : goal.returns-in-Some-clause-order
returns-in-Some-clause-order g c = subst (λ (s : SeenRows g.row.V.Denot). IsAscending s.order s.ties) c.self.view_is
    (ascending-in c.self.inside.order 0 c.self.inside.rows.items c.self.invariant)

pub returns-in-None-clause-order : goal.returns-in-None-clause-order
returns-in-None-clause-order g c = subst (λ (s : SeenRows g.row.V.Denot). IsAscending s.order s.ties) c.self.view_is
    (ascending-in c.self.inside.order 0 c.self.inside.rows.items c.self.invariant)

pub returns-in-Some-clause-steps : goal.returns-in-Some-clause-steps
returns-in-Some-clause-steps g c =
    let now = c.args.self.now in
    let own : c.in-Some.row.now.ties ≡ ties_of now.order c.args.number now.ties =
    sym c.ties.ensures.ties ∙ returns-in-Some-clause-ties g c in
    subst (λ (ts : List (Tie g.row.V.Denot)). Takes (length ts) c.args.steps.now c.ties.new.steps) own
    c.ties.ensures.steps

pub returns-in-None-clause-steps : goal.returns-in-None-clause-steps
returns-in-None-clause-steps g c =
    subst (λ (ts : List (Tie g.row.V.Denot)). Takes (length ts) c.args.steps.now c.args.steps.now)
    (returns-in-None-clause-ties g c) (takes-nothing c.args.steps.now)
