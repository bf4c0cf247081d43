-- SPDX-License-Identifier: Apache-2.0 OR MIT
use Rattle.std.proofs.Common.{ℕ, ◌∙◌, List, length, map, ap, sym, subst}
use Rattle.std.proofs.lemmas.List.{length-map}
use Rattle.cr_base.specs.declared.pairs.Order.{Order}
use Rattle.cr_base.specs.declared.pairs.Tie.{Tie}
use Rattle.cr_base.specs.Pairs.{ties_of, users_tied_to}
use Rattle.cr_base.specs.Steps.{Takes}
use Rattle.cr_base.specs.Ties.{BareTies}
use Rattle.cr_conflicts.specs.Seen.{SeenTies}
use Rattle.cr_conflicts.proofs.ties.Ties.declared.Goals as goal

pub returns-clause-value : goal.returns-clause-value
returns-clause-value g c =
    let x = c.self.inside in
    let user : Tie (Unit {0}) → ℕ = λ t. t.pair.user in
    ap (map user) c.of.ensures.ties
    ∙ ap (λ (o : Order). map user (ties_of o c.number.result x.declared.ties)) c.self.invariant.0.declared_by_paper
    ∙ ap (λ (n : ℕ). users_tied_to n x.declared.ties) c.number.ensures.value
    ∙ ap (λ (v : SeenTies). users_tied_to c.args.paper v.ties.declared) c.self.view_is

pub returns-clause-steps : goal.returns-clause-steps
returns-clause-steps g c =
    let same = ap (λ (ts : BareTies). length ts) (sym c.of.ensures.ties)
    ∙ sym (length-map c.of.result.now (λ (t : Tie (Unit {0})). t.pair.user))
    ∙ ap (λ (ns : List ℕ). length ns) (returns-clause-value g c) in
    subst (λ (n : ℕ). Takes n c.args.steps.now c.of.new.steps) same c.of.ensures.steps
