-- SPDX-License-Identifier: Apache-2.0 OR MIT
use Rattle.std.proofs.Common.{ℕ, ◌∙◌, List, length, ap, sym, subst}
use Rattle.std.specs.Prelude.{map}
use Rattle.std.proofs.lemmas.List.{length-map}
use Rattle.cr_base.specs.declared.pairs.Tie.{Tie}
use Rattle.cr_base.specs.Lists.{IsRising}
use Rattle.cr_base.specs.declared.pairs.Order.{Order}
use Rattle.cr_base.specs.Pairs.{papers_tied_to, ties_of}
use Rattle.cr_base.specs.Steps.{Takes}
use Rattle.cr_base.specs.Ties.{BareTies}
use Rattle.cr_kept.specs.Own.{values_in}
use Rattle.cr_conflicts.specs.Seen.{SeenTies}
use Rattle.cr_conflicts.proofs.IndexLaws.{indexed-papers}
use Rattle.cr_conflicts.proofs.ties.Ties.authored.Goals as goal

pub returns-clause-papers : goal.returns-clause-papers
returns-clause-papers g c =
    let x = c.self.inside in
    ap (map (λ (t : Tie (Unit {0})). t.pair.paper)) c.of.ensures.ties
    ∙ ap (λ (o : Order). map (λ (t : Tie (Unit {0})). t.pair.paper) (ties_of o c.number.result x.authored.ties))
    c.self.invariant.0.by_user
    ∙ ap (λ (n : ℕ). papers_tied_to n x.authored.ties) c.number.ensures.value
    ∙ (indexed-papers (values_in x.authors.files) x.authored.order x.authored.ties x.declared.order x.bids.order
    c.self.invariant.0 c.args.user).0
    ∙ ap (λ (v : SeenTies). papers_tied_to c.args.user v.ties.authors) c.self.view_is

pub returns-clause-rising : goal.returns-clause-rising
returns-clause-rising g c =
    let x = c.self.inside in
    subst (λ (v : SeenTies). IsRising (papers_tied_to c.args.user v.ties.authors)) c.self.view_is
    (indexed-papers (values_in x.authors.files) x.authored.order x.authored.ties x.declared.order x.bids.order
    c.self.invariant.0 c.args.user).1

pub returns-clause-steps : goal.returns-clause-steps
returns-clause-steps g c =
    let same = ap (λ (ts : BareTies). length ts) (sym c.of.ensures.ties)
    ∙ sym (length-map c.of.result.now (λ (t : Tie (Unit {0})). t.pair.paper))
    ∙ ap (λ (ns : List ℕ). length ns) (returns-clause-papers g c) in
    subst (λ (n : ℕ). Takes n c.args.steps.now c.of.new.steps) same c.of.ensures.steps
