-- SPDX-License-Identifier: Apache-2.0 OR MIT
use Rattle.std.proofs.Common.{ℕ, ◌≡◌, ◌∙◌, length, ap, sym, subst}
use Rattle.std.proofs.lemmas.List.{length-map}
use Rattle.std.specs.Prelude.{map}
use Rattle.cr_base.specs.declared.pairs.Tie.{Tie}
use Rattle.cr_base.specs.Lists.{IsRising}
use Rattle.cr_base.specs.Pairs.{papers_tied_to, ties_of}
use Rattle.cr_base.specs.Steps.{Takes}
use Rattle.cr_base.specs.declared.pairs.Order.{Order}
use Rattle.cr_pairs.specs.Seen.{SeenIndexed}
use Rattle.cr_pairs.proofs.Indexes.{indexed-papers}
use Rattle.cr_pairs.proofs.indexed_pairs.IndexedPairs.of_user.Goals as goal

pub returns-clause-papers : goal.returns-clause-papers
returns-clause-papers g c =
    let x = c.self.inside in
    ap (map (λ (t : Tie (Unit {0})). t.pair.paper)) c.of.ensures.ties
    ∙ ap (λ (o : Order). map (λ (t : Tie (Unit {0})). t.pair.paper) (ties_of o c.number.result x.by_user.ties))
    c.self.invariant.by_user
    ∙ ap (λ (n : ℕ). papers_tied_to n x.by_user.ties) c.number.ensures.value
    ∙ (indexed-papers x.by_paper.order x.by_user.order x.by_paper.ties x.by_user.ties c.self.invariant c.args.user).0
    ∙ ap (λ (s : SeenIndexed g.row.V.Denot). papers_tied_to c.args.user s.ties) c.self.view_is

pub returns-clause-rising : goal.returns-clause-rising
returns-clause-rising g c =
    let x = c.self.inside in
    subst (λ (s : SeenIndexed g.row.V.Denot). IsRising (papers_tied_to c.args.user s.ties)) c.self.view_is
    (indexed-papers x.by_paper.order x.by_user.order x.by_paper.ties x.by_user.ties c.self.invariant c.args.user).1

pub returns-clause-steps : goal.returns-clause-steps
returns-clause-steps g c =
    let ties = c.of.result.now in
    let count : length (papers_tied_to c.args.user c.args.self.now.ties) ≡ length ties =
    ap length (sym (returns-clause-papers g c)) ∙ length-map ties (λ (t : Tie (Unit {0})). t.pair.paper) in
    subst (λ (n : ℕ). Takes n c.args.steps.now c.of.new.steps) (ap length (sym c.of.ensures.ties) ∙ sym count)
    c.of.ensures.steps
