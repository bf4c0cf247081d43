-- SPDX-License-Identifier: Apache-2.0 OR MIT
use Rattle.std.proofs.Common.{ℕ, ◌∙◌, List, length, map, ap, sym, subst}
use Rattle.std.proofs.lemmas.List.{length-map}
use Rattle.cr_base.specs.declared.pairs.Order.{Order}
use Rattle.cr_base.specs.declared.pairs.Order.TheVariants.{ByPaper}
use Rattle.cr_base.specs.declared.pairs.Tie.{Tie}
use Rattle.cr_base.specs.History.{BidTold}
use Rattle.cr_base.specs.Pairs.{ties_of}
use Rattle.cr_base.specs.Steps.{Takes}
use Rattle.cr_base.specs.Ties.{bids_in}
use Rattle.cr_conflicts.specs.Seen.{SeenTies}
use Rattle.cr_conflicts.proofs.ties.Ties.bids.Goals as goal

-- a bid as it is told
abbrev told : Tie ℕ → BidTold
told t = record { user = t.pair.user; value = t.value }

pub returns-clause-value : goal.returns-clause-value
returns-clause-value g c =
    let x = c.self.inside in
    ap (map told) c.of.ensures.ties
    ∙ ap (λ (o : Order). map told (ties_of o c.number.result x.bids.ties)) c.self.invariant.0.bids_by_paper
    ∙ ap (λ (n : ℕ). map told (ties_of ByPaper n x.bids.ties)) c.number.ensures.value
    ∙ ap (λ (v : SeenTies). bids_in v.ties c.args.paper) c.self.view_is

pub returns-clause-steps : goal.returns-clause-steps
returns-clause-steps g c =
    let same = ap (λ (ts : List (Tie ℕ)). length ts) (sym c.of.ensures.ties)
    ∙ sym (length-map c.of.result.now told)
    ∙ ap (λ (bids : List BidTold). length bids) (returns-clause-value g c) in
    subst (λ (n : ℕ). Takes n c.args.steps.now c.of.new.steps) same c.of.ensures.steps
