-- SPDX-License-Identifier: Apache-2.0 OR MIT
use Rattle.std.proofs.Common.{ℕ, ◌∙◌, length, ap, sym, subst}
use Rattle.std.proofs.lemmas.List.{length-map}
use Rattle.cr_base.specs.declared.pairs.Order.{Order}
use Rattle.cr_base.specs.declared.pairs.Order.TheVariants.{ByPaper}
use Rattle.cr_base.specs.declared.pairs.Tie.{Tie}
use Rattle.cr_base.specs.History.{BidTold}
use Rattle.cr_base.specs.Pairs.{major, ties_of}
use Rattle.cr_base.specs.Steps.{Halves}
use Rattle.cr_base.specs.Ties.{bids_in, pair_of}
use Rattle.cr_conflicts.specs.Seen.{SeenTies}
use Rattle.cr_conflicts.proofs.ties.Ties.bid_of.Goals as goal

-- a bid as it is told
abbrev told : Tie ℕ → BidTold
told t = record { user = t.pair.user; value = t.value }

pub returns-clause-steps : goal.returns-clause-steps
returns-clause-steps g c =
    let bids = c.self.inside.bids in
    let paper = c.args.paper in
    let same = ap (λ (o : Order). length (ties_of o (major o (pair_of paper c.args.user)) bids.ties))
    c.self.invariant.0.bids_by_paper
    ∙ sym (length-map (ties_of ByPaper paper bids.ties) told)
    ∙ ap (λ (v : SeenTies). length (bids_in v.ties paper)) c.self.view_is in
    subst (λ (n : ℕ). Halves n c.args.steps.now c.value.new.steps) same c.value.ensures.steps
