-- SPDX-License-Identifier: Apache-2.0 OR MIT
use Rattle.std.proofs.Common.{ℕ, List, ◌≡◌, ◌∙◌, Some, length, map, eqb, ap, sym, subst}
use Rattle.std.specs.Prelude.{is_some}
use Rattle.std.specs.List.{All, list_any}
use Rattle.cr_base.specs.declared.pairs.Order.{Order}
use Rattle.cr_base.specs.declared.pairs.Order.TheVariants.{ByUser}
use Rattle.cr_base.specs.declared.pairs.Tie.{Tie}
use Rattle.cr_base.specs.Lists.{IsRising}
use Rattle.cr_base.specs.Pairs.{ties_of}
use Rattle.cr_base.specs.Seats.{SeatsState, ordinal_in}
use Rattle.cr_base.specs.Steps.{Takes}
use Rattle.cr_base.specs.Ties.{pair_of}
use Rattle.cr_base.proofs.PairLaws.{list_any-others_of}
use Rattle.cr_base.proofs.RisingLists.{rising-others_of}
use Rattle.cr_base.proofs.TieValues.{is_some-tie_value}
use Rattle.cr_kept.specs.Own.{values_in}
use Rattle.cr_assign.specs.Seen.{SeenSeats}
use Rattle.cr_assign.proofs.ReviewedLaws.{reviewed-under}
use Rattle.cr_assign.proofs.seats.Seats.reviewed.Goals as goal

pub returns-clause-papers : goal.returns-clause-papers
returns-clause-papers g c =
    let x = c.self.inside in
    let user = c.args.user in
    let reviewing = x.reviewing.ties in
    let is : c.of.result.now ≡ ties_of ByUser c.args.user x.reviewing.ties = c.of.ensures.ties
    ∙ ap (λ (o : Order). ties_of o c.number.result x.reviewing.ties) c.self.invariant.0.by_user
    ∙ ap (λ (n : ℕ). ties_of ByUser n x.reviewing.ties) c.number.ensures.value in
    λ p.
    ap (λ (ts : List (Tie ℕ)). list_any (λ m. eqb p m) (map (λ (t : Tie ℕ). t.pair.paper) ts)) is
    ∙ list_any-others_of ByUser user p reviewing
    ∙ sym (is_some-tie_value (pair_of p user) reviewing)
    ∙ ap is_some (c.self.invariant.0.same (pair_of p user))
    ∙ ap (λ (v : SeenSeats). is_some (ordinal_in v.seats (Some user) p)) c.self.view_is

pub returns-clause-rising : goal.returns-clause-rising
returns-clause-rising g c =
    let x = c.self.inside in
    let is : c.of.result.now ≡ ties_of ByUser c.args.user x.reviewing.ties = c.of.ensures.ties
    ∙ ap (λ (o : Order). ties_of o c.number.result x.reviewing.ties) c.self.invariant.0.by_user
    ∙ ap (λ (n : ℕ). ties_of ByUser n x.reviewing.ties) c.number.ensures.value in
    subst (λ (ts : List (Tie ℕ)). IsRising (map (λ (t : Tie ℕ). t.pair.paper) ts)) (sym is)
    (rising-others_of x.reviewing.order ByUser c.args.user x.reviewing.ties c.of.ensures.order)

pub returns-clause-ordinals : goal.returns-clause-ordinals
returns-clause-ordinals g c =
    let x = c.self.inside in
    let user = c.args.user in
    let seats = values_in x.seats.files in
    let is : c.of.result.now ≡ ties_of ByUser c.args.user x.reviewing.ties = c.of.ensures.ties
    ∙ ap (λ (o : Order). ties_of o c.number.result x.reviewing.ties) c.self.invariant.0.by_user
    ∙ ap (λ (n : ℕ). ties_of ByUser n x.reviewing.ties) c.number.ensures.value in
    let under : SeatsState → List (Tie ℕ) → Type 0 =
    λ seats ts. All (λ (t : Tie ℕ). ordinal_in seats (Some user) t.pair.paper ≡ Some t.value) ts in
    subst (λ (v : SeenSeats). under v.seats c.of.result.now) c.self.view_is
    (subst (under seats) (sym is)
    (reviewed-under seats x.reviewing.order x.reviewing.ties c.self.invariant.0 c.of.ensures.order user))

pub returns-clause-steps : goal.returns-clause-steps
returns-clause-steps g c =
    subst (λ (ts : List (Tie ℕ)). Takes (length ts) c.args.steps.now c.of.new.steps) (sym c.of.ensures.ties)
    c.of.ensures.steps
