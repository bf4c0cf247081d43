-- SPDX-License-Identifier: Apache-2.0 OR MIT
use Rattle.cr_match.proofs.Common.{◌≡◌, inl, inr, arith, refl, sym, ◌∙◌, subst, cases_lt, IsExpanded}
use Rattle.cr_match.proofs.Reached.{on_trans, steps_le, still_expanded}
use Rattle.cr_match.proofs.Walks.{if_none}
use Rattle.cr_match.proofs.trail.explore.Goals as goal

pub steps-init : goal.steps-init
steps-init c = (
  c.requires.moves.1,
  c.requires.steps.0,
  c.requires.steps.1,
  (record { count = omega arith; steps = λ i _. refl; members = λ m has. has }, λ q has. has, refl),
  c.requires.places.1,
  c.requires.places.2,
  c.requires.done,
)

pub expand-found-requires-clause-places : goal.expand-found-requires-clause-places
expand-found-requires-clause-places c = (c.requires.places.0, c.steps-test.true, c.steps.invariant.5)

pub overflow_add-trail : goal.overflow_add-trail
overflow_add-trail c =
    omega (
      arith,
      c.steps-test.true,
      c.expand-found.ensures.goes.1,
      steps_le c.steps.invariant.1,
      c.requires.moves.0.sized.few.1,
    )

pub steps-smaller : goal.steps-smaller
steps-smaller c =
    omega (arith, c.steps-test.true, c.expand-found.ensures.goes.1, steps_le c.steps.invariant.1)

pub steps-preserved : goal.steps-preserved
steps-preserved c =
    let t = c.expand-found.new.trail in
    let on = c.expand-found.ensures.goes.0 in
    let more = if_none c.expand-found.result (sym c.is_some.ensures ∙ c.if-is_some.false)
    c.expand-found.ensures.none in (
      c.expand-found.ensures.roomy,
      c.expand-found.ensures.steps,
      more.0,
      on_trans c.args.trail.now c.steps.trail c.expand-found.new.trail c.steps.invariant.3 on,
      omega (arith, c.expand-found.ensures.goes.1, c.steps-test.true, on.0.count),
      omega (arith, c.expand-found.ensures.goes.1, c.steps.invariant.5, on.2),
      λ i lt. elim (cases_lt i c.steps.trail.next) [
        | inl less ↦ still_expanded c.args.board.now c.args.moves.now c.steps.trail.papers.items
            c.expand-found.new.trail.papers.items on.0 on.1 i (omega (arith, less, c.steps-test.true))
            (c.steps.invariant.6 i less)
        | inr late ↦ let e : i ≡ c.steps.trail.next = omega (arith, lt, late, c.expand-found.ensures.goes.1) in
            subst (IsExpanded c.args.board.now c.args.moves.now c.expand-found.new.trail.papers.items
            c.expand-found.new.trail.path) (sym e) more.1
      ],
    )

pub returns-clause-none : goal.returns-clause-none
returns-clause-none c =
    let all : c.steps.trail.next ≡ c.steps.trail.path.count = omega (arith, c.steps-test.false, c.steps.invariant.4) in
    (c.steps.invariant.2, all, λ i lt. c.steps.invariant.6 i (omega (arith, lt, all)))
