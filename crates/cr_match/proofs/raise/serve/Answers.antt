-- SPDX-License-Identifier: Apache-2.0 OR MIT
use Rattle.cr_match.proofs.Common.{◌≡◌, ◌≢◌, ◌+◌, ◌*◌, ◌<◌, ◌≤◌, refl, arith, ap, ◌∙◌, subst, far, Turns, step_of, Step}
use Rattle.cr_match.proofs.Closed.{IsClosed, closed_of, rise, stuck}
use Rattle.cr_match.proofs.Raised.{small_after, still_begun, still_fitting}
use Rattle.cr_match.proofs.Served.{begun_all, one_more, served}
use Rattle.cr_match.proofs.raise.serve.Goals.{After-turn, After-gap-step, After-reprice, After-forget_papers}
use Rattle.cr_match.proofs.raise.serve.Goals as goal

pub root-requires : goal.root-requires
root-requires c =
    let s = c.forget.ensures.searched c.args.draft.now.moves c.args.board.now.papers in
    record { room = (omega (arith, c.forget.ensures.none, s.roomy.1.steps), s.roomy.1.members.1) }

pub prices-init : goal.prices-init
prices-init c = (
  c.requires.fitting,
  begun_all c.requires.fitting (c.forget.ensures.searched c.args.draft.now.moves c.args.board.now.papers)
      c.forget.ensures.none c.root.ensures.reaches c.root.ensures.root,
  refl,
  omega arith,
)

turns : (c : After-turn) → Turns c.args.board.now c.args.board.now.papers c.args.board.now.members
    c.prices.draft.choice c.prices.draft.moves c.turn.new.draft.choice c.turn.new.draft.moves
turns c =
    let root = c.explore.ensures.goes.2 ∙ c.prices.invariant.1.start.1 in
    let member : (step_of c.explore.new.trail.path c.explore.new.trail.path.root).member ≡ c.args.board.now.members =
    ap (λ i. (step_of c.explore.new.trail.path i).member) root
    ∙ ap (λ (x : Step). x.member) (c.explore.ensures.goes.0.steps 0 c.prices.invariant.1.start.2)
    ∙ c.prices.invariant.1.start.3 in
    subst (λ x. Turns c.args.board.now c.args.board.now.papers x c.prices.draft.choice c.prices.draft.moves
    c.turn.new.draft.choice c.turn.new.draft.moves) member c.turn.ensures.turns

pub returns-in-Some-clause-served : goal.returns-in-Some-clause-served
returns-in-Some-clause-served c _ = (
  served c.prices.invariant.0 (turns c) c.turn.ensures.draft,
  one_more c.prices.invariant.0 (turns c) c.turn.ensures.draft ∙ ap (λ n. n + 1) c.prices.invariant.2,
)

closed : (c : After-gap-step) → IsClosed c.args.board.now c.prices.levels c.prices.draft.choice
    c.prices.draft.moves c.explore.new.trail c.args.levels.now.nobody
closed c =
    closed_of c.requires.board.0 c.prices.invariant.0
    (omega (arith, c.prices.invariant.3, c.requires.top, c.requires.board.1, c.requires.board.0.sized.few.1))
    c.prices.invariant.1 c.explore.ensures.roomy c.explore.ensures.steps c.explore.ensures.goes
    c.in_default.ensures.none

pub returns-then-step-eq-FAR-clause-stuck : goal.returns-then-step-eq-FAR-clause-stuck
returns-then-step-eq-FAR-clause-stuck c _ = (
  stuck (closed c.before) c.gap-step.result c.gap-step.ensures (omega (arith, c.if-step-eq-FAR.true)),
  c.prices.invariant.2,
)

pub reprice-requires-clause-papers : goal.reprice-requires-clause-papers
reprice-requires-clause-papers c p lp has =
    let h = closed c.before.before in
    omega (arith, c.gap-step.ensures.most, h.top, h.fit.bounded.floor p (omega (arith, lp, h.fit.long.0)))

not_far : (c : After-reprice) → c.gap-step.result ≢ far
not_far c e = absurd (omega (arith, c.if-step-eq-FAR.false, e))

risen : (c : After-reprice)
    → c.reprice.new.levels.nobody ≤ c.args.levels.now.nobody + 40 * (c.args.board.now.members + 1)
risen c =
    omega (
      arith,
      c.reprice.ensures.nobody,
      (rise (closed c.before.before.before) c.gap-step.result c.gap-step.ensures (not_far c)).1,
    )

pub tighten-requires-clause-board : goal.tighten-requires-clause-board
tighten-requires-clause-board c = (
  c.requires.board.0,
  small_after (closed c.before.before.before.before.before) c.reprice.ensures
      (omega (arith, risen c.before.before, c.requires.top, c.requires.board.1, c.requires.board.0.sized.few.1)),
)

abbrev repriced : (c : After-forget_papers) → After-reprice
repriced c = c.before.before.before.before.before

abbrev gapped : (c : After-forget_papers) → After-gap-step
gapped c = (repriced c).before.before.before

pub prices-smaller : goal.prices-smaller
prices-smaller c =
    omega (
      arith,
      (rise (closed (gapped c.before)) c.gap-step.result c.gap-step.ensures (not_far (repriced c.before))).0,
      c.reprice.ensures.nobody,
      c.prices.invariant.3,
      risen (repriced c.before),
    )

pub prices-preserved : goal.prices-preserved
prices-preserved c =
    let ne = not_far (repriced c.before) in
    let less : c.gap-step.result < far = omega (arith, c.gap-step.ensures.most, ne) in (
      still_fitting (closed (gapped c.before)) c.reprice.ensures c.gap-step.ensures less c.tighten.ensures.stays
          c.tighten.ensures.told,
      still_begun (closed (gapped c.before)) c.reprice.ensures c.gap-step.ensures less c.tighten.ensures.stays
          c.tighten.ensures.told c.forget_papers.new.papers c.forget_papers.ensures.zero c.forget_papers.ensures.long,
      c.prices.invariant.2,
      risen (repriced c.before),
    )
