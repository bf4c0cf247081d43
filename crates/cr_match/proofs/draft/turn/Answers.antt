-- SPDX-License-Identifier: Apache-2.0 OR MIT
use Rattle.cr_match.proofs.Common.{◌≡◌, ◌<◌, ◌≤◌, false, true, arith, sym, subst}
use Rattle.cr_match.proofs.Common.{Drops, Step, Takes, Turns, step_of}
use Rattle.cr_match.specs.Draft.{Flips}
use Rattle.cr_match.proofs.Reached.{steps_le}
use Rattle.cr_match.proofs.Turning.{IsTurning, begun, ended, member, passed, still}
use Rattle.cr_match.proofs.draft.turn.Goals.{After-step_at-first, After-step_at-step}
use Rattle.cr_match.proofs.draft.turn.Goals as goal

pub steps-init : goal.steps-init
steps-init c =
    begun c.requires.path.0 c.args.last c.requires.places.2 c.requires.places.1 c.requires.places.0 c.requires.draft
    c.requires.drops

pub step_at-step-requires : goal.step_at-step-requires
step_at-step-requires c =
    omega (arith, c.steps.invariant.count, steps_le c.requires.path.0, c.requires.path.1.steps)

behind : (c : After-step_at-step) → c.args.path.now.root < c.steps.at
behind c = omega (arith, c.steps.invariant.root, c.steps-test.true)

-- what holds of the step holds of what was read
of : (c : After-step_at-step) (P : Step → Type 0) → P (step_of c.args.path.now c.steps.at) → P c.step_at-step.result
of c P = subst P (sym c.step_at-step.ensures)

row : (c : After-step_at-step) → c.step_at-step.result.paper ≤ c.args.board.now.papers
row c = of c (λ x. x.paper ≤ c.args.board.now.papers) (c.requires.path.0.rows c.steps.at c.steps.invariant.count)

inside : (c : After-step_at-step) → c.step_at-step.result.member ≤ c.args.board.now.members
inside c = of c (λ x. x.member ≤ c.args.board.now.members)
    (c.requires.path.0.inside c.steps.at c.steps.invariant.count)

pub flip-requires-clause-inside : goal.flip-requires-clause-inside
flip-requires-clause-inside c = (c.steps.invariant.row, inside c.before)

pub flip-requires-clause-drops : goal.flip-requires-clause-drops
flip-requires-clause-drops c _ _ _ =
    of c.before (λ x. Drops c.args.board.now c.steps.draft.moves x.member c.steps.holder)
    (c.steps.invariant.drops (member c.requires.path.0 c.steps.invariant (behind c.before)))

pub flip-requires-in-steps-clause-inside : goal.flip-requires-in-steps-clause-inside
flip-requires-in-steps-clause-inside c = (row c.before.before.before, inside c.before.before.before)

pub flip-requires-in-steps-clause-takes : goal.flip-requires-in-steps-clause-takes
flip-requires-in-steps-clause-takes c _ _ _ =
    of c.before.before.before (λ x. Flips c.args.board.now c.steps.holder x.member false c.steps.draft.choice
    c.steps.draft.moves c.flip.new.draft.choice c.flip.new.draft.moves
    → Takes c.args.board.now c.flip.new.draft.moves x.paper x.member)
    (still c.requires.path.0 c.steps.invariant (behind c.before.before.before)) c.flip.ensures

pub steps-preserved : goal.steps-preserved
steps-preserved c =
    of c.before.before.before.before (λ x. Flips c.args.board.now c.steps.holder x.member false c.steps.draft.choice
    c.steps.draft.moves c.flip.new.draft.choice c.flip.new.draft.moves
    → Flips c.args.board.now x.paper x.member true c.flip.new.draft.choice c.flip.new.draft.moves
    c.flip-in-steps.new.draft.choice c.flip-in-steps.new.draft.moves
    → IsTurning c.args.board.now c.args.path.now c.args.target c.args.draft.now.choice c.args.draft.now.moves x.paper
    x.from c.flip-in-steps.new.draft.choice c.flip-in-steps.new.draft.moves)
    (passed c.requires.path.0 c.steps.invariant (behind c.before.before.before.before)) c.flip.ensures
    c.flip-in-steps.ensures

pub steps-smaller : goal.steps-smaller
steps-smaller c =
    of c.before.before.before.before (λ x. x.from < c.steps.at)
    (c.requires.path.0.after c.steps.at (behind c.before.before.before.before) c.steps.invariant.count).1

pub step_at-first-requires : goal.step_at-first-requires
step_at-first-requires c =
    omega (arith, c.steps.invariant.count, steps_le c.requires.path.0, c.requires.path.1.steps)

of_first : (c : After-step_at-first) (P : Step → Type 0) → P (step_of c.args.path.now c.steps.at)
    → P c.step_at-first.result
of_first c P = subst P (sym c.step_at-first.ensures)

pub flip-requires-2-clause-inside : goal.flip-requires-2-clause-inside
flip-requires-2-clause-inside c = (
  c.steps.invariant.row,
  of_first c.before (λ x. x.member ≤ c.args.board.now.members)
      (c.requires.path.0.inside c.steps.at c.steps.invariant.count),
)

pub flip-requires-2-clause-drops : goal.flip-requires-2-clause-drops
flip-requires-2-clause-drops c _ lm _ =
    of_first c.before (λ x. x.member < c.args.board.now.members
    → Drops c.args.board.now c.steps.draft.moves x.member c.steps.holder) c.steps.invariant.drops lm

pub returns-clause-turns : goal.returns-clause-turns
returns-clause-turns c =
    let root : c.steps.at ≡ c.args.path.now.root = omega (arith, c.steps-test.false) in
    subst (λ n. Turns c.args.board.now c.args.target (step_of c.args.path.now n).member c.args.draft.now.choice
    c.args.draft.now.moves c.flip-2.new.draft.choice c.flip-2.new.draft.moves) root
    (ended c.requires.path.0 c.steps.invariant c.requires.draft
    (subst (λ (x : Step). Flips c.args.board.now c.steps.holder x.member false c.steps.draft.choice c.steps.draft.moves
    c.flip-2.new.draft.choice c.flip-2.new.draft.moves) c.step_at-first.ensures c.flip-2.ensures))
