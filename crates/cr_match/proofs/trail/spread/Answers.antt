-- SPDX-License-Identifier: Apache-2.0 OR MIT
use Rattle.cr_match.proofs.Common.{◌≡◌, ◌-◌, ◌<◌, length, inl, inr, arith, ap, sym, ◌∙◌, subst, refl, cases_eq}
use Rattle.cr_match.proofs.Common.{cases_lt, Has, RowHas, Drops, step_of, AreSteps}
use Rattle.cr_match.proofs.Reached.{either, goes_on, goes_trans, last_member, room, still_drops, still_long}
use Rattle.cr_match.proofs.Reached.{still_steps}
use Rattle.cr_match.proofs.trail.spread.Goals.{After-has}
use Rattle.cr_match.proofs.trail.spread.Goals as goal

pub members-init : goal.members-init
members-init c = (
  c.requires.moves.1,
  c.requires.steps.0,
  record { count = omega arith; steps = λ i _. refl; members = λ m has. has },
  refl,
  c.requires.steps.1,
  (λ j lj. absurd (omega (arith, lj))),
  omega arith,
)

pub reach-requires : goal.reach-requires
reach-requires c = record {
  room = (
    room c.in-Some.m c.members.invariant.0 c.members.invariant.1 (omega (arith, c.in-Some.ensures.some.1))
        c.in-Some.ensures.some.3,
    omega (arith, c.in-Some.ensures.some.1, c.members.invariant.0.members.1),
  );
}

full : (c : After-has) → c.members.path.count < length c.members.path.steps.items
full c =
    room c.in-Some.m c.members.invariant.0 c.members.invariant.1 (omega (arith, c.in-Some.ensures.some.1))
    c.in-Some.ensures.some.3

steps_now : (c : After-has) → AreSteps c.args.board.now c.args.moves.now c.reach.new.path
steps_now c =
    let lf : c.args.from < c.members.path.count = omega (arith, c.requires.places.2, c.members.invariant.2.count) in
    still_steps c.reach.ensures.reaches (full c) c.members.invariant.1 (omega (arith, c.in-Some.ensures.some.1))
    c.requires.places.1 c.in-Some.ensures.some.3
    (inr (
      lf,
      c.in-Some.ensures.some.2,
      still_drops c.args.board.now c.args.moves.now c.members.invariant.2 c.args.from
          c.args.paper c.requires.places.2 c.requires.leads,
    ))
    (inl (
      c.reach.ensures.root,
      c.in-Some.ensures.some.1,
      omega (arith, c.requires.places.3, c.members.invariant.3),
      lf,
    ))

pub returns-then-has-clause-steps : goal.returns-then-has-clause-steps
returns-then-has-clause-steps c = steps_now c.before

pub returns-then-has-clause-some : goal.returns-then-has-clause-some
returns-then-has-clause-some c =
    let e : c.reach.new.path.count - 1 ≡ c.members.path.count = omega (arith, c.reach.ensures.reaches.count) in
    let m : (step_of c.reach.new.path (c.reach.new.path.count - 1)).member ≡ c.in-Some.m =
    ap (λ i. (step_of c.reach.new.path i).member) e ∙ last_member c.reach.ensures.reaches (full c.before) in (
      omega (arith, c.reach.ensures.reaches.count),
      subst (λ k. Drops c.args.board.now c.args.moves.now k c.args.target) (sym m)
          (subst (λ x. RowHas c.args.board.now.tall x c.in-Some.m c.args.target) c.deref.ensures.value
          (c.has.ensures.0 c.if-has.true)),
    )

pub members-preserved : goal.members-preserved
members-preserved c =
    let more = goes_on c.reach.ensures.reaches (full c.before) in (
      still_long c.reach.ensures.reaches (full c.before) c.members.invariant.0,
      steps_now c.before,
      goes_trans c.members.invariant.2 more,
      c.reach.ensures.root ∙ c.members.invariant.3,
      either c.reach.ensures.reaches (full c.before)
          (λ _ x. Drops c.args.board.now c.args.moves.now x.member c.args.target → ⊥) c.members.invariant.4
          (λ d. let yes = c.has.ensures.1 (subst (λ x. RowHas c.args.board.now.tall x c.in-Some.m c.args.target)
          (sym c.deref.ensures.value) d) in
          absurd (let no = sym c.if-has.false ∙ yes in cc)),
      (λ j lj takes. elim (cases_eq j c.in-Some.m) [
        | inl e ↦ subst (λ k. Has c.reach.new.path.members.items k) (sym e) c.reach.ensures.reaches.same
        | inr ne ↦ more.members j (elim (cases_lt j c.members.at) [
          | inl before ↦ c.members.invariant.5 j before takes
          | inr late ↦ c.in-Some.ensures.some.4 j late (omega (arith, lj, ne)) takes
        ])
      ]),
      omega (arith, c.in-Some.ensures.some.1),
    )
