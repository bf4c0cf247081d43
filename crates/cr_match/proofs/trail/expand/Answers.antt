-- SPDX-License-Identifier: Apache-2.0 OR MIT
use Rattle.cr_match.proofs.Common.{List, ℕ, ◌<◌, inl, inr, refl, arith, ap, sym, ◌∙◌, subst, cases_eq, cases_lt, Has}
use Rattle.cr_match.proofs.Common.{Step, Drops, step_of}
use Rattle.cr_match.proofs.Walks.{if_none}
use Rattle.cr_match.proofs.Reached.{expanded, goes_trans, steps_le}
use Rattle.cr_match.proofs.trail.expand.Goals.{After-is_some}
use Rattle.cr_match.proofs.trail.expand.Goals as goal

pub step_at-member-requires : goal.step_at-member-requires
step_at-member-requires c = omega (arith, c.requires.places.1, steps_le c.requires.steps.0, c.requires.moves.1.1.steps)

pub papers-init : goal.papers-init
papers-init c = (
  c.requires.moves.1,
  c.requires.steps.0,
  c.requires.steps.1,
  (record { count = omega arith; steps = λ i _. refl; members = λ m has. has }, λ q has. has, refl),
  refl,
  ap (λ (x : Step). x.member) c.step_at-member.ensures,
  (λ j lj. absurd (omega (arith, lj))),
  omega arith,
)

drops_it : (c : After-is_some)
    → Drops c.args.board.now c.args.moves.now (step_of c.papers.trail.path c.args.from).member c.in-Some.paper
drops_it c =
    subst (λ k. Drops c.args.board.now c.args.moves.now k c.in-Some.paper) c.papers.invariant.5 c.in-Some.ensures.some.2

pub spread-found-requires-clause-places : goal.spread-found-requires-clause-places
spread-found-requires-clause-places c = (
  c.requires.places.0,
  omega (arith, c.in-Some.ensures.some.1),
  omega (arith, c.requires.places.1, c.papers.invariant.3.0.count),
  omega (arith, c.requires.places.2, c.papers.invariant.3.2),
)

grown : (c : After-is_some) (q : ℕ) → Has c.args.trail.now.papers.items q → Has c.reach_paper.new.papers.items q
grown c q has = elim (cases_eq q c.in-Some.paper) [
  | inl e ↦ subst (Has c.reach_paper.new.papers.items) (sym e) c.reach_paper.ensures.same
  | inr ne ↦ (c.reach_paper.ensures.others q ne).1 (c.papers.invariant.3.1 q has)
]

pub returns-then-is_some-clause-goes : goal.returns-then-is_some-clause-goes
returns-then-is_some-clause-goes c = (
  (
    goes_trans c.papers.invariant.3.0 c.spread-found.ensures.goes.0,
    grown c.before,
    c.spread-found.ensures.goes.1 ∙ c.papers.invariant.3.2,
  ),
  c.papers.invariant.4,
)

pub papers-preserved : goal.papers-preserved
papers-preserved c =
    let goes = c.spread-found.ensures.goes in
    let all = if_none c.spread-found.result (sym c.is_some.ensures ∙ c.if-is_some.false) c.spread-found.ensures.none in
    let lf : c.args.from < c.papers.trail.path.count =
    omega (arith, c.requires.places.1, c.papers.invariant.3.0.count) in (
      (omega (arith, c.reach_paper.ensures.long, c.papers.invariant.0.0), c.spread-found.ensures.long),
      c.spread-found.ensures.steps,
      expanded c.args.from c.in-Some.paper lf c.reach_paper.ensures.same c.reach_paper.ensures.others goes.0 all.0 all.1
          (drops_it c.before) c.papers.invariant.2,
      (goes_trans c.papers.invariant.3.0 goes.0, grown c.before, goes.1 ∙ c.papers.invariant.3.2),
      c.papers.invariant.4,
      c.papers.invariant.5 ∙ sym (ap (λ (x : Step). x.member) (goes.0.steps c.args.from lf)),
      (λ j lj drops. elim (cases_eq j c.in-Some.paper) [
        | inl e ↦ subst (Has c.reach_paper.new.papers.items) (sym e) c.reach_paper.ensures.same
        | inr ne ↦ (c.reach_paper.ensures.others j ne).1 (elim (cases_lt j c.papers.at) [
          | inl early ↦ c.papers.invariant.6 j early drops
          | inr late ↦ subst (λ (xs : List ℕ). Has xs j) c.deref.ensures.value
              (c.in-Some.ensures.some.4 j late (omega (arith, lj, ne)) drops)
        ])
      ]),
      omega (arith, c.in-Some.ensures.some.1),
    )
