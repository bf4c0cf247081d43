-- SPDX-License-Identifier: Apache-2.0 OR MIT
use Rattle.std.proofs.Common.{ℕ, List, Some, length, ap, subst, sym, ◌∙◌, ◌*◌, ◌≤◌, ◌++◌}
use Rattle.std.specs.List.{flat_map}
use Rattle.cr_base.specs.declared.reply.AccountLine.{AccountLine}
use Rattle.cr_base.specs.Plans.{plan_header, planned_papers}
use Rattle.cr_base.specs.Sources.{facts_of_tables, shown_in_tables}
use Rattle.cr_match.specs.declared.problem.Pair.{Pair}
use Rattle.cr_match.specs.Answer.{AreInside}
use Rattle.cr_plans.specs.Pairing.{row_at}
use Rattle.cr_plans.proofs.Due.{due-best, due-inside, due-none, may-fit}
use Rattle.cr_plans.proofs.Problems.{problem-ascends}
use Rattle.cr_plans.proofs.solving.solved.Goals as goal

pub problem-requires-clause-places : goal.problem-requires-clause-places
problem-requires-clause-places c =
    let fits = may-fit c.args.live.now.tables c.args.user.now c.args.per_paper c.requires.may in
    subst (λ (ps : List ℕ). c.args.per_paper * length ps ≤ 512) (sym c.requires.papers) fits.0

pub problem-requires-clause-grid : goal.problem-requires-clause-grid
problem-requires-clause-grid c =
    let fits = may-fit c.args.live.now.tables c.args.user.now c.args.per_paper c.requires.may in
    subst (λ (ps : List ℕ). length ps * length c.args.members.now ≤ 4096) (sym c.requires.papers)
    (subst
    (λ (ms : List AccountLine). length (planned_papers (facts_of_tables c.args.live.now.tables c.args.user.now)
    (shown_in_tables c.args.live.now.tables) c.args.per_paper) * length ms ≤ 4096)
    (sym c.requires.members) fits.1)

pub text-requires : goal.text-requires
text-requires c =
    subst (λ (es : List Pair). AreInside (length c.args.papers.now) (length c.args.members.now) es)
    (sym c.deref.ensures.value)
    (due-inside c.args.live.now.tables c.args.user.now c.args.per_paper c.args.load c.args.papers.now c.args.members.now
    c.in_ok-problem.problem
    c.requires.papers c.requires.members c.in_ok-problem.ensures _ _ _ c.in-Best.ensures.solved)

pub returns-in-Best : goal.returns-in-Best
returns-in-Best c =
    ap (λ (l : List ℕ). Some l) (c.in_ok-text-in-Best.ensures
    ∙ ap (λ (es : List Pair). plan_header ++ flat_map (row_at c.args.papers.now c.args.members.now) es)
    c.deref.ensures.value)
    ∙ due-best c.args.live.now.tables c.args.user.now c.args.per_paper c.args.load c.args.papers.now c.args.members.now
    c.in_ok-problem.problem
    c.requires.papers c.requires.members c.in_ok-problem.ensures _ _ _ c.in-Best.ensures.solved
    (c.in-Best.ensures.first (problem-ascends c.args.live.now.tables c.args.papers.now c.args.members.now c.args.per_paper
    c.args.load c.in_ok-problem.problem c.in_ok-problem.ensures)).1

pub returns-in-NoPlan : goal.returns-in-NoPlan
returns-in-NoPlan c =
    due-none c.args.live.now.tables c.args.user.now c.args.per_paper c.args.load c.args.papers.now c.args.members.now
    c.in_ok-problem.problem
    c.requires.papers c.requires.members c.in_ok-problem.ensures _ c.in-NoPlan.ensures.solved
