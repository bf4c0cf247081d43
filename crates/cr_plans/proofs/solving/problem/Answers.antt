-- SPDX-License-Identifier: Apache-2.0 OR MIT
use Rattle.std.proofs.Common.{ℕ, ◌*◌, ◌≤◌, List, length, subst, sym, ◌∙◌}
use Rattle.cr_match.specs.declared.problem.Pair.{Pair}
use Rattle.cr_plans.specs.Pairing.{AllWeigh}
use Rattle.cr_plans.proofs.Due.{few-papers}
use Rattle.cr_plans.proofs.Problems.{asked-of, parts-asked, problem-is}
use Rattle.cr_plans.proofs.solving.problem.Goals as goal

pub pairs-requires-clause-papers : goal.pairs-requires-clause-papers
pairs-requires-clause-papers c =
    few-papers c.number-places.result (length c.args.papers.now) c.number-places.ensures.low
    (subst (λ (k : ℕ). k * length c.args.papers.now ≤ 512) (sym c.number-places.ensures.value) c.requires.places)

pub narrow-paper_count-requires : goal.narrow-paper_count-requires
narrow-paper_count-requires c =
    few-papers c.number-places.result (length c.args.papers.now) c.number-places.ensures.low
    (subst (λ (k : ℕ). k * length c.args.papers.now ≤ 512) (sym c.number-places.ensures.value) c.requires.places)

pub unreachable-requires : goal.unreachable-requires
unreachable-requires c =
    let few = few-papers c.number-places.result (length c.args.papers.now) c.number-places.ensures.low
    (subst (λ (k : ℕ). k * length c.args.papers.now ≤ 512) (sym c.number-places.ensures.value) c.requires.places) in
    c.in-None.ensures.none
    (parts-asked c.args.live.now.tables c.args.papers.now c.args.members.now c.args.per_paper c.args.load _ _ _ _ _
    c.narrow-paper_count.ensures c.narrow-member_count.ensures (c.narrow.ensures ∙ c.number-places.ensures.value)
    (c.narrow-2.ensures ∙ c.number-most.ensures.value)
    c.in_ok-pairs.ensures.pairs
    (asked-of c.args.live.now.tables c.args.papers.now c.args.members.now c.args.per_paper few c.requires.members
    (subst (λ (k : ℕ). k ≤ 26) c.number-places.ensures.value c.number-places.ensures.high)
    c.requires.places c.requires.grid
    (subst (λ (es : List Pair). AllWeigh es) c.in_ok-pairs.ensures.pairs c.in_ok-pairs.ensures.weights)))

pub returns : goal.returns
returns c =
    problem-is c.args.live.now.tables c.args.papers.now c.args.members.now c.args.per_paper c.args.load _ _ _ _ _
    c.narrow-paper_count.ensures c.narrow-member_count.ensures (c.narrow.ensures ∙ c.number-places.ensures.value)
    (c.narrow-2.ensures ∙ c.number-most.ensures.value)
    c.in_ok-pairs.ensures.pairs c.in-Some.problem c.in-Some.ensures.some
