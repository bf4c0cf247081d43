-- SPDX-License-Identifier: Apache-2.0 OR MIT
use Rattle.std.proofs.Common.{length, subst}
use Rattle.cr_base.specs.declared.pairs.Order.{Order}
use Rattle.cr_base.specs.declared.pairs.Order.TheVariants.{ByPaper}
use Rattle.cr_base.specs.Pairs.{major, ties_of}
use Rattle.cr_base.specs.Steps.{Halves}
use Rattle.cr_pairs.specs.Seen.{SeenIndexed}
use Rattle.cr_pairs.proofs.indexed_pairs.IndexedPairs.value.Goals as goal

pub returns-clause-steps : goal.returns-clause-steps
returns-clause-steps g c =
    let x = c.self.inside in
    let q = c.args.pair.now in
    let own =
    subst (λ (o : Order). Halves (length (ties_of o (major o q) x.by_paper.ties)) c.args.steps.now c.value.new.steps)
    c.self.invariant.by_paper c.value.ensures.steps in
    subst (λ (s : SeenIndexed g.row.V.Denot). Halves (length (ties_of ByPaper q.paper s.ties)) c.args.steps.now
    c.value.new.steps) c.self.view_is own
