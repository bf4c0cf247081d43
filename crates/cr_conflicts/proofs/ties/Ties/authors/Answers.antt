-- SPDX-License-Identifier: Apache-2.0 OR MIT
use Rattle.std.proofs.Common.{ℕ, ◌∙◌, length, map, ap, sym, subst}
use Rattle.std.proofs.lemmas.List.{length-map}
use Rattle.cr_base.specs.declared.pairs.Order.TheVariants.{ByPaper}
use Rattle.cr_base.specs.declared.pairs.Tie.{Tie}
use Rattle.cr_base.specs.Pairs.{ties_of}
use Rattle.cr_base.specs.Steps.{Takes}
use Rattle.cr_base.specs.Ties.{BareTies, authors_in}
use Rattle.cr_kept.proofs.OwnLaws.{own-of}
use Rattle.cr_kept.specs.Own.{values_in}
use Rattle.cr_conflicts.specs.Seen.{SeenTies}
use Rattle.cr_conflicts.proofs.IndexLaws.{paper_of}
use Rattle.cr_conflicts.proofs.ties.Ties.authors.Goals as goal

pub returns-clause-value : goal.returns-clause-value
returns-clause-value g c =
    ap (map (λ (t : Tie (Unit {0})). t.pair.user))
    (c.of_paper.ensures.values ∙ own-of paper_of c.args.paper c.self.inside.authors.files c.self.invariant.1)
    ∙ ap (λ (v : SeenTies). authors_in v.ties c.args.paper) c.self.view_is

pub returns-clause-steps : goal.returns-clause-steps
returns-clause-steps g c =
    let paper = c.args.paper in
    let files = c.self.inside.authors.files in
    let same = ap (λ (ts : BareTies). length ts) (own-of paper_of paper files c.self.invariant.1)
    ∙ sym (length-map (ties_of ByPaper paper (values_in files)) (λ (t : Tie (Unit {0})). t.pair.user))
    ∙ ap (λ (v : SeenTies). length (authors_in v.ties paper)) c.self.view_is in
    subst (λ (n : ℕ). Takes n c.args.steps.now c.of_paper.new.steps) same c.of_paper.ensures.steps
