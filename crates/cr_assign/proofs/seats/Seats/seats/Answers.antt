-- SPDX-License-Identifier: Apache-2.0 OR MIT
use Rattle.std.proofs.Common.{ℕ, ◌≤◌, ◌∙◌, length, ap, sym, subst}
use Rattle.cr_base.specs.declared.pairs.Order.TheVariants.{ByPaper}
use Rattle.cr_base.specs.Pairs.{ties_of}
use Rattle.cr_base.specs.Seats.{SeatsState}
use Rattle.cr_base.specs.Steps.{Takes}
use Rattle.cr_kept.proofs.OwnLaws.{own-of}
use Rattle.cr_assign.specs.Seen.{SeenSeats}
use Rattle.cr_assign.proofs.LeftLaws.{paper_of}
use Rattle.cr_assign.proofs.seats.Seats.seats.Goals as goal

pub returns-clause-ties : goal.returns-clause-ties
returns-clause-ties g c =
    c.of_paper.ensures.values
    ∙ own-of paper_of c.args.paper c.self.inside.seats.files c.self.invariant.1
    ∙ ap (λ (v : SeenSeats). ties_of ByPaper c.args.paper v.seats) c.self.view_is

pub returns-clause-few : goal.returns-clause-few
returns-clause-few g c =
    subst (λ (ts : SeatsState). length ts ≤ 26)
    (sym (c.of_paper.ensures.values ∙ own-of paper_of c.args.paper c.self.inside.seats.files c.self.invariant.1))
    (c.self.invariant.0.few c.args.paper)

pub returns-clause-steps : goal.returns-clause-steps
returns-clause-steps g c =
    let same =
    ap (λ (ts : SeatsState). length ts) (own-of paper_of c.args.paper c.self.inside.seats.files c.self.invariant.1)
    ∙ ap (λ (v : SeenSeats). length (ties_of ByPaper c.args.paper v.seats)) c.self.view_is in
    subst (λ (n : ℕ). Takes n c.args.steps.now c.of_paper.new.steps) same c.of_paper.ensures.steps
