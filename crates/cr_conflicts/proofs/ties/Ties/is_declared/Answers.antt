-- SPDX-License-Identifier: Apache-2.0 OR MIT
use Rattle.std.proofs.Common.{ℕ, ◌∙◌, length, ap, sym, subst}
use Rattle.std.proofs.lemmas.List.{length-map}
use Rattle.cr_base.specs.declared.pairs.Order.TheVariants.{ByPaper}
use Rattle.cr_base.specs.declared.pairs.Tie.{Tie}
use Rattle.cr_base.specs.Pairs.{ties_of, users_tied_to}
use Rattle.cr_base.specs.Steps.{Halves}
use Rattle.cr_conflicts.specs.Seen.{SeenTies}
use Rattle.cr_conflicts.proofs.ties.Ties.is_declared.Goals as goal

pub returns-clause-steps : goal.returns-clause-steps
returns-clause-steps g c =
    let paper = c.args.paper in
    let same =
    sym (length-map (ties_of ByPaper paper c.self.inside.conflicts.ties) (λ (t : Tie (Unit {0})). t.pair.user))
    ∙ ap (λ (v : SeenTies). length (users_tied_to paper v.ties.conflicts)) c.self.view_is in
    subst (λ (n : ℕ). Halves n c.args.steps.now c.contains.new.steps) same c.contains.ensures.steps
