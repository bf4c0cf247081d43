-- SPDX-License-Identifier: Apache-2.0 OR MIT
use Rattle.std.proofs.Common.{ℕ, length}
use Rattle.cr_base.specs.declared.pairs.Order.TheVariants.{ByPaper}
use Rattle.cr_base.specs.Pairs.{ties_of, users_tied_to}
use Rattle.cr_base.specs.Ties.{authors_in}
use Rattle.cr_base.proofs.StepLaws.{takes-at_most, halves-at_most}
use Rattle.cr_view.proofs.StepLaws.{four}
use Rattle.cr_view.proofs.live.Live.tie_of.Goals as goal

pub returns-clause-steps : goal.returns-clause-steps
returns-clause-steps g c =
    let ties = c.self.inside.ties.ties in
    let p : ℕ = c.args.paper in
    let wrote = takes-at_most (length (authors_in ties p)) c.args.steps.now c.is_author-author.new.steps
    c.is_author-author.ensures.steps in
    let named = halves-at_most (length (users_tied_to p ties.conflicts)) c.is_author-author.new.steps
    c.is_declared-declared.new.steps c.is_declared-declared.ensures.steps in
    let seated = takes-at_most (length (ties_of ByPaper p c.self.inside.seats.seats)) c.is_declared-declared.new.steps
    c.ordinal_of-label.new.steps c.ordinal_of-label.ensures.steps in
    rw (← c.self.view_is)
    (four _ _ _ _ c.args.steps.now c.is_author-author.new.steps c.is_declared-declared.new.steps
    c.ordinal_of-label.new.steps
    c.is_external-external.new.steps wrote named seated c.is_external-external.ensures.steps)
