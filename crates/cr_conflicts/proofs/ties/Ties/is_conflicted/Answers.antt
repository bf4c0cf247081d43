-- SPDX-License-Identifier: Apache-2.0 OR MIT
use Rattle.std.proofs.Common.{◌+◌, arith, length}
use Rattle.cr_base.specs.Pairs.{users_tied_to}
use Rattle.cr_base.specs.Ties.{authors_in}
use Rattle.cr_base.proofs.StepLaws.{takes-at_most, at_most-more, at_most-at_most, halves-at_most}
use Rattle.cr_conflicts.proofs.ties.Ties.is_conflicted.Goals as goal

pub returns-then-is_author_behind-clause-steps : goal.returns-then-is_author_behind-clause-steps
returns-then-is_author_behind-clause-steps g c =
    let n = length (authors_in c.args.self.now.ties c.args.paper) in
    let m = length (users_tied_to c.args.paper c.args.self.now.ties.conflicts) in
    at_most-more n (n + m) _ _ (omega arith) (takes-at_most n _ _ c.is_author_behind.ensures.steps)

pub returns-clause-steps : goal.returns-clause-steps
returns-clause-steps g c =
    let n = length (authors_in c.args.self.now.ties c.args.paper) in
    let m = length (users_tied_to c.args.paper c.args.self.now.ties.conflicts) in
    at_most-at_most n m _ c.is_author_behind.new.steps _ (takes-at_most n _ _ c.is_author_behind.ensures.steps)
    (halves-at_most m _ _ c.is_declared_behind.ensures.steps)
