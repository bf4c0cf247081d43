-- SPDX-License-Identifier: Apache-2.0 OR MIT
use Rattle.std.proofs.Common.{length}
use Rattle.cr_base.specs.Pairs.{users_tied_to}
use Rattle.cr_base.proofs.StepLaws.{halves-at_most}
use Rattle.cr_assign.proofs.seats.Seats.is_external.Goals as goal

pub returns-clause-steps : goal.returns-clause-steps
returns-clause-steps g c =
    halves-at_most (length (users_tied_to c.args.paper c.args.self.now.invites)) c.args.steps.now c.is_invited.new.steps
    c.is_invited.ensures.steps
