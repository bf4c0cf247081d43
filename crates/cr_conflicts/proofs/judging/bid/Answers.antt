-- SPDX-License-Identifier: Apache-2.0 OR MIT
use Rattle.std.proofs.Common.{true, ◌∷◌, [], sym}
use Rattle.std.specs.Prelude.{not}
use Rattle.cr_base.specs.declared.reply.Rule.TheVariants as rules
use Rattle.cr_base.specs.Checks.{◌breaks◌, member_checks, of_there}
use Rattle.cr_base.specs.Phases.{bids_are_taken}
use Rattle.cr_base.proofs.CheckLaws.{judged-front}
use Rattle.cr_conflicts.proofs.judging.bid.Goals as goal

pub returns-in-Err : goal.returns-in-Err
returns-in-Err c =
    let by = c.args.by.now in
    sym
    (judged-front (member_checks by (of_there true))
    (not (bids_are_taken by.phase) breaks rules.WrongPhase ∷ c.args.late breaks rules.Late ∷ c.args.withdrawn breaks
    rules.Withdrawn ∷ []) tt tt c.in-Err.rule (sym c.in-Err.ensures))
