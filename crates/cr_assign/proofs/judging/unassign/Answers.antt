-- SPDX-License-Identifier: Apache-2.0 OR MIT
use Rattle.std.proofs.Common.{[], ◌∷◌, sym, ◌∙◌}
use Rattle.std.specs.Prelude.{is_some, not, unwrap_or}
use Rattle.cr_base.specs.declared.reply.Rule.TheVariants as rules
use Rattle.cr_base.specs.Checks.{◌breaks◌, chair_checks}
use Rattle.cr_base.proofs.CheckLaws.{judged-front}
use Rattle.cr_assign.proofs.judging.unassign.Goals as goal

pub returns-in-Err : goal.returns-in-Err
returns-in-Err c =
    sym (judged-front (chair_checks c.args.by.now c.args.withdrawn)
    (not (is_some c.args.held) breaks rules.NotAssigned ∷ c.args.has_form breaks rules.HasReview ∷ [])
    tt (unwrap_or c.args.held 0) c.in-Err.rule (sym c.may_chair.ensures ∙ c.in-Err.is))
