-- SPDX-License-Identifier: Apache-2.0 OR MIT
use Rattle.std.proofs.Common.{[], ◌∷◌, sym, ◌∙◌}
use Rattle.cr_base.specs.declared.reply.Rule.TheVariants as rules
use Rattle.cr_base.specs.Checks.{◌breaks◌, chair_checks}
use Rattle.cr_base.specs.Words.{is_member}
use Rattle.cr_base.proofs.CheckLaws.{judged-front}
use Rattle.cr_assign.proofs.judging.invite.Goals as goal

pub returns-in-Err : goal.returns-in-Err
returns-in-Err c =
    sym (judged-front (chair_checks c.args.by.now c.args.withdrawn)
    (is_member c.args.role breaks rules.IsMember ∷ c.args.conflicted breaks rules.TargetConflict
    ∷ c.args.invited breaks rules.AlreadyInvited ∷ [])
    tt tt c.in-Err.rule (sym c.may_chair.ensures ∙ c.in-Err.is))
