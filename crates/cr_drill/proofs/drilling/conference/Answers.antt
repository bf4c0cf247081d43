-- SPDX-License-Identifier: Apache-2.0 OR MIT
use Rattle.std.proofs.Common.{◌∙◌, sym}
use Rattle.cr_drill.proofs.DrillConference.{conference-told}
use Rattle.cr_drill.proofs.drilling.conference.Goals as goal

pub returns-clause-phase : goal.returns-clause-phase
returns-clause-phase c =
    (conference-told c.args.book.now.log c.in-Ok-Conference.conference c.requires
    (sym c.in-Ok-Conference.field-0-is ∙ c.in-Ok-Conference.ensures.answered.0)).phase

pub returns-clause-papers : goal.returns-clause-papers
returns-clause-papers c =
    (conference-told c.args.book.now.log c.in-Ok-Conference.conference c.requires
    (sym c.in-Ok-Conference.field-0-is ∙ c.in-Ok-Conference.ensures.answered.0)).papers

pub returns-clause-few : goal.returns-clause-few
returns-clause-few c =
    (conference-told c.args.book.now.log c.in-Ok-Conference.conference c.requires
    (sym c.in-Ok-Conference.field-0-is ∙ c.in-Ok-Conference.ensures.answered.0)).few
