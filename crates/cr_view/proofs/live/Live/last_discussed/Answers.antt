-- SPDX-License-Identifier: Apache-2.0 OR MIT
use Rattle.std.proofs.Common.{◌∙◌, ap}
use Rattle.cr_base.specs.Lists.{last}
use Rattle.cr_base.specs.Reviews.{forms_from, last_form_before}
use Rattle.cr_base.specs.Phases.{committee_reads_from}
use Rattle.cr_view.specs.Seen.{SeenTables}
use Rattle.cr_view.proofs.ReportLaws.{discussed-early, discussed-late}
use Rattle.cr_view.proofs.live.Live.last_discussed.Goals as goal

pub returns-in-Some : goal.returns-in-Some
returns-in-Some c =
    discussed-late c.args.self.now.tables c.args.paper c.args.label c.in-Some.form.now
    (c.in-Some.ensures.value
    ∙ ap (λ (v : SeenTables). last (forms_from v.tables.reviews c.args.paper c.args.label committee_reads_from))
    c.self.view_is)

pub returns : goal.returns
returns c =
    discussed-early c.args.self.now.tables c.args.paper c.args.label _
    (c.in-None.ensures.value
    ∙ ap (λ (v : SeenTables). last (forms_from v.tables.reviews c.args.paper c.args.label committee_reads_from))
    c.self.view_is)
    (c.last_before.ensures.value
    ∙ ap (λ (v : SeenTables). last_form_before v.tables.reviews c.args.paper c.args.label committee_reads_from)
    c.self.view_is)
