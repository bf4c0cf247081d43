-- SPDX-License-Identifier: Apache-2.0 OR MIT
use Rattle.std.proofs.Common.{◌∙◌, ap, sym}
use Rattle.cr_base.specs.declared.command.Query.{Query}
use Rattle.cr_base.specs.Answering.{query_checks}
use Rattle.cr_base.specs.Checks.{judged}
use Rattle.cr_base.specs.Sources.{facts_of_tables, shown_in_tables}
use Rattle.cr_view.proofs.live.Live.may.Goals as goal

pub returns-in-Plan : goal.returns-in-Plan
returns-in-Plan c =
    let t = c.args.self.now.tables in
    c.may_plan.ensures
    ∙ ap (λ (query : Query). judged (query_checks (facts_of_tables t c.args.user.now) (shown_in_tables t) query)
    (tt {0})) (sym c.in-Plan.is)
