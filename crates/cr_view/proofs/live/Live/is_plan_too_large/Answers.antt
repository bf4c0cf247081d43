-- SPDX-License-Identifier: Apache-2.0 OR MIT
use Rattle.std.proofs.Common.{◌≡◌, ◌∙◌, length, ap}
use Rattle.std.specs.Prelude.{filter}
use Rattle.cr_base.specs.declared.reply.AccountLine.{AccountLine}
use Rattle.cr_base.specs.Accounts.{lines_of}
use Rattle.cr_base.specs.Plans.{is_too_large, planned_members}
use Rattle.cr_base.specs.Sources.{facts_of_tables}
use Rattle.cr_base.specs.Words.{is_member}
use Rattle.cr_view.specs.Seen.{SeenTables}
use Rattle.cr_view.proofs.live.Live.is_plan_too_large.Goals as goal

pub returns : goal.returns
returns c =
    let members : c.member_count-members.result
    ≡ length (planned_members (facts_of_tables c.args.self.now.tables c.args.user.now)) =
    c.member_count-members.ensures.count
    ∙ ap
    (λ (v : SeenTables). length (filter (λ (line : AccountLine). is_member line.role) (lines_of v.tables.accounts)))
    c.self.view_is in
    c.is_too_large.ensures ∙ (λ i. is_too_large c.args.per_paper (c.planned_count-papers.ensures.count i) (members i))
