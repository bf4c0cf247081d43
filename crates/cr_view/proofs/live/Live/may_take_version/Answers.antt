-- SPDX-License-Identifier: Apache-2.0 OR MIT
use Rattle.std.proofs.Common.{Some, [], sym}
use Rattle.std.specs.Prelude.{unwrap_or}
use Rattle.cr_base.specs.declared.command.Query.TheVariants as queries
use Rattle.cr_base.specs.Answering.{content_by}
use Rattle.cr_base.specs.Sources.{facts_of_tables, shown_in_tables}
use Rattle.cr_view.proofs.AskingLaws.{may_not}
use Rattle.cr_view.proofs.live.Live.may_take_version.Goals as goal

pub returns-in-Err : goal.returns-in-Err
returns-in-Err c =
    let t = c.args.self.now.tables in
    let user = c.args.user.now in
    let paper = c.args.paper.now in
    may_not t user (queries.Version paper c.args.version)
    (unwrap_or (content_by (facts_of_tables t user) (shown_in_tables t) paper (Some c.args.version)) []) c.in-Err.rule
    (sym c.in-Err.ensures.rule)
