-- SPDX-License-Identifier: Apache-2.0 OR MIT
use Rattle.std.proofs.Common.{sym}
use Rattle.cr_base.specs.declared.command.Query.TheVariants as queries
use Rattle.cr_base.specs.Answering.{response_by}
use Rattle.cr_base.specs.Sources.{shown_in_tables}
use Rattle.cr_view.proofs.AskingLaws.{may_not}
use Rattle.cr_view.proofs.live.Live.may_read_response.Goals as goal

pub returns-in-Err : goal.returns-in-Err
returns-in-Err c =
    let t = c.args.self.now.tables in
    may_not t c.args.user.now (queries.Response c.args.paper.now) (response_by (shown_in_tables t) c.args.paper.now)
    c.in-Err.rule (sym c.in-Err.ensures.rule)
