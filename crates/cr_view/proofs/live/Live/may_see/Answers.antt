-- SPDX-License-Identifier: Apache-2.0 OR MIT
use Rattle.std.specs.Prelude.{unwrap_or}
use Rattle.cr_base.specs.declared.command.Query.TheVariants as queries
use Rattle.cr_view.specs.PaperSeen.{paper_seen_at}
use Rattle.cr_view.proofs.AskingLaws.{may_not, may_pass}
use Rattle.cr_view.proofs.live.Live.may_see.Goals as goal

pub returns-in-Ok : goal.returns-in-Ok
returns-in-Ok c =
    may_pass c.args.self.now.tables c.args.user.now (queries.Page c.args.paper.now)
    (paper_seen_at c.args.self.now.tables c.args.user.now (unwrap_or c.args.paper.now 0)) c.in-Ok.field-0
    c.in-Ok.ensures.facts

pub returns : goal.returns
returns c =
    may_not c.args.self.now.tables c.args.user.now (queries.Page c.args.paper.now)
    (paper_seen_at c.args.self.now.tables c.args.user.now (unwrap_or c.args.paper.now 0)) c.in-Err.rule
    c.in-Err.ensures.facts
