-- SPDX-License-Identifier: Apache-2.0 OR MIT
use Rattle.cr_base.specs.declared.command.Query.TheVariants as queries
use Rattle.cr_base.specs.Sources.{standing_at}
use Rattle.cr_view.proofs.AskingLaws.{may_not, may_pass}
use Rattle.cr_view.proofs.live.Live.may_read_reviews.Goals as goal

pub returns-in-Ok : goal.returns-in-Ok
returns-in-Ok c =
    may_pass c.args.self.now.tables c.args.user.now (queries.Reviews c.args.paper.now)
    (standing_at c.args.self.now.tables c.args.user.now c.args.paper.now) c.in-Ok.field-0 c.in-Ok.ensures

pub returns-in-Err : goal.returns-in-Err
returns-in-Err c =
    may_not c.args.self.now.tables c.args.user.now (queries.Reviews c.args.paper.now)
    (standing_at c.args.self.now.tables c.args.user.now c.args.paper.now) c.in-Err.rule c.in-Err.ensures
