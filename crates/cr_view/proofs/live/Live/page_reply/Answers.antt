-- SPDX-License-Identifier: Apache-2.0 OR MIT
use Rattle.std.proofs.Common.{Ok, Err}
use Rattle.cr_view.proofs.AnswerLaws.{page-answered}
use Rattle.cr_view.proofs.live.Live.page_reply.Goals as goal

pub returns-in-Ok : goal.returns-in-Ok
returns-in-Ok c =
    page-answered c.args.self.now.tables c.args.user.now c.args.paper.now (Ok c.in-Ok.page) c.in-Ok.ensures.page

pub returns : goal.returns
returns c =
    page-answered c.args.self.now.tables c.args.user.now c.args.paper.now (Err c.in-Err.error) c.in-Err.ensures.page
