-- SPDX-License-Identifier: Apache-2.0 OR MIT
use Rattle.std.proofs.Common.{Ok, Err}
use Rattle.cr_view.proofs.AnswerLaws.{comments-answered}
use Rattle.cr_view.proofs.live.Live.comments_reply.Goals as goal

pub returns-in-Ok : goal.returns-in-Ok
returns-in-Ok c =
    comments-answered c.args.self.now.tables c.args.user.now c.args.paper.now (Ok c.in-Ok.lines) c.in-Ok.ensures

pub returns-in-Err : goal.returns-in-Err
returns-in-Err c =
    comments-answered c.args.self.now.tables c.args.user.now c.args.paper.now (Err c.in-Err.error) c.in-Err.ensures
