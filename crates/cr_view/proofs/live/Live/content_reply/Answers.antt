-- SPDX-License-Identifier: Apache-2.0 OR MIT
use Rattle.std.proofs.Common.{Ok, Err}
use Rattle.cr_view.proofs.AnswerLaws.{content-answered}
use Rattle.cr_view.proofs.live.Live.content_reply.Goals as goal

pub returns-in-Ok : goal.returns-in-Ok
returns-in-Ok c = content-answered c.args.self.now.tables c.args.user.now c.args.paper.now c.args.version
    (Ok c.in-Ok.content) c.in-Ok.ensures

pub returns-in-Err : goal.returns-in-Err
returns-in-Err c = content-answered c.args.self.now.tables c.args.user.now c.args.paper.now c.args.version
    (Err c.in-Err.error) c.in-Err.ensures
