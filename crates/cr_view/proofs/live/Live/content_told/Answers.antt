-- SPDX-License-Identifier: Apache-2.0 OR MIT
use Rattle.cr_view.proofs.ContentLaws.{content-refused, content-lent, content-missing}
use Rattle.cr_view.proofs.live.Live.content_told.Goals as goal

pub returns-in-Err-clause-rule : goal.returns-in-Err-clause-rule
returns-in-Err-clause-rule c = content-refused c.args.self.now.tables c.args.user.now c.args.paper.now c.args.version
    c.in-Err.rule c.in-Err.ensures

pub returns-in-Some-content_of-clause-content : goal.returns-in-Some-content_of-clause-content
returns-in-Some-content_of-clause-content c =
    content-lent c.args.self.now.tables c.args.user.now c.args.paper.now c.args.version c.in-Ok.by c.in-Ok.ensures
    c.in-Some.number c.in-Some.is c.in-Some-content_of.content.now c.in-Some-content_of.ensures

pub returns-in-None-clause-rule : goal.returns-in-None-clause-rule
returns-in-None-clause-rule c = content-missing c.args.self.now.tables c.args.user.now c.args.paper.now c.args.version
    c.in-Ok.by c.in-Ok.ensures c.in-Some.number c.in-Some.is c.in-None.ensures
