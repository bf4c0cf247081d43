-- SPDX-License-Identifier: Apache-2.0 OR MIT
use Rattle.std.proofs.Common.{◌≡◌, ◌∙◌, sym, subst}
use Rattle.cr_base.specs.declared.command.Query.{Query}
use Rattle.cr_base.specs.declared.reply.Reply.TheVariants as replies
use Rattle.cr_base.specs.Answering.{answer_by_role}
use Rattle.cr_view.specs.Replies.{AnswersAsDue}
use Rattle.cr_view.proofs.AnswerLaws.{conference-told}
use Rattle.cr_view.proofs.live.Live.answer.Goals as goal

pub returns-in-Phase-clause-answered : goal.returns-in-Phase-clause-answered
returns-in-Phase-clause-answered c =
    let told = conference-told c.args.self.now.tables c.args.caller.now c.args.query.now c.conference.result
    c.conference.ensures c.in-Phase.is in
    (told, λ rule broken. let e : replies.Conference c.conference.result ≡ replies.Refused rule = told ∙ broken in cc)

pub returns-in-Content-clause-answered : goal.returns-in-Content-clause-answered
returns-in-Content-clause-answered c =
    subst (λ (q : Query). AnswersAsDue c.content_reply.result
    (answer_by_role c.args.self.now.tables c.args.caller.now q)) (sym c.in-Content.is) c.content_reply.ensures

pub returns-in-Version-clause-answered : goal.returns-in-Version-clause-answered
returns-in-Version-clause-answered c =
    subst (λ (q : Query). AnswersAsDue c.content_reply-in-Version.result
    (answer_by_role c.args.self.now.tables c.args.caller.now q)) (sym c.in-Version.is)
    c.content_reply-in-Version.ensures

pub returns-in-Response-clause-answered : goal.returns-in-Response-clause-answered
returns-in-Response-clause-answered c =
    subst (λ (q : Query). AnswersAsDue c.response_reply.result
    (answer_by_role c.args.self.now.tables c.args.caller.now q)) (sym c.in-Response.is) c.response_reply.ensures
