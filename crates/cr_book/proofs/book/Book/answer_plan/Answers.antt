-- SPDX-License-Identifier: Apache-2.0 OR MIT
use Rattle.std.proofs.Common.{◌∙◌, ap, subst}
use Rattle.cr_base.specs.declared.command.Query.TheVariants as queries
use Rattle.cr_base.specs.declared.reply.Reply.{Reply}
use Rattle.cr_base.specs.History.{History}
use Rattle.cr_policy.specs.Judge.{answer}
use Rattle.cr_policy.specs.View.{view}
use Rattle.cr_view.specs.Replies.{AnswersOrPlans}
use Rattle.cr_book.specs.Seen.{SeenBook}
use Rattle.cr_book.proofs.BookLaws.{answered-by_view}
use Rattle.cr_book.proofs.book.Book.answer_plan.Goals as goal

pub returns : goal.returns
returns g c =
    let u = c.args.caller.now in
    let q = queries.Plan c.args.per_paper c.args.load in
    let same = ap (λ (v : SeenBook g.row.K.Denot). v.log) c.self.view_is in
    subst (λ (due : Reply). AnswersOrPlans c.answer.result due)
    (answered-by_view g.K.Keeper.rows c.self.inside.log.entries c.self.inside.live.tables c.self.inside.keeper u q
    c.self.invariant.0
    ∙ ap (λ (h : History). answer u (view u h) q) same)
    c.answer.ensures
