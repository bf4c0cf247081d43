-- SPDX-License-Identifier: Apache-2.0 OR MIT
use Rattle.std.proofs.Common.{◌∙◌, ap, sym, subst, None, Ok, Err}
use Rattle.cr_base.specs.declared.command.Query.TheVariants as queries
use Rattle.cr_base.specs.declared.reply.Reply.{Reply}
use Rattle.cr_base.specs.History.{History}
use Rattle.cr_policy.specs.Judge.{answer, needs_login}
use Rattle.cr_policy.specs.Legal.{MayAsk}
use Rattle.cr_policy.specs.View.{view}
use Rattle.cr_view.specs.declared.queries.AnswerError.TheVariants as errors
use Rattle.cr_view.specs.Replies.{AnswersAsDue}
use Rattle.cr_book.specs.Seen.{SeenBook}
use Rattle.cr_book.proofs.BookLaws.{answered-by_view, searched-no_refusal, searcher-there}
use Rattle.cr_book.proofs.book.Book.answer_search.Goals as goal

pub answer-requires : goal.answer-requires
answer-requires g c =
    let u = c.args.caller.now in
    let q = queries.Search c.args.search.now c.args.only_count in
    let same = ap (λ (v : SeenBook g.row.K.Denot). v.log) c.self.view_is in
    searcher-there c.self.inside.log.entries u c.args.search.now c.args.only_count
    (subst (λ (h : History). MayAsk h (needs_login (view None h) q) u) (sym same) c.requires)

pub returns-in-Ok : goal.returns-in-Ok
returns-in-Ok g c =
    let u = c.args.caller.now in
    let q = queries.Search c.args.search.now c.args.only_count in
    let t = c.self.inside.live.tables in
    let same = ap (λ (v : SeenBook g.row.K.Denot). v.log) c.self.view_is in
    let due = answered-by_view g.K.Keeper.rows c.self.inside.log.entries t c.self.inside.keeper u q c.self.invariant.0
    ∙ ap (λ (h : History). answer u (view u h) q) same in
    subst (λ (reply : Reply). AnswersAsDue (Ok c.in-Ok.reply) reply) due
    (c.in-Ok.ensures, searched-no_refusal t u c.args.search.now c.args.only_count)

pub returns-in-Err : goal.returns-in-Err
returns-in-Err g c =
    let u = c.args.caller.now in
    let q = queries.Search c.args.search.now c.args.only_count in
    let t = c.self.inside.live.tables in
    let same = ap (λ (v : SeenBook g.row.K.Denot). v.log) c.self.view_is in
    let due = answered-by_view g.K.Keeper.rows c.self.inside.log.entries t c.self.inside.keeper u q c.self.invariant.0
    ∙ ap (λ (h : History). answer u (view u h) q) same in
    subst (λ (reply : Reply). AnswersAsDue (Err errors.OutOfMemory) reply) due
    (searched-no_refusal t u c.args.search.now c.args.only_count)
