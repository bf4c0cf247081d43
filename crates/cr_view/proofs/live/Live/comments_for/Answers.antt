-- SPDX-License-Identifier: Apache-2.0 OR MIT
use Rattle.std.proofs.Common.{◌∙◌, ap, refl}
use Rattle.cr_base.specs.declared.command.Query.TheVariants as queries
use Rattle.cr_base.specs.Answering.{comments_by}
use Rattle.cr_base.specs.Talk.{comments_in}
use Rattle.cr_view.specs.Comments.{lines_told}
use Rattle.cr_view.specs.Seen.{SeenTables}
use Rattle.cr_view.proofs.AnswerLaws.{due-refused, due-told}
use Rattle.cr_view.proofs.live.Live.comments_for.Goals as goal

pub returns-in-Err : goal.returns-in-Err
returns-in-Err c =
    due-refused (λ p. queries.Comments p) comments_by c.args.self.now.tables c.args.user.now c.args.paper.now
    c.in-Err.rule c.in-Err.ensures

pub returns : goal.returns
returns c =
    let t = c.args.self.now.tables in
    let told = c.in_ok-comment_lines-in-Some.ensures
    ∙ ap (lines_told t c.in-Ok.by) (c.comments-comments.ensures.comments
    ∙ ap (λ (v : SeenTables). comments_in v.tables.talk c.in-Some.paper) c.self.view_is) in
    due-told (λ p. queries.Comments p) comments_by
    t c.args.user.now c.args.paper.now (λ n. refl) c.in-Ok.by c.in-Ok.ensures c.in-Some.paper c.in-Some.is _ told
