-- SPDX-License-Identifier: Apache-2.0 OR MIT
use Rattle.std.proofs.Common.{refl}
use Rattle.cr_base.specs.declared.command.Query.TheVariants as queries
use Rattle.cr_base.specs.Answering.{reviews_by}
use Rattle.cr_view.proofs.AnswerLaws.{due-refused, due-told, due-unserved}
use Rattle.cr_view.proofs.live.Live.reviews_for.Goals as goal

pub returns-in-Err : goal.returns-in-Err
returns-in-Err c =
    due-refused (λ p. queries.Reviews p) reviews_by c.args.self.now.tables c.args.user.now c.args.paper.now
    c.in-Err.rule c.in-Err.ensures

pub returns : goal.returns
returns c =
    due-told (λ p. queries.Reviews p) reviews_by
    c.args.self.now.tables c.args.user.now c.args.paper.now (λ n. refl) c.in-Ok.by c.in-Ok.ensures c.in-Some.paper
    c.in-Some.is _
    c.in_ok-reviews-in-Some.ensures

pub returns-in_err-reviews-in-Some : goal.returns-in_err-reviews-in-Some
returns-in_err-reviews-in-Some c =
    due-unserved (λ p. queries.Reviews p) reviews_by
    c.args.self.now.tables c.args.user.now c.args.paper.now c.in-Ok.by c.in-Ok.ensures c.from_residual.result
    c.from_residual.ensures.1
