-- SPDX-License-Identifier: Apache-2.0 OR MIT
use Rattle.std.proofs.Common.{◌∙◌, Some, sym}
use Rattle.cr_conflicts.proofs.EarlierLaws.{author-given, author-stays}
use Rattle.cr_conflicts.proofs.ties.Ties.is_author_behind.Goals as goal

pub returns-then-is_author-clause-value : goal.returns-then-is_author-clause-value
returns-then-is_author-clause-value g c =
    c.if-is_author.true
    ∙ author-stays (Some c.args.user) c.args.paper c.args.self.now.ties c.args.earlier.now
    (sym c.is_author.ensures.value ∙ c.if-is_author.true)

pub returns-else-is_author-clause-value : goal.returns-else-is_author-clause-value
returns-else-is_author-clause-value g c =
    author-given (Some c.args.user) c.args.paper c.args.self.now.ties c.args.earlier.now c.give_author.result
    (sym c.is_author.ensures.value ∙ c.if-is_author.false) c.give_author.ensures
