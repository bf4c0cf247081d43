-- SPDX-License-Identifier: Apache-2.0 OR MIT
use Rattle.std.proofs.Common.{◌∙◌, ap, arith, length, sym}
use Rattle.std.proofs.lemmas.Bool.{true≢false}
use Rattle.cr_book.proofs.DueLaws.{lone-other, next-follows, rows-other, taken-chair, taken-coauthor, taken-row}
use Rattle.cr_book.proofs.beginnings.due_behind.Goals as goal

pub returns-then-not-follows : goal.returns-then-not-follows
returns-then-not-follows c = λ n.
    true≢false
    (sym (c.follows.ensures.1
    (next-follows c.args.live.now.tables c.args.first.now c.args.next c.args.begun.now c.requires.begun n))
    ∙ c.if-not-follows.true)

pub returns-in-Registered : goal.returns-in-Registered
returns-in-Registered c =
    taken-chair c.args.live.now.tables c.args.first.now c.args.next c.args.begun.now c.requires.begun
    (c.follows.ensures.0 c.if-not-follows.false) c.chair_behind.result _ _ _ c.in-Registered.is c.chair_behind.ensures

pub coauthor_behind-requires : goal.coauthor_behind-requires
coauthor_behind-requires c = let n = ap length c.requires.begun in omega (arith, n)

pub returns-in-Submitted : goal.returns-in-Submitted
returns-in-Submitted c =
    taken-coauthor c.args.live.now.tables c.args.first.now c.args.next c.args.begun.now c.requires.begun
    (c.follows.ensures.0 c.if-not-follows.false) c.coauthor_behind.result _ _ _ c.in-Submitted.is
    c.coauthor_behind.ensures

pub row_drawn-requires : goal.row_drawn-requires
row_drawn-requires c =
    rows-other c.args.first.now.entry
    (lone-other c.args.first.now.entry c.in_default.not-Registered c.in_default.not-Submitted) c.requires.rows

pub returns-in_default : goal.returns-in_default
returns-in_default c =
    taken-row c.args.live.now.tables c.args.first.now c.args.next c.args.begun.now c.requires.begun
    (c.follows.ensures.0 c.if-not-follows.false) c.row_drawn.result
    (lone-other c.args.first.now.entry c.in_default.not-Registered c.in_default.not-Submitted) c.row_drawn.ensures
