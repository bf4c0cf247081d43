-- SPDX-License-Identifier: Apache-2.0 OR MIT
use Rattle.std.proofs.Common.{Bool, cond, ◌∙◌, ap, sym, Some, None}
use Rattle.cr_judge.proofs.NamedLaws.{there-some}
use Rattle.cr_judge.proofs.named.there.Goals as goal

pub returns-then-not-has : goal.returns-then-not-has
returns-then-not-has c =
    ap (λ (b : Bool). cond b (Some c.in-Some.number) None) (sym c.if-not-has.true)
    ∙ there-some c.args.live.now.tables.papers c.paper_table.result.now.papers c.paper_table.ensures c.args.paper.now
    c.in-Some.number c.has.result c.in-Some.is c.has.ensures

pub returns : goal.returns
returns c =
    ap (λ (b : Bool). cond b (Some c.in-Some.number) None) (sym c.if-not-has.false)
    ∙ there-some c.args.live.now.tables.papers c.paper_table.result.now.papers c.paper_table.ensures c.args.paper.now
    c.in-Some.number c.has.result c.in-Some.is c.has.ensures
