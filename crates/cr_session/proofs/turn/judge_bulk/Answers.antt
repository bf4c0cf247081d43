-- SPDX-License-Identifier: Apache-2.0 OR MIT
use Rattle.std.proofs.Common.{ℕ, Option, subst, sym}
use Rattle.cr_base.specs.Calls.{bulk_by, maker_of}
use Rattle.cr_policy.specs.Judge.{decide_bulk}
use Rattle.cr_policy.specs.View.{view}
use Rattle.cr_base.specs.Retries.{drawn_by}
use Rattle.cr_session.specs.Tries.{tries_of}
use Rattle.cr_session.specs.Turning.{ChangesBook, TurnTries}
use Rattle.cr_session.proofs.turn.judge_bulk.Goals as goal

pub returns-clause-changes : goal.returns-clause-changes
returns-clause-changes g c =
    subst (λ (u : Option ℕ). ChangesBook g.K.Keeper.faults c.judge_rows.result
    (decide_bulk (view u c.args.book.now.log) (bulk_by (maker_of u) c.args.at c.args.key c.args.rows))
    c.args.book.now c.judge_rows.new.book)
    (sym c.in-Some.is) c.judge_rows.ensures.changes

pub returns-clause-tried : goal.returns-clause-tried
returns-clause-tried g c =
    let K = g.K.Keeper in
    let tries = tries_of K in
    subst (λ (u : Option ℕ). TurnTries tries c.judge_rows.result c.args.book.now.log
    (drawn_by (decide_bulk (view u c.args.book.now.log) (bulk_by (maker_of u) c.args.at c.args.key c.args.rows)))
    c.args.book.now.keeper c.judge_rows.new.book.keeper)
    (sym c.in-Some.is) c.judge_rows.ensures.tried
