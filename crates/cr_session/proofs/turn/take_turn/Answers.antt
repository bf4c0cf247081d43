-- SPDX-License-Identifier: Apache-2.0 OR MIT
use Rattle.std.proofs.Common.{◌∙◌, subst, sym, refl, false, Option}
use Rattle.cr_base.specs.Drawn.{Drawn}
use Rattle.cr_wire.specs.Bounds.{IsBoundedWhat}
use Rattle.cr_wire.specs.declared.what.What.{What}
use Rattle.cr_session.specs.Replay.{ledger_of}
use Rattle.cr_session.specs.Told.{drawn}
use Rattle.cr_session.specs.Tries.{Tries, tries_of}
use Rattle.cr_session.specs.Turning.{TurnTries}
use Rattle.cr_session.proofs.TurnLaws.{unauthorized, no_route, wrong_method, bad_number, bad_body, bad_query}
use Rattle.cr_session.proofs.TurnLaws.{command-turn, bulk-turn, query-turn, drawn-by, unauthorized-draws, may-wish}
use Rattle.cr_session.proofs.TurnLaws.{caller-command, caller-key, caller-bulk, may-query}
use Rattle.cr_session.proofs.TryLaws.{nothing-drawn, tries-nothing}
use Rattle.cr_session.proofs.turn.take_turn.Given.{Over}
use Rattle.cr_session.proofs.turn.take_turn.Goals as goal

-- what turns do with the keeper
abbrev tries-here : (g : Over) → Tries g.row.K.Denot
tries-here g = tries_of g.K.Keeper

pub returns-then-is_unauthorized-clause-turns : goal.returns-then-is_unauthorized-clause-turns
returns-then-is_unauthorized-clause-turns g c =
    unauthorized c.args.wish (ledger_of g.K.Keeper.faults c.args.book.now) _ c.caller_of-caller.ensures
    (sym c.is_unauthorized.ensures ∙ c.if-is_unauthorized.true)

pub returns-in-NoRoute-clause-turns : goal.returns-in-NoRoute-clause-turns
returns-in-NoRoute-clause-turns g c =
    no_route _ _ (ledger_of g.K.Keeper.faults c.args.book.now)
    (may-wish _ c.args.wish _ _ _ c.in-NoRoute.is c.caller_of-caller.ensures c.is_unauthorized.ensures
    c.if-is_unauthorized.false)

pub returns-in-WrongMethod-clause-turns : goal.returns-in-WrongMethod-clause-turns
returns-in-WrongMethod-clause-turns g c =
    wrong_method _ _ (ledger_of g.K.Keeper.faults c.args.book.now) _
    (may-wish _ c.args.wish _ _ _ c.in-WrongMethod.is c.caller_of-caller.ensures c.is_unauthorized.ensures
    c.if-is_unauthorized.false)

pub returns-in-BadNumber-clause-turns : goal.returns-in-BadNumber-clause-turns
returns-in-BadNumber-clause-turns g c =
    bad_number _ _ (ledger_of g.K.Keeper.faults c.args.book.now) _
    (may-wish _ c.args.wish _ _ _ c.in-BadNumber.is c.caller_of-caller.ensures c.is_unauthorized.ensures
    c.if-is_unauthorized.false)

pub returns-in-BadBody-clause-turns : goal.returns-in-BadBody-clause-turns
returns-in-BadBody-clause-turns g c =
    bad_body _ _ (ledger_of g.K.Keeper.faults c.args.book.now) _
    (may-wish _ c.args.wish _ _ _ c.in-BadBody.is c.caller_of-caller.ensures c.is_unauthorized.ensures
    c.if-is_unauthorized.false)

pub returns-in-BadQuery-clause-turns : goal.returns-in-BadQuery-clause-turns
returns-in-BadQuery-clause-turns g c =
    bad_query _ _ (ledger_of g.K.Keeper.faults c.args.book.now) _ _
    (may-wish _ c.args.wish _ _ _ c.in-BadQuery.is c.caller_of-caller.ensures c.is_unauthorized.ensures
    c.if-is_unauthorized.false)

pub judge-requires : goal.judge-requires
judge-requires g c =
    let caller = caller-command _ _ _ _ _
    (may-wish _ c.args.wish _ _ _ c.in-Command.is c.caller_of-caller.ensures c.is_unauthorized.ensures
    c.if-is_unauthorized.false) in
    let bounded = subst (λ (x : What). IsBoundedWhat x) c.in-Command.is c.requires.what in
    record {
      caller = caller;
      bounded = bounded.0;
      moment = c.requires.moment;
      key = caller-key c.args.book.now.log _ _ _ caller bounded.1;
    }

pub judge_bulk-requires : goal.judge_bulk-requires
judge_bulk-requires g c =
    caller-bulk _ _ _ _ _
    (may-wish _ c.args.wish _ _ _ c.in-Bulk.is c.caller_of-caller.ensures c.is_unauthorized.ensures
    c.if-is_unauthorized.false)
    (subst (λ (x : What). IsBoundedWhat x) c.in-Bulk.is c.requires.what) c.requires.moment

pub answer-requires : goal.answer-requires
answer-requires g c =
    may-query _ _ _ _
    (may-wish _ c.args.wish _ _ _ c.in-Query.is c.caller_of-caller.ensures c.is_unauthorized.ensures
    c.if-is_unauthorized.false)

pub returns-in-Command-clause-turns : goal.returns-in-Command-clause-turns
returns-in-Command-clause-turns g c =
    command-turn _ _ _ _ _ (ledger_of g.K.Keeper.faults c.args.book.now) (ledger_of g.K.Keeper.faults c.judge.new.book)
    (may-wish _ c.args.wish _ _ _ c.in-Command.is c.caller_of-caller.ensures c.is_unauthorized.ensures
    c.if-is_unauthorized.false)
    c.judge.ensures.changes

pub returns-in-Query-clause-turns : goal.returns-in-Query-clause-turns
returns-in-Query-clause-turns g c =
    query-turn _ _ _ _ (ledger_of g.K.Keeper.faults c.args.book.now)
    (may-wish _ c.args.wish _ _ _ c.in-Query.is c.caller_of-caller.ensures c.is_unauthorized.ensures
    c.if-is_unauthorized.false)
    c.answer.ensures

pub returns-in-Bulk-clause-turns : goal.returns-in-Bulk-clause-turns
returns-in-Bulk-clause-turns g c =
    bulk-turn _ _ _ _ _ (ledger_of g.K.Keeper.faults c.args.book.now)
    (ledger_of g.K.Keeper.faults c.judge_bulk.new.book)
    (may-wish _ c.args.wish _ _ _ c.in-Bulk.is c.caller_of-caller.ensures c.is_unauthorized.ensures
    c.if-is_unauthorized.false)
    c.judge_bulk.ensures.changes

-- ---- what it did with the keeper

pub returns-then-is_unauthorized-clause-tried : goal.returns-then-is_unauthorized-clause-tried
returns-then-is_unauthorized-clause-tried g c =
    nothing-drawn g.K.Keeper false
    c.args.book.now.log (drawn c.args.book.now.log c.args.wish) c.args.book.now.keeper c.args.book.now.keeper
    (unauthorized-draws c.args.wish c.args.book.now.log _ c.caller_of-caller.ensures
    (sym c.is_unauthorized.ensures ∙ c.if-is_unauthorized.true)) refl

pub returns-in-NoRoute-clause-tried : goal.returns-in-NoRoute-clause-tried
returns-in-NoRoute-clause-tried g c =
    nothing-drawn g.K.Keeper false
    c.args.book.now.log (drawn c.args.book.now.log c.args.wish) c.args.book.now.keeper c.args.book.now.keeper
    (drawn-by _ _ _ _ (may-wish _ c.args.wish _ _ _ c.in-NoRoute.is c.caller_of-caller.ensures c.is_unauthorized.ensures
    c.if-is_unauthorized.false)) refl

pub returns-in-WrongMethod-clause-tried : goal.returns-in-WrongMethod-clause-tried
returns-in-WrongMethod-clause-tried g c =
    nothing-drawn g.K.Keeper false
    c.args.book.now.log (drawn c.args.book.now.log c.args.wish) c.args.book.now.keeper c.args.book.now.keeper
    (drawn-by _ _ _ _ (may-wish _ c.args.wish _ _ _ c.in-WrongMethod.is c.caller_of-caller.ensures
    c.is_unauthorized.ensures c.if-is_unauthorized.false)) refl

pub returns-in-BadNumber-clause-tried : goal.returns-in-BadNumber-clause-tried
returns-in-BadNumber-clause-tried g c =
    nothing-drawn g.K.Keeper false
    c.args.book.now.log (drawn c.args.book.now.log c.args.wish) c.args.book.now.keeper c.args.book.now.keeper
    (drawn-by _ _ _ _ (may-wish _ c.args.wish _ _ _ c.in-BadNumber.is c.caller_of-caller.ensures
    c.is_unauthorized.ensures c.if-is_unauthorized.false)) refl

pub returns-in-BadBody-clause-tried : goal.returns-in-BadBody-clause-tried
returns-in-BadBody-clause-tried g c =
    nothing-drawn g.K.Keeper false
    c.args.book.now.log (drawn c.args.book.now.log c.args.wish) c.args.book.now.keeper c.args.book.now.keeper
    (drawn-by _ _ _ _ (may-wish _ c.args.wish _ _ _ c.in-BadBody.is c.caller_of-caller.ensures c.is_unauthorized.ensures
    c.if-is_unauthorized.false)) refl

pub returns-in-BadQuery-clause-tried : goal.returns-in-BadQuery-clause-tried
returns-in-BadQuery-clause-tried g c =
    nothing-drawn g.K.Keeper false
    c.args.book.now.log (drawn c.args.book.now.log c.args.wish) c.args.book.now.keeper c.args.book.now.keeper
    (drawn-by _ _ _ _ (may-wish _ c.args.wish _ _ _ c.in-BadQuery.is c.caller_of-caller.ensures
    c.is_unauthorized.ensures c.if-is_unauthorized.false)) refl

pub returns-in-Query-clause-tried : goal.returns-in-Query-clause-tried
returns-in-Query-clause-tried g c =
    tries-nothing g.K.Keeper c.answer.result
    c.args.book.now.log (drawn c.args.book.now.log c.args.wish) c.args.book.now.keeper c.args.book.now.keeper
    (drawn-by _ _ _ _ (may-wish _ c.args.wish _ _ _ c.in-Query.is c.caller_of-caller.ensures c.is_unauthorized.ensures
    c.if-is_unauthorized.false)) refl

pub returns-in-Command-clause-tried : goal.returns-in-Command-clause-tried
returns-in-Command-clause-tried g c =
    subst (λ (d : Option Drawn). TurnTries (tries-here g) c.judge.result c.args.book.now.log d c.args.book.now.keeper
    c.judge.new.book.keeper)
    (sym
    (drawn-by _ _ _ _ (may-wish _ c.args.wish _ _ _ c.in-Command.is c.caller_of-caller.ensures
    c.is_unauthorized.ensures c.if-is_unauthorized.false)))
    c.judge.ensures.tried

pub returns-in-Bulk-clause-tried : goal.returns-in-Bulk-clause-tried
returns-in-Bulk-clause-tried g c =
    subst (λ (d : Option Drawn). TurnTries (tries-here g) c.judge_bulk.result c.args.book.now.log d
    c.args.book.now.keeper c.judge_bulk.new.book.keeper)
    (sym
    (drawn-by _ _ _ _ (may-wish _ c.args.wish _ _ _ c.in-Bulk.is c.caller_of-caller.ensures c.is_unauthorized.ensures
    c.if-is_unauthorized.false)))
    c.judge_bulk.ensures.tried
