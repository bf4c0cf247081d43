-- SPDX-License-Identifier: Apache-2.0 OR MIT
use Rattle.std.proofs.Common.{rules}
use Rattle.cr_session.specs.Replay.{ledger_of}
use Rattle.cr_session.specs.Told.{drawn}
use Rattle.cr_session.specs.Tries.{tries_of}
use Rattle.cr_session.specs.Turning.{Turns, TurnTries}
use Rattle.cr_session.proofs.turn.in_turn.Goals as goal

pub returns : goal.returns
returns g c =
    let K = g.K.Keeper in
    let tries = tries_of K in
    let w = c.args.wish in
    let r = c.turn.result in
    let t = c.turn.ensures.turn in
    let turned : Turns r w (ledger_of K.faults t.0) (ledger_of K.faults t.1) = search rules in
    let tried : TurnTries tries r t.0.log (drawn t.0.log w) t.0.keeper t.1.keeper = search rules in
    (t.0, t.1, t.2, t.3, turned, tried, t.6)
