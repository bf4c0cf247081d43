-- SPDX-License-Identifier: Apache-2.0 OR MIT
use Rattle.std.proofs.Common.{◌∙◌, ◌++◌, ap, refl}
use Rattle.cr_session.specs.Replay.{ledger_of}
use Rattle.cr_session.specs.Told.{sending_of}
use Rattle.cr_session.specs.Tries.{tries_of}
use Rattle.cr_session.specs.Turning.{turn_block, turn_front}
use Rattle.cr_session.proofs.Requests.{serves_sent, turned_in_vain, unprinted}
use Rattle.cr_session.proofs.Sendings.{turn_parts}
use Rattle.cr_session.proofs.serve.serve_request.Goals as goal

pub returns-in-Ok-clause-serves : goal.returns-in-Ok-clause-serves
returns-in-Ok-clause-serves g c =
    let K = g.K.Keeper in
    let tries = tries_of K in
    let t = c.in_turn-turn.ensures in
    let turn = c.in_turn-turn.result in
    let close = c.closes-close.result in
    let sending = sending_of c.args.wish close in
    let same = c.sending-sending.ensures.sending in
    let block = c.block_of-block.result.now in
    serves_sent tries c.args.wish (ledger_of K.faults t.0) (ledger_of K.faults t.1) t.0 t.1 c.args.pass.now
    c.in_turn-turn.new.pass t.2 refl refl t.3 t.6 turn c.send.result c.args.space.now.number close
    (c.print_turn.new.reply.items ++ block) _ _
    c.in_default.not-OutOfMemory t.4 t.5 c.closes-close.ensures
    (ap (λ f. f ++ block) (c.in-Ok.ensures.ok ∙ ap (turn_front turn) same)
    ∙ ap (λ b. turn_front turn sending ++ b) (c.block_of-block.ensures ∙ ap (turn_block turn) same)
    ∙ turn_parts turn sending)
    (rw c.deref.ensures.value at c.send.ensures)

pub returns-clause-serves : goal.returns-clause-serves
returns-clause-serves g c =
    let K = g.K.Keeper in
    let tries = tries_of K in
    let t = c.in_turn-turn.ensures in (
      refl,
      unprinted tries c.args.wish (ledger_of K.faults t.0) (ledger_of K.faults t.1) t.0 t.1 c.args.pass.now
          c.in_turn-turn.new.pass t.2 refl refl t.3 t.6
          c.in_turn-turn.result t.4 t.5 c.in-Err.ensures.err,
    )

pub returns-in-OutOfMemory-clause-serves : goal.returns-in-OutOfMemory-clause-serves
returns-in-OutOfMemory-clause-serves g c =
    let K = g.K.Keeper in
    let tries = tries_of K in
    let t = c.in_turn-turn.ensures in (
      refl,
      turned_in_vain tries c.args.wish (ledger_of K.faults t.0) (ledger_of K.faults t.1) t.0 t.1 c.args.pass.now
          c.in_turn-turn.new.pass t.2 refl refl t.3 t.6
          c.in_turn-turn.result c.in-OutOfMemory.is t.4 t.5,
    )
