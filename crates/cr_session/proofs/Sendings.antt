-- SPDX-License-Identifier: Apache-2.0 OR MIT
-- An answer is written in two parts.
use Rattle.std.proofs.Common.{◌≡◌, ◌++◌, refl, append-nil}
use Rattle.cr_print.specs.declared.sending.Sending.{Sending}
use Rattle.cr_session.specs.declared.turn.TurnResult.{TurnResult}
use Rattle.cr_session.specs.declared.turn.TurnResult.TheVariants as turns
use Rattle.cr_session.specs.Turning.{turn_block, turn_front, turn_text}

-- what is printed, and what is written behind it
pub turn_parts : (turn : TurnResult) (sending : Sending)
    → turn_front turn sending ++ turn_block turn sending ≡ turn_text turn sending
turn_parts (turns.Answered reply) sending = refl
turn_parts turn sending = append-nil (turn_text turn sending)
