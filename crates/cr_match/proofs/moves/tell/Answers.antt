-- SPDX-License-Identifier: Apache-2.0 OR MIT
use Rattle.cr_match.proofs.Told.{tells}
use Rattle.cr_match.proofs.moves.tell.Goals as goal

pub returns : goal.returns
returns c =
    tells c.tell_take.new.moves c.tell_take.ensures.drops c.tell_take.ensures.same c.tell_take.ensures.others
    c.tell_drop.ensures.moves
    c.tell_drop.ensures.takes c.tell_drop.ensures.same c.tell_drop.ensures.others
