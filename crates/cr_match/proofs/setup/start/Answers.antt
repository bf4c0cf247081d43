-- SPDX-License-Identifier: Apache-2.0 OR MIT
use Rattle.cr_match.proofs.Started.{above_none, blank_moves, none_placed, started}
use Rattle.cr_match.proofs.setup.start.Goals as goal

pub tell_lacks-requires : goal.tell_lacks-requires
tell_lacks-requires c = blank_moves c.requires.board c.requires.blank

pub tighten-requires-clause-long : goal.tighten-requires-clause-long
tighten-requires-clause-long c = c.requires.blank.held.0

pub returns-clause-fitting : goal.returns-clause-fitting
returns-clause-fitting c =
    started c.tell_lacks.new.moves c.requires.blank c.tell_lacks.ensures.takes c.tell_lacks.ensures.told
    c.tell_lacks.ensures.others
    c.tell_rooms.ensures.moves c.tell_rooms.ensures.takes c.tell_rooms.ensures.told c.tell_rooms.ensures.others
    (above_none c.args.board.now.want) (above_none c.args.board.now.load) c.requires.levels c.tighten.ensures.stays
    c.tighten.ensures.told

pub returns-clause-none : goal.returns-clause-none
returns-clause-none c = none_placed c.requires.blank
