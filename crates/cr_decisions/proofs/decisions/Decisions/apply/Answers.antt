-- SPDX-License-Identifier: Apache-2.0 OR MIT
use Rattle.std.proofs.Common.{◌∷◌, ap, sym, subst}
use Rattle.cr_rooms.proofs.GroupRooms.{room-for-rest}
use Rattle.cr_decisions.specs.Room.{decides_on, paper_decided, DecisionsHaveRoom}
use Rattle.cr_decisions.specs.Seen.{SeenDecisions}
use Rattle.cr_decisions.proofs.decisions.Decisions.apply.Goals as goal

pub returns-in-Decided-clause-room : goal.returns-in-Decided-clause-room
returns-in-Decided-clause-room c = λ rest has.
    let stamped = c.args.stamped.now in
    let here = subst (λ (v : SeenDecisions). DecisionsHaveRoom (stamped ∷ rest) v.rooms) (sym c.self.view_is) has in
    room-for-rest paper_decided stamped rest c.self.inside.decisions.rooms c.file.new.self.rooms c.in-Decided.paper
    (ap decides_on c.in-Decided.is) c.file.ensures.rooms here
