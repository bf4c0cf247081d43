-- SPDX-License-Identifier: Apache-2.0 OR MIT
use Rattle.std.proofs.Common.{[], ◌∷◌, ap, sym, subst}
use Rattle.cr_rooms.proofs.GroupRooms.{room-for-behind, room-for-first, room-for-rest}
use Rattle.cr_kept.specs.Beside.{rooms_beside}
use Rattle.cr_kept.proofs.BesideLaws.{beside-first, one-less-beside}
use Rattle.cr_talk.specs.Room.{comments_on, paper_commented, responds_on, paper_responded, TalkHasRoom}
use Rattle.cr_talk.specs.Seen.{SeenTalk}
use Rattle.cr_talk.proofs.talk.Talk.apply.Goals as goal

pub add-requires-clause-room : goal.add-requires-clause-room
add-requires-clause-room c =
    let has =
    subst (λ (v : SeenTalk). TalkHasRoom (c.args.stamped ∷ []) v.rooms) (sym c.self.view_is) c.requires.room in
    (beside-first paper_commented c.args.stamped [] c.self.inside.written.capacity c.in-Commented.paper
    c.self.inside.comments.rooms
    (ap comments_on c.in-Commented.is) has.comments).0

pub file-requires : goal.file-requires
file-requires c =
    let has =
    subst (λ (v : SeenTalk). TalkHasRoom (c.args.stamped ∷ []) v.rooms) (sym c.self.view_is) c.requires.room in
    (beside-first paper_commented c.args.stamped [] c.self.inside.written.capacity c.in-Commented.paper
    c.self.inside.comments.rooms
    (ap comments_on c.in-Commented.is) has.comments).1

pub file-requires-in-Responded : goal.file-requires-in-Responded
file-requires-in-Responded c =
    let has =
    subst (λ (v : SeenTalk). TalkHasRoom (c.args.stamped ∷ []) v.rooms) (sym c.self.view_is) c.requires.room in
    room-for-first paper_responded c.args.stamped [] c.self.inside.responses.rooms c.in-Responded.paper
    (ap responds_on c.in-Responded.is)
    has.responses

pub returns-in-Commented-clause-room : goal.returns-in-Commented-clause-room
returns-in-Commented-clause-room c = λ rest has.
    let sums = c.self.inside.written.capacity in
    let rooms = c.self.inside.comments.rooms in
    let fewer = c.file.new.self.rooms in
    let here = subst (λ (v : SeenTalk). TalkHasRoom (c.args.stamped ∷ rest) v.rooms) (sym c.self.view_is) has in
    record {
      comments =
          room-for-rest paper_commented c.args.stamped rest (rooms_beside sums rooms)
          (rooms_beside c.add.new.self.capacity fewer) c.in-Commented.paper
          (ap comments_on c.in-Commented.is)
          (one-less-beside c.in-Commented.paper sums c.add.new.self.capacity rooms fewer c.add.ensures.capacity
          c.file.ensures.rooms) here.comments;
      responses = room-for-behind paper_responded c.args.stamped rest c.self.inside.responses.rooms here.responses;
    }

pub returns-in-Responded-clause-room : goal.returns-in-Responded-clause-room
returns-in-Responded-clause-room c = λ rest has.
    let here = subst (λ (v : SeenTalk). TalkHasRoom (c.args.stamped ∷ rest) v.rooms) (sym c.self.view_is) has in
    record {
      comments =
          room-for-behind paper_commented c.args.stamped rest
          (rooms_beside c.self.inside.written.capacity c.self.inside.comments.rooms) here.comments;
      responses =
          room-for-rest paper_responded c.args.stamped rest c.self.inside.responses.rooms
          c.file-in-Responded.new.self.rooms c.in-Responded.paper
          (ap responds_on c.in-Responded.is) c.file-in-Responded.ensures.rooms here.responses;
    }
