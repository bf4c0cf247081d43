-- SPDX-License-Identifier: Apache-2.0 OR MIT
use Rattle.std.proofs.Common.{sym, subst, arith}
use Rattle.cr_rooms.proofs.GroupRooms.{room-for-kept}
use Rattle.cr_kept.specs.Beside.{rooms_beside}
use Rattle.cr_kept.proofs.BesideLaws.{no-less-beside}
use Rattle.cr_talk.specs.Room.{paper_commented, paper_responded, TalkHasRoom}
use Rattle.cr_talk.specs.Seen.{SeenTalk}
use Rattle.cr_talk.proofs.talk.Talk.room.Goals as goal

pub returns-in_err-make_room-clause-keeps : goal.returns-in_err-make_room-clause-keeps
returns-in_err-make_room-clause-keeps c = λ any has.
    let sums = c.self.inside.written.capacity in
    let rooms = c.self.inside.comments.rooms in
    let more = c.make_room.new.self.capacity in
    let here = subst (λ (v : SeenTalk). TalkHasRoom any v.rooms) (sym c.self.view_is) has in
    record {
      comments =
          room-for-kept paper_commented any (rooms_beside sums rooms) (rooms_beside more rooms)
          (no-less-beside sums more rooms rooms c.make_room.ensures.keeps (λ n. omega arith)) here.comments;
      responses = here.responses;
    }

pub returns-in_err-room-clause-keeps : goal.returns-in_err-room-clause-keeps
returns-in_err-room-clause-keeps c = λ any has.
    let sums = c.self.inside.written.capacity in
    let rooms = c.self.inside.comments.rooms in
    let more = c.make_room.new.self.capacity in
    let here = subst (λ (v : SeenTalk). TalkHasRoom any v.rooms) (sym c.self.view_is) has in
    record {
      comments =
          room-for-kept paper_commented any (rooms_beside sums rooms) (rooms_beside more c.room.new.self.rooms)
          (no-less-beside sums more rooms c.room.new.self.rooms c.make_room.ensures.keeps c.room.ensures.keeps)
          here.comments;
      responses = here.responses;
    }

pub returns-clause-keeps : goal.returns-clause-keeps
returns-clause-keeps c = λ any has.
    let sums = c.self.inside.written.capacity in
    let rooms = c.self.inside.comments.rooms in
    let more = c.make_room.new.self.capacity in
    let here = subst (λ (v : SeenTalk). TalkHasRoom any v.rooms) (sym c.self.view_is) has in
    record {
      comments =
          room-for-kept paper_commented any (rooms_beside sums rooms) (rooms_beside more c.room.new.self.rooms)
          (no-less-beside sums more rooms c.room.new.self.rooms c.make_room.ensures.keeps c.room.ensures.keeps)
          here.comments;
      responses =
          room-for-kept paper_responded any c.self.inside.responses.rooms c.room-2.new.self.rooms c.room-2.ensures.keeps
          here.responses;
    }
