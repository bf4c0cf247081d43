-- SPDX-License-Identifier: Apache-2.0 OR MIT
use Rattle.std.proofs.Common.{◌-◌, sym, subst, arith}
use Rattle.std.specs.Vec.{vec_capacity, vec_len}
use Rattle.cr_papers.specs.Room.{PapersHaveRoom}
use Rattle.cr_papers.specs.Seen.{SeenPapers}
use Rattle.cr_papers.proofs.RoomLaws.{room-kept}
use Rattle.cr_papers.proofs.papers.Papers.room.Goals as goal

pub returns-in_err-make_room-2-clause-keeps : goal.returns-in_err-make_room-2-clause-keeps
returns-in_err-make_room-2-clause-keeps c = λ any has.
    let s = c.self.inside in
    let old = vec_capacity s.papers - vec_len s.papers in
    let has' = subst (λ (v : SeenPapers). PapersHaveRoom any v.rooms) (sym c.self.view_is) has in
    room-kept s.submitted.capacity old s.uploaded.capacity s.uploads.rooms c.make_room.new.self.capacity old
    c.make_room-2.new.self.capacity s.uploads.rooms
    c.make_room.ensures.keeps c.make_room-2.ensures.keeps any (omega arith) (λ n. omega arith) has'

pub returns-in_err-reserve-clause-keeps : goal.returns-in_err-reserve-clause-keeps
returns-in_err-reserve-clause-keeps c = λ any has.
    let s = c.self.inside in
    let old = vec_capacity s.papers - vec_len s.papers in
    let has' = subst (λ (v : SeenPapers). PapersHaveRoom any v.rooms) (sym c.self.view_is) has in
    room-kept s.submitted.capacity old s.uploaded.capacity s.uploads.rooms c.make_room.new.self.capacity
    (vec_capacity c.reserve.new.self - vec_len c.reserve.new.self) c.make_room-2.new.self.capacity s.uploads.rooms
    c.make_room.ensures.keeps c.make_room-2.ensures.keeps any
    (let e = c.reserve.ensures in omega (arith, e.capacity, e.len)) (λ n. omega arith) has'

pub returns-clause-keeps : goal.returns-clause-keeps
returns-clause-keeps c = λ any has.
    let s = c.self.inside in
    let old = vec_capacity s.papers - vec_len s.papers in
    let has' = subst (λ (v : SeenPapers). PapersHaveRoom any v.rooms) (sym c.self.view_is) has in
    room-kept s.submitted.capacity old s.uploaded.capacity s.uploads.rooms c.make_room.new.self.capacity
    (vec_capacity c.reserve.new.self - vec_len c.reserve.new.self) c.make_room-2.new.self.capacity
    c.room.new.self.rooms
    c.make_room.ensures.keeps c.make_room-2.ensures.keeps any
    (let e = c.reserve.ensures in omega (arith, e.capacity, e.len)) c.room.ensures.keeps has'
