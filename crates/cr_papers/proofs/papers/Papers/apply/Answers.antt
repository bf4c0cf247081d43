-- SPDX-License-Identifier: Apache-2.0 OR MIT
use Rattle.std.proofs.Common.{◌-◌, [], ◌∷◌, ap, sym, subst, arith}
use Rattle.std.specs.Vec.{vec_capacity, vec_len}
use Rattle.cr_kept.proofs.BesideLaws.{beside-first}
use Rattle.cr_papers.specs.Room.{uploads_for, paper_uploaded, PapersHaveRoom}
use Rattle.cr_papers.specs.Seen.{SeenPapers}
use Rattle.cr_papers.proofs.RoomLaws.{room-uploaded}
use Rattle.cr_papers.proofs.papers.Papers.apply.Goals as goal

pub add-requires-in-Uploaded-clause-room : goal.add-requires-in-Uploaded-clause-room
add-requires-in-Uploaded-clause-room c =
    let has =
    subst (λ (v : SeenPapers). PapersHaveRoom (c.args.stamped ∷ []) v.rooms) (sym c.self.view_is) c.requires.room in
    (beside-first paper_uploaded c.args.stamped [] c.self.inside.uploaded.capacity c.in-Uploaded.paper
    c.self.inside.uploads.rooms
    (ap uploads_for c.in-Uploaded.is) has.uploads).0

pub add-requires-in-Uploaded-2-clause-room : goal.add-requires-in-Uploaded-2-clause-room
add-requires-in-Uploaded-2-clause-room c =
    let has =
    subst (λ (v : SeenPapers). PapersHaveRoom (c.args.stamped ∷ []) v.rooms) (sym c.self.view_is) c.requires.room in
    (beside-first paper_uploaded c.args.stamped [] c.self.inside.uploaded.capacity c.in-Uploaded.paper
    c.self.inside.uploads.rooms
    (ap uploads_for c.in-Uploaded.is) has.uploads).1

pub returns-in-Uploaded-clause-room : goal.returns-in-Uploaded-clause-room
returns-in-Uploaded-clause-room c = λ rest has.
    let s = c.self.inside in
    let papers = vec_capacity s.papers - vec_len s.papers in
    let has' = subst (λ (v : SeenPapers). PapersHaveRoom (c.args.stamped ∷ rest) v.rooms) (sym c.self.view_is) has in
    room-uploaded s.submitted.capacity papers s.uploaded.capacity s.uploads.rooms s.submitted.capacity papers
    c.add-in-Uploaded.new.self.capacity
    c.add-in-Uploaded-2.new.self.rooms (omega arith) c.add-in-Uploaded.ensures.capacity c.args.stamped rest
    (omega arith) c.in-Uploaded.paper
    (ap uploads_for c.in-Uploaded.is) c.add-in-Uploaded-2.ensures.rooms has'
