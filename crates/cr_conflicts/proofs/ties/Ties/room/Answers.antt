-- SPDX-License-Identifier: Apache-2.0 OR MIT
use Rattle.std.proofs.Common.{ℕ, ◌≡◌, ◌∙◌, List, map, ap, sym, subst, refl, arith}
use Rattle.std.specs.List.{filter_map}
use Rattle.std.proofs.lemmas.Result.{on_ok_weaker}
use Rattle.cr_base.specs.declared.pairs.Order.{Order}
use Rattle.cr_base.specs.declared.pairs.Order.TheVariants.{ByPaper, ByUser}
use Rattle.cr_base.specs.declared.pairs.Pair.{Pair}
use Rattle.cr_base.specs.Pairs.{major}
use Rattle.cr_rooms.specs.Rooms.{HasRoom}
use Rattle.cr_conflicts.specs.Room.{TiesRooms, TiesHaveRoom, authored_pair, conflict_pair, bid_pair}
use Rattle.cr_conflicts.specs.Seen.{SeenTies}
use Rattle.cr_conflicts.proofs.RoomLaws.{HaveNoLess, room-kept}
use Rattle.cr_conflicts.proofs.ties.Ties.room.Goals as goal

pub returns-in_err-room-4-clause-keeps : goal.returns-in_err-room-4-clause-keeps
returns-in_err-room-4-clause-keeps c any has =
    let x = c.self.inside in
    let old : TiesRooms = record {
      authors = x.authors.rooms;
      authored = x.authored.rooms;
      conflicts = x.conflicts.by_paper_rooms;
      conflicting = x.conflicts.by_user_rooms;
      declared = x.declared.rooms;
      bids = x.bids.rooms;
    } in
    let new : TiesRooms = record {
      authors = c.room.new.self.rooms;
      authored = c.room-2.new.self.rooms;
      conflicts = c.room-3.new.self.by_paper_rooms;
      conflicting = c.room-3.new.self.by_user_rooms;
      declared = c.room-4.new.self.rooms;
      bids = c.self.inside.bids.rooms;
    } in
    let keeps : HaveNoLess old new = record {
      authors = c.room.ensures.keeps;
      authored = c.room-2.ensures.keeps;
      conflicts = c.room-3.ensures.keeps_papers;
      conflicting = c.room-3.ensures.keeps_users;
      declared = c.room-4.ensures.keeps;
      bids = (λ n. omega arith);
    } in
    room-kept any old new keeps (subst (λ (v : SeenTies). TiesHaveRoom any v.rooms) (sym c.self.view_is) has)

pub returns-clause-keeps : goal.returns-clause-keeps
returns-clause-keeps c any has =
    let x = c.self.inside in
    let old : TiesRooms = record {
      authors = x.authors.rooms;
      authored = x.authored.rooms;
      conflicts = x.conflicts.by_paper_rooms;
      conflicting = x.conflicts.by_user_rooms;
      declared = x.declared.rooms;
      bids = x.bids.rooms;
    } in
    let new : TiesRooms = record {
      authors = c.room.new.self.rooms;
      authored = c.room-2.new.self.rooms;
      conflicts = c.room-3.new.self.by_paper_rooms;
      conflicting = c.room-3.new.self.by_user_rooms;
      declared = c.room-4.new.self.rooms;
      bids = c.room-5.new.self.rooms;
    } in
    let keeps : HaveNoLess old new = record {
      authors = c.room.ensures.keeps;
      authored = c.room-2.ensures.keeps;
      conflicts = c.room-3.ensures.keeps_papers;
      conflicting = c.room-3.ensures.keeps_users;
      declared = c.room-4.ensures.keeps;
      bids = c.room-5.ensures.keeps;
    } in
    room-kept any old new keeps (subst (λ (v : SeenTies). TiesHaveRoom any v.rooms) (sym c.self.view_is) has)

-- room for pairs in an order is room for their numbers
in-order : (o order : Order) (read pairs : List Pair) (rooms : List ℕ) → o ≡ order → read ≡ pairs
    → HasRoom (map (major o) read) rooms
    → HasRoom (map (major order) pairs) rooms
in-order o order read pairs rooms same is has =
    subst (λ (ps : List Pair). HasRoom (map (major order) ps) rooms) is
    (subst (λ (k : Order). HasRoom (map (major k) read) rooms) same has)

pub returns-clause-ok : goal.returns-clause-ok
returns-clause-ok c =
    let group = c.args.group.now in
    let authored = filter_map authored_pair group in
    let conflicts = filter_map conflict_pair group in
    let papers = c.deref-2.ensures.value ∙ c.in_ok-papers.ensures
    ∙ ap (map (λ (q : Pair). q.paper)) (c.deref.ensures.value ∙ c.in_ok-authored.ensures) in
    on_ok_weaker c.room-5.result (λ has. record {
      authors = subst (λ (ns : List ℕ). HasRoom ns c.room.new.self.rooms) papers c.in_ok-room.ensures.ok;
      authored = in-order _ ByUser _ authored c.room-2.new.self.rooms c.self.invariant.0.by_user
          (c.deref-3.ensures.value ∙ c.in_ok-authored.ensures)
          c.in_ok-room-2.ensures.ok;
      conflicts = in-order ByPaper ByPaper _ conflicts c.room-3.new.self.by_paper_rooms refl
          (c.deref-4.ensures.value ∙ c.in_ok-conflicts.ensures)
          c.in_ok-room-3.ensures.papers;
      conflicting = in-order ByUser ByUser _ conflicts c.room-3.new.self.by_user_rooms refl
          (c.deref-4.ensures.value ∙ c.in_ok-conflicts.ensures)
          c.in_ok-room-3.ensures.users;
      declared = in-order _ ByPaper _ conflicts c.room-4.new.self.rooms c.self.invariant.0.declared_by_paper
          (c.deref-5.ensures.value ∙ c.in_ok-conflicts.ensures)
          c.in_ok-room-4.ensures.ok;
      bids = in-order _ ByPaper _ (filter_map bid_pair group) c.room-5.new.self.rooms c.self.invariant.0.bids_by_paper
          (c.deref-6.ensures.value ∙ c.in_ok-bids.ensures) has;
    }) c.room-5.ensures.ok
