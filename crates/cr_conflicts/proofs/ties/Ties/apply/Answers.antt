-- SPDX-License-Identifier: Apache-2.0 OR MIT
use Rattle.std.proofs.Common.{ℕ, ◌∷◌, ap, sym, subst}
use Rattle.cr_base.specs.declared.entry.Entry.{Entry}
use Rattle.cr_base.specs.declared.pairs.Order.{Order}
use Rattle.cr_base.specs.declared.pairs.Tie.{Tie}
use Rattle.cr_base.specs.Pairs.{major}
use Rattle.cr_base.specs.Ties.{TiesFit, pair_of}
use Rattle.cr_rooms.specs.Rooms.{IsOneLess}
use Rattle.cr_conflicts.specs.Room.{TiesRooms, TiesHaveRoom, pair_conflicted, pair_bid}
use Rattle.cr_conflicts.specs.Seen.{SeenTies}
use Rattle.cr_conflicts.proofs.IndexLaws.{told-before, told-besides}
use Rattle.cr_conflicts.proofs.RoomLaws.{conflict-behind, bid-behind}
use Rattle.cr_conflicts.proofs.ties.Ties.apply.Goals as goal

pub add_author-requires-clause-behind : goal.add_author-requires-clause-behind
add_author-requires-clause-behind c =
    let ties = c.args.self.now.ties in
    told-before c.in-Submitted.paper c.args.stamped.now.stamp.maker ties.authors
    (subst (λ (e : Entry). TiesFit ties e) c.in-Submitted.is c.requires.fits)

pub add_author-requires-in-Coauthor-clause-behind : goal.add_author-requires-in-Coauthor-clause-behind
add_author-requires-in-Coauthor-clause-behind c =
    let ties = c.args.self.now.ties in
    let fits = subst (λ (e : Entry). TiesFit ties e) c.in-Coauthor.is c.requires.fits in
    told-besides c.in-Coauthor.paper c.in-Coauthor.user ties.authors fits.0 fits.1

pub returns-in-Conflict-clause-room : goal.returns-in-Conflict-clause-room
returns-in-Conflict-clause-room c rest has =
    let x = c.self.inside in
    let e = c.args.stamped.now in
    let paper = c.in-Conflict.paper in
    let user = c.in-Conflict.user in
    let old : TiesRooms = record {
      authors = x.authors.rooms;
      authored = x.authored.rooms;
      conflicts = x.conflicts.by_paper_rooms;
      conflicting = x.conflicts.by_user_rooms;
      declared = x.declared.rooms;
      bids = x.bids.rooms;
    } in
    let has_so = subst (λ (v : SeenTies). TiesHaveRoom (e ∷ rest) v.rooms) (sym c.self.view_is) has in
    let named =
    subst (λ (o : Order). IsOneLess (major o (pair_of paper user)) x.declared.rooms c.insert_where.new.ties.rooms)
    c.self.invariant.0.declared_by_paper
    (subst (λ (t : Tie (Unit {0})). IsOneLess (major x.declared.order t.pair) x.declared.rooms
    c.insert_where.new.ties.rooms) c.bare.ensures c.insert_where.ensures.rooms) in
    conflict-behind e paper user rest old has_so c.switch.new.ties.by_paper_rooms c.switch.new.ties.by_user_rooms
    c.insert_where.new.ties.rooms
    (ap pair_conflicted c.in-Conflict.is) c.switch.ensures.papers c.switch.ensures.users named

pub returns-in-Bid-clause-room : goal.returns-in-Bid-clause-room
returns-in-Bid-clause-room c rest has =
    let x = c.self-in-Bid.inside in
    let e = c.args.stamped.now in
    let paper = c.in-Bid.paper in
    let maker = e.stamp.maker in
    let old : TiesRooms = record {
      authors = x.authors.rooms;
      authored = x.authored.rooms;
      conflicts = x.conflicts.by_paper_rooms;
      conflicting = x.conflicts.by_user_rooms;
      declared = x.declared.rooms;
      bids = x.bids.rooms;
    } in
    let has_so = subst (λ (v : SeenTies). TiesHaveRoom (e ∷ rest) v.rooms) (sym c.self-in-Bid.view_is) has in
    let less = subst (λ (o : Order). IsOneLess (major o (pair_of paper maker)) x.bids.rooms c.insert.new.self.rooms)
    c.self-in-Bid.invariant.0.bids_by_paper
    (subst (λ (t : Tie ℕ). IsOneLess (major x.bids.order t.pair) x.bids.rooms c.insert.new.self.rooms) c.bid_by.ensures
    c.insert.ensures.rooms) in
    bid-behind e paper maker rest old has_so c.insert.new.self.rooms (ap (pair_bid maker) c.in-Bid.is) less
