-- SPDX-License-Identifier: Apache-2.0 OR MIT
use Rattle.std.proofs.Common.{◌≡◌, ◌∷◌, true, subst, sym, arith}
use Rattle.cr_base.specs.Invites.{InvitesState, invites_after}
use Rattle.cr_base.specs.Papers.{PapersState, paper_count, PapersFit}
use Rattle.cr_base.specs.Seats.{SeatsState, seats_after}
use Rattle.cr_base.specs.Ties.{TiesState, ties_after, are_within, AreWithin}
use Rattle.cr_base.proofs.InviteLaws.{invites-within}
use Rattle.cr_base.proofs.SeatLaws.{seats-within}
use Rattle.cr_base.proofs.TieLaws.{within-after}
use Rattle.cr_rooms.proofs.GroupRooms.{room-for-behind}
use Rattle.cr_papers.proofs.RoomLaws as of_papers
use Rattle.cr_reviews.specs.Room.{paper_reviewed}
use Rattle.cr_talk.specs.Room.{paper_commented, paper_responded}
use Rattle.cr_view.specs.Room.{RoomFor}
use Rattle.cr_view.specs.Seen.{SeenTables}
use Rattle.cr_view.proofs.live.Live.apply.Goals as goal

pub invariant_of-self : goal.invariant_of-self
invariant_of-self c =
    let x = c.self.inside in
    let maker = c.args.stamped.stamp.maker in
    let entry = c.args.stamped.entry in
    let fits =
    subst (λ (v : SeenTables). PapersFit v.tables.papers maker entry) (sym c.self.view_is) c.requires.fits.papers in
    let papers = sym c.apply-in_default.ensures.after in (
      subst (λ (ties : TiesState). AreWithin (paper_count c.apply-in_default.new.self.papers) ties)
          (sym c.apply-3.ensures.after)
          (subst (λ (state : PapersState). AreWithin (paper_count state) (ties_after x.ties.ties maker entry)) papers
          (within-after x.papers.papers x.ties.ties maker entry fits c.self.invariant.0)),
      subst (λ (seats : SeatsState). are_within (paper_count c.apply-in_default.new.self.papers) seats ≡ true)
          (sym c.apply-4.ensures.after)
          (subst (λ (state : PapersState). are_within (paper_count state) (seats_after x.seats.seats entry) ≡ true)
          papers
          (seats-within x.papers.papers x.seats.seats maker entry fits c.self.invariant.1)),
      subst (λ (invites : InvitesState). are_within (paper_count c.apply-in_default.new.self.papers) invites ≡ true)
          (sym c.apply-4.ensures.invites)
          (subst (λ (state : PapersState). are_within (paper_count state) (invites_after x.seats.invites entry) ≡ true)
          papers
          (invites-within x.papers.papers x.seats.invites maker entry fits c.self.invariant.2)),
    )

-- a table that isn't told of the entry has room for the rest as before
pub returns-in-PhaseSet-clause-room : goal.returns-in-PhaseSet-clause-room
returns-in-PhaseSet-clause-room c rest has =
    let here = subst (λ (v : SeenTables). RoomFor (c.args.stamped ∷ rest) v.rooms) (sym c.self.view_is) has in
    record {
      accounts = let enough = here.accounts in omega (arith, c.apply-2.ensures.room, enough);
      papers = of_papers.room-behind c.args.stamped rest c.self.inside.papers.rooms here.papers;
      ties = c.apply-3.ensures.room rest here.ties;
      seats = c.apply-4.ensures.room rest here.seats;
      reviews = c.apply-in-PhaseSet.ensures.room rest here.reviews;
      talk = record {
        comments =
            room-for-behind paper_commented c.args.stamped rest c.self.inside.talk.rooms.comments here.talk.comments;
        responses =
            room-for-behind paper_responded c.args.stamped rest c.self.inside.talk.rooms.responses here.talk.responses;
      };
      tags = c.apply-5.ensures.room rest here.tags;
      decisions = c.apply-6.ensures.room rest here.decisions;
    }

pub returns-in-Commented-clause-room : goal.returns-in-Commented-clause-room
returns-in-Commented-clause-room c rest has =
    let here = subst (λ (v : SeenTables). RoomFor (c.args.stamped ∷ rest) v.rooms) (sym c.self.view_is) has in
    record {
      accounts = let enough = here.accounts in omega (arith, c.apply-2.ensures.room, enough);
      papers = of_papers.room-behind c.args.stamped rest c.self.inside.papers.rooms here.papers;
      ties = c.apply-3.ensures.room rest here.ties;
      seats = c.apply-4.ensures.room rest here.seats;
      reviews = room-for-behind paper_reviewed c.args.stamped rest c.self.inside.reviews.rooms here.reviews;
      talk = c.apply-in-Commented.ensures.room rest here.talk;
      tags = c.apply-5.ensures.room rest here.tags;
      decisions = c.apply-6.ensures.room rest here.decisions;
    }

pub returns-in_default-clause-room : goal.returns-in_default-clause-room
returns-in_default-clause-room c rest has =
    let here = subst (λ (v : SeenTables). RoomFor (c.args.stamped ∷ rest) v.rooms) (sym c.self.view_is) has in
    record {
      accounts = let enough = here.accounts in omega (arith, c.apply-2.ensures.room, enough);
      papers = c.apply-in_default.ensures.room rest here.papers;
      ties = c.apply-3.ensures.room rest here.ties;
      seats = c.apply-4.ensures.room rest here.seats;
      reviews = room-for-behind paper_reviewed c.args.stamped rest c.self.inside.reviews.rooms here.reviews;
      talk = record {
        comments =
            room-for-behind paper_commented c.args.stamped rest c.self.inside.talk.rooms.comments here.talk.comments;
        responses =
            room-for-behind paper_responded c.args.stamped rest c.self.inside.talk.rooms.responses here.talk.responses;
      };
      tags = c.apply-5.ensures.room rest here.tags;
      decisions = c.apply-6.ensures.room rest here.decisions;
    }
