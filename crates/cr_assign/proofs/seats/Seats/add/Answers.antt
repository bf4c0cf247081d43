-- SPDX-License-Identifier: Apache-2.0 OR MIT
use Rattle.std.proofs.Common.{◌≡◌, ◌∙◌, List, ap, sym, subst}
use Rattle.cr_base.specs.declared.entry.Entry.TheVariants.{Assigned}
use Rattle.cr_base.specs.declared.filed.Filed.{Filed}
use Rattle.cr_base.specs.declared.pairs.Tie.{Tie}
use Rattle.cr_base.specs.declared.seat.Seat.{Seat}
use Rattle.cr_base.specs.Filed.{filed, with_filed}
use Rattle.cr_base.specs.Seats.{SeatsFit, seat_tie, with_seat}
use Rattle.cr_kept.specs.Own.{values_in, AreOwn}
use Rattle.cr_kept.proofs.OwnLaws.{own-with, own-with_filed}
use Rattle.cr_assign.specs.Seen.{SeenSeats}
use Rattle.cr_assign.proofs.IndexLaws.{indexed-assigned}
use Rattle.cr_assign.proofs.LeftLaws.{paper_of}
use Rattle.cr_assign.proofs.seats.Seats.add.Goals as goal

-- the seats as the code makes them
put : (c : goal.After-insert)
    → (values_in c.file.new.self.files ≡ with_seat (seat_tie c.args.paper c.args.user c.args.kind c.args.ordinal)
    (values_in c.self.inside.seats.files))
    × AreOwn paper_of c.file.new.self.files
put c =
    let a = c.args in
    let files = c.self.inside.seats.files in
    let seat : Tie Seat = seat_tie a.paper a.user a.kind a.ordinal in
    let is : c.file.new.self.files ≡ with_filed (filed a.paper seat) files =
    c.file.ensures.files ∙ ap (λ (t : Tie Seat). with_filed (filed a.paper t) files) c.taken.ensures in (
      ap (λ (xs : List (Filed (Tie Seat))). values_in xs) is ∙ own-with paper_of seat files c.self.invariant.1,
      subst (λ (xs : List (Filed (Tie Seat))). AreOwn paper_of xs) (sym is)
          (own-with_filed paper_of seat files c.self.invariant.1),
    )

pub returns-clause-after : goal.returns-clause-after
returns-clause-after c =
    (put c).0 ∙ ap (λ (v : SeenSeats). with_seat (seat_tie c.args.paper c.args.user c.args.kind c.args.ordinal) v.seats)
    c.self.view_is

pub invariant_of-self : goal.invariant_of-self
invariant_of-self c =
    let x = c.self.inside in
    let a = c.args in
    let fits = subst (λ (v : SeenSeats). SeatsFit v.seats (Assigned a.paper a.user a.kind a.ordinal))
    (sym c.self.view_is) c.requires.fits in (
      indexed-assigned (values_in x.seats.files) x.reviewing.order x.reviewing.ties c.self.invariant.0 a.paper a.user
          a.kind a.ordinal
          (values_in c.file.new.self.files) c.insert.new.self.order c.insert.new.self.ties fits (put c).0
          c.insert.ensures.order c.insert.ensures.ties,
      (put c).1,
    )
