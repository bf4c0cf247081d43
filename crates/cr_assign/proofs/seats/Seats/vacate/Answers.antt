-- SPDX-License-Identifier: Apache-2.0 OR MIT
use Rattle.std.proofs.Common.{◌≡◌, ◌-◌, ◌<◌, ◌∙◌, List, length, ap, sym, subst, arith}
use Rattle.cr_base.specs.declared.entry.Entry.TheVariants.{Unassigned}
use Rattle.cr_base.specs.declared.filed.Filed.{Filed}
use Rattle.cr_base.specs.declared.pairs.Tie.{Tie}
use Rattle.cr_base.specs.declared.seat.Seat.{Seat}
use Rattle.cr_base.specs.Seats.{SeatsState, SeatsFit, vacated, without_seat}
use Rattle.cr_kept.specs.Own.{values_in, AreOwn}
use Rattle.cr_kept.proofs.OwnLaws.{own-with_changed}
use Rattle.cr_assign.specs.Seen.{SeenSeats}
use Rattle.cr_assign.proofs.IndexLaws.{indexed-unassigned, is-held, marked, its-paper}
use Rattle.cr_assign.proofs.LeftLaws.{paper_of}
use Rattle.cr_assign.proofs.seats.Seats.vacate.Goals as goal

pub bounds-of_paper-index : goal.bounds-of_paper-index
bounds-of_paper-index c =
    let x = c.self.inside in
    let a = c.args in
    let fits = subst (λ (v : SeenSeats). SeatsFit v.seats (Unassigned a.paper a.user a.ordinal)) (sym c.self.view_is)
    c.requires.fits in
    subst (λ (ts : SeatsState). c.number.result - 1 < length ts) (sym c.of_paper.ensures.values)
    (is-held x.seats.files x.reviewing.order x.reviewing.ties c.self.invariant.0 c.self.invariant.1 a.paper a.user
    a.ordinal (c.number.result - 1) fits (omega (arith, c.number.ensures.value)))

pub change-requires : goal.change-requires
change-requires c =
    let x = c.self.inside in
    let a = c.args in
    let fits = subst (λ (v : SeenSeats). SeatsFit v.seats (Unassigned a.paper a.user a.ordinal)) (sym c.self.view_is)
    c.requires.fits in
    is-held x.seats.files x.reviewing.order x.reviewing.ties c.self.invariant.0 c.self.invariant.1 a.paper a.user
    a.ordinal (c.number.result - 1) fits (omega (arith, c.number.ensures.value))

-- the seats as the code makes them
left : (c : goal.After-remove) → values_in c.change.new.self.files ≡ without_seat c.args.paper c.args.ordinal
    (values_in c.self.inside.seats.files)
left c =
    let x = c.self.inside in
    let a = c.args in
    let fits = subst (λ (v : SeenSeats). SeatsFit v.seats (Unassigned a.paper a.user a.ordinal)) (sym c.self.view_is)
    c.requires.fits in
    ap (λ (xs : List (Filed (Tie Seat))). values_in xs) c.change.ensures.files
    ∙ marked x.seats.files x.reviewing.order x.reviewing.ties c.self.invariant.0 c.self.invariant.1 a.paper a.user
    a.ordinal (c.number.result - 1) fits (omega (arith, c.number.ensures.value))
    c.of_paper.result.now c.left-seat.result c.index-of_paper-index.result c.of_paper.ensures.values
    (c.left-seat.ensures ∙ ap (λ (t : Tie Seat). vacated t) c.index-of_paper-index.is)

pub returns-clause-after : goal.returns-clause-after
returns-clause-after c =
    left c ∙ ap (λ (v : SeenSeats). without_seat c.args.paper c.args.ordinal v.seats) c.self.view_is

pub invariant_of-self : goal.invariant_of-self
invariant_of-self c =
    let x = c.self.inside in
    let a = c.args in
    let fits = subst (λ (v : SeenSeats). SeatsFit v.seats (Unassigned a.paper a.user a.ordinal)) (sym c.self.view_is)
    c.requires.fits in
    let of_paper = its-paper x.seats.files x.reviewing.order x.reviewing.ties c.self.invariant.0 c.self.invariant.1
    a.paper a.user a.ordinal (c.number.result - 1) fits (omega (arith, c.number.ensures.value))
    c.of_paper.result.now c.left-seat.result c.index-of_paper-index.result c.of_paper.ensures.values
    (c.left-seat.ensures ∙ ap (λ (t : Tie Seat). vacated t) c.index-of_paper-index.is) in (
      indexed-unassigned (values_in x.seats.files) x.reviewing.order x.reviewing.ties c.self.invariant.0 a.paper a.user
          a.ordinal
          (values_in c.change.new.self.files) c.remove.new.self.order c.remove.new.self.ties fits (left c)
          c.remove.ensures.order c.remove.ensures.ties,
      subst (λ (xs : List (Filed (Tie Seat))). AreOwn paper_of xs) (sym c.change.ensures.files)
          (own-with_changed paper_of a.paper (c.number.result - 1) c.left-seat.result x.seats.files of_paper
          c.self.invariant.1),
    )
