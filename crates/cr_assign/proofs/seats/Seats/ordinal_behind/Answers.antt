-- SPDX-License-Identifier: Apache-2.0 OR MIT
use Rattle.std.proofs.Common.{ℕ, Option, ◌∙◌, Some, ap, sym, subst, fold}
use Rattle.cr_base.specs.declared.entry.Stamped.{Stamped}
use Rattle.cr_base.specs.History.{ordinal_told}
use Rattle.cr_base.specs.Lists.{last_or}
use Rattle.cr_base.specs.Seats.{SeatsInOrder}
use Rattle.cr_assign.specs.Seen.{SeenSeats}
use Rattle.cr_assign.proofs.EarlierLaws.{ordinal_in-from}
use Rattle.cr_assign.proofs.seats.Seats.ordinal_behind.Goals as goal

pub returns : goal.returns
returns c =
    let user = Some c.args.user in
    let paper = c.args.paper in
    let earlier = c.args.earlier.now in
    let order = subst (λ (v : SeenSeats). SeatsInOrder v.seats) c.self.view_is c.self.invariant.0.in_order in
    c.seat_behind.ensures
    ∙ ap (λ (held : Option ℕ). fold (λ (o : Option ℕ) (e : Stamped). last_or o (ordinal_told user paper e.entry)) held
    earlier)
    c.ordinal_of-held.ensures.value
    ∙ sym (ordinal_in-from user paper c.args.self.now.seats earlier order c.requires)
