-- SPDX-License-Identifier: Apache-2.0 OR MIT
use Rattle.std.proofs.Common.{Bool, ◌∙◌, Some, ap, sym, fold}
use Rattle.cr_base.specs.declared.entry.Stamped.{Stamped}
use Rattle.cr_base.specs.History.{invite_told}
use Rattle.cr_base.specs.Lists.{last_or}
use Rattle.cr_assign.proofs.EarlierLaws.{is_invited_in-from}
use Rattle.cr_assign.proofs.seats.Seats.is_invited_behind.Goals as goal

pub returns : goal.returns
returns c =
    let user = Some c.args.user in
    let paper = c.args.paper in
    let earlier = c.args.earlier.now in
    c.invited_behind.ensures
    ∙ ap (λ (on : Bool). fold (λ (b : Bool) (e : Stamped). last_or b (invite_told user paper e.entry)) on earlier)
    c.is_invited-invited.ensures.value
    ∙ sym (is_invited_in-from user paper c.args.self.now.invites earlier)
