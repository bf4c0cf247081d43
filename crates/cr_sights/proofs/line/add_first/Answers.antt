-- SPDX-License-Identifier: Apache-2.0 OR MIT
use Rattle.cr_sights.specs.Lines.{first_members}
use Rattle.cr_sights.proofs.MemberLaws.{five}
use Rattle.cr_sights.proofs.line.add_first.Goals as goal

pub returns : goal.returns
unfolding first_members
returns c =
    rw (← c.by_told.ensures, ← c.sighting.view_is, ← c.as_ref.ensures.value)
    (five c.in_ok-add.ensures c.in_ok-truth.ensures c.in_ok-add-2.ensures c.in_ok-add-3.ensures c.in_ok-add-4.ensures)
