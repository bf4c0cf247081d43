-- SPDX-License-Identifier: Apache-2.0 OR MIT
use Rattle.cr_sights.specs.Lines.{fifth_members}
use Rattle.cr_sights.proofs.MemberLaws.{six}
use Rattle.cr_sights.proofs.line.add_fifth.Goals as goal

pub returns : goal.returns
unfolding fifth_members
returns c =
    rw (← c.sighting.view_is, ← c.as_ref.ensures.value, ← c.as_ref-2.ensures.value)
    (six c.in_ok-add.ensures c.in_ok-add-2.ensures c.in_ok-add-3.ensures c.in_ok-add-4.ensures c.in_ok-add-5.ensures
    c.in_ok-add-6.ensures)
