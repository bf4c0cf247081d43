-- SPDX-License-Identifier: Apache-2.0 OR MIT
use Rattle.cr_sights.specs.Lines.{fourth_members}
use Rattle.cr_sights.proofs.MemberLaws.{five}
use Rattle.cr_sights.proofs.line.add_fourth.Goals as goal

pub returns : goal.returns
unfolding fourth_members
returns c =
    rw (
      ← c.sighting.view_is,
      ← c.as_ref.ensures.value,
      ← c.as_ref-2.ensures.value,
      ← c.as_ref-3.ensures.value,
      ← c.as_ref-4.ensures.value,
    )
    (five c.in_ok-add.ensures c.in_ok-truth.ensures c.in_ok-add-2.ensures c.in_ok-add-3.ensures c.in_ok-add-4.ensures)
