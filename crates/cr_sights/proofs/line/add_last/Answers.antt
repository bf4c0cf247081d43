-- SPDX-License-Identifier: Apache-2.0 OR MIT
use Rattle.cr_sights.specs.Lines.{last_members}
use Rattle.cr_sights.proofs.MemberLaws.{six}
use Rattle.cr_sights.proofs.line.add_last.Goals as goal

pub returns : goal.returns
unfolding last_members
returns c =
    rw (
      ← c.user_told.ensures,
      ← c.writer_told.ensures,
      ← c.sighting.view_is,
      ← c.as_ref.ensures.value,
      ← c.as_ref-2.ensures.value,
      ← c.as_ref-3.ensures.value,
    )
    (six c.in_ok-add.ensures c.in_ok-add-2.ensures c.in_ok-add-3.ensures c.in_ok-add-4.ensures c.in_ok-add-5.ensures
    c.in_ok-add-6.ensures)
