-- SPDX-License-Identifier: Apache-2.0 OR MIT
use Rattle.cr_sights.specs.Lines.{second_members}
use Rattle.cr_sights.proofs.MemberLaws.{five}
use Rattle.cr_sights.proofs.line.add_second.Goals as goal

pub returns : goal.returns
unfolding second_members
returns c =
    rw (
      ← c.sighting.view_is,
      ← c.name.ensures,
      ← c.as_bytes.ensures.value,
      ← c.as_ref.ensures.value,
      ← c.as_ref-2.ensures.value,
    )
    (five c.in_ok-add.ensures c.in_ok-add-2.ensures c.in_ok-add-3.ensures c.in_ok-truth.ensures
    c.in_ok-string.ensures.adds)
