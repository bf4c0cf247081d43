-- SPDX-License-Identifier: Apache-2.0 OR MIT
use Rattle.std.proofs.Common.{ap, arith, length}
use Rattle.cr_disks.specs.Paths.{Filed}
use Rattle.cr_disks.proofs.mem_disks.MemDisks.disk_at.Goals as goal

pub reopened-requires : goal.reopened-requires
reopened-requires c =
    omega (arith, ap (λ (d : Filed). d.room) c.self.view_is, ap length c.in-Some.ensures.bytes, c.requires)
