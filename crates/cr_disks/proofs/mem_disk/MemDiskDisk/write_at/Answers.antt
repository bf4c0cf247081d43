-- SPDX-License-Identifier: Apache-2.0 OR MIT
use Rattle.std.proofs.Common.{List, ℕ, length, sym, subst}
use Rattle.cr_disks.specs.Disk.{Torn}
use Rattle.cr_disks.specs.Held.{DiskState, left_in}
use Rattle.cr_disks.proofs.Images.{torn_same}
use Rattle.cr_disks.proofs.Time.{nothing_elapses}
use Rattle.cr_disks.proofs.mem_disk.MemDiskDisk.write_at.Goals as goal

pub returns-then-is_full-clause-torn : goal.returns-then-is_full-clause-torn
returns-then-is_full-clause-torn c = λ told.
    subst (λ (l : List ℕ). Torn c.args.at (length c.args.piece.now) c.args.self.now.bytes l) (sym c.fail.ensures.same.3)
    (torn_same c.args.at (length c.args.piece.now) c.args.self.now.bytes)

pub returns-then-is_full-clause-crash : goal.returns-then-is_full-clause-crash
returns-then-is_full-clause-crash c = λ told image left. (
  image,
  subst (λ (s : DiskState). left_in s image) c.fail.ensures.state left,
  torn_same c.args.at (length c.args.piece.now) image,
)

pub returns-then-is_full-clause-time : goal.returns-then-is_full-clause-time
returns-then-is_full-clause-time c =
    λ told. nothing_elapses c.args.self.now c.fail.new.self c.fail.ensures.past c.fail.ensures.state
