-- SPDX-License-Identifier: Apache-2.0 OR MIT
use Rattle.std.proofs.Common.{◌≡◌, ◌≤◌, ◌-◌, ℕ, List, length, take, drop}
use Rattle.std.specs.Prelude.{IsTrue}
use Rattle.cr_journal.proofs.opening.fill.Given as goal

abbrev pub invariant-reading : goal.invariant-reading
invariant-reading g l = record {
  len : length l.bytes ≡ length l.initial.bytes;
  few : l.filled ≤ length l.bytes;
  told : IsTrue g.D.Disk.tells
      → take l.filled l.bytes ≡ take l.filled (drop l.at (g.D.Disk.seen l.initial.disk));
  near : IsTrue g.D.Disk.tells → l.filled ≤ length (drop l.at (g.D.Disk.seen l.initial.disk));
  seen : IsTrue g.D.Disk.tells → g.D.Disk.seen l.disk ≡ g.D.Disk.seen l.initial.disk;
  crash : IsTrue g.D.Disk.tells
      → (image : List ℕ) → g.D.Disk.may_leave l.disk image → g.D.Disk.may_leave l.initial.disk image;
  steady : g.D.Disk.faults l.disk ≡ g.D.Disk.faults l.initial.disk;
}

abbrev pub decreases-reading : goal.decreases-reading
decreases-reading g l = length l.bytes - l.filled
