-- SPDX-License-Identifier: Apache-2.0 OR MIT
use Rattle.std.proofs.Common.{◌≡◌, ◌≤◌, ◌-◌, ◌++◌, ℕ, List}
use Rattle.std.specs.Prelude.{IsTrue}
use Rattle.cr_base.specs.declared.row.Row.{Row}
use Rattle.cr_journal.specs.Keeping.{IsAtGate, rows_of}
use Rattle.cr_journal.proofs.opening.read_groups.Given as goal

abbrev pub invariant-groups : goal.invariant-groups
invariant-groups g l = record {
  near : l.at ≤ l.size;
  so_far : IsTrue g.D.Disk.tells → (groups : List (List Row))
      × IsAtGate (g.D.Disk.seen l.initial.disk) l.at groups × (l.rows.items ≡ l.initial.rows.items ++ rows_of groups);
  seen : IsTrue g.D.Disk.tells → g.D.Disk.seen l.disk ≡ g.D.Disk.seen l.initial.disk;
  crash : IsTrue g.D.Disk.tells
      → (image : List ℕ) → g.D.Disk.may_leave l.disk image → g.D.Disk.may_leave l.initial.disk image;
  steady : g.D.Disk.faults l.disk ≡ g.D.Disk.faults l.initial.disk;
}

abbrev pub decreases-groups : goal.decreases-groups
decreases-groups g l = l.size - l.at
