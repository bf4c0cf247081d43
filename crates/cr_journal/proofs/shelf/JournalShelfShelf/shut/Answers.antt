-- SPDX-License-Identifier: Apache-2.0 OR MIT
use Rattle.cr_journal.proofs.Shelving.{told_after, told_others}
use Rattle.cr_journal.proofs.shelf.JournalShelfShelf.shut.Goals as goal

pub returns-clause-kept : goal.returns-clause-kept
returns-clause-kept g c =
    rw (← c.self.view_is) (told_after g.D.Disk.Disk.tells (g.D.Disks.files c.self.inside.disks)
    (g.D.Disks.files c.shut.new.self) c.args.path.now
    (g.D.Disk.Disk.seen c.into_disk.result) c.args.keeper.rows c.args.keeper.doubted c.shut.ensures.kept
    (rw c.into_disk.ensures.disk c.into_disk.ensures.opens))

pub returns-clause-others : goal.returns-clause-others
returns-clause-others g c = rw (← c.self.view_is) (λ other apart.
    told_others g.D.Disk.Disk.tells (g.D.Disks.files c.self.inside.disks) (g.D.Disks.files c.shut.new.self)
    c.args.path.now
    (g.D.Disk.Disk.seen c.into_disk.result) other c.shut.ensures.kept apart)
