-- SPDX-License-Identifier: Apache-2.0 OR MIT
use Rattle.std.proofs.Common.{subst}
use Rattle.cr_journal.specs.Keeping.{Journaled, OpensTo}
use Rattle.cr_journal.proofs.Keeping.{opens_seen}
use Rattle.cr_journal.proofs.keeper.JournalKeeper.into_disk.Goals as goal

pub returns-clause-opens : goal.returns-clause-opens
returns-clause-opens g c = λ told.
    subst (λ (k : Journaled g.row.D.Denot). OpensTo k.rows k.doubted (g.D.Disk.seen k.disk)) c.self.view_is
    (opens_seen g.D.Disk.seen g.D.Disk.may_leave c.self.inside.journal c.self.inside.rows.items
    c.self.inside.doubt.items (c.self.invariant.1 told))
