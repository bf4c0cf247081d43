-- SPDX-License-Identifier: Apache-2.0 OR MIT
use Rattle.std.proofs.Common.{sym, subst}
use Rattle.cr_journal.specs.Keeping.{Journaled, OpensTo}
use Rattle.cr_journal.proofs.Keeping.{stops_between}
use Rattle.cr_journal.proofs.keeper.JournalKeeperKeeper.len.Goals as goal

pub returns-clause-between : goal.returns-clause-between
returns-clause-between g c = λ told image left.
    let inside = c.self.inside in
    subst (λ (k : Journaled g.row.D.Denot). OpensTo k.rows k.doubted image) c.self.view_is
    (stops_between g.D.Disk.seen g.D.Disk.may_leave inside.journal inside.rows.items inside.doubt.items
    (c.self.invariant.1 told) image
    (subst (λ (k : Journaled g.row.D.Denot). g.D.Disk.may_leave k.disk image) (sym c.self.view_is)
    (g.met.D.Disk.only_now c.args.self.now.disk image left)))
