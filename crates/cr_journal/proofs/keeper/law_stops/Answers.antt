-- SPDX-License-Identifier: Apache-2.0 OR MIT
use Rattle.std.proofs.Common.{sym, subst}
use Rattle.cr_journal.specs.Keeping.{Journaled, OpensTo}
use Rattle.cr_journal.proofs.Keeping.{stops_between}
use Rattle.cr_journal.proofs.keeper.law_stops.Goals as goal

pub returns : goal.returns
returns g c = record {
  between = λ told image left.
      subst (λ (k : Journaled g.row.D.Denot). OpensTo k.rows k.doubted image) c.keeper.view_is
      (stops_between g.D.Disk.seen g.D.Disk.may_leave c.keeper.inside.journal c.keeper.inside.rows.items
      c.keeper.inside.doubt.items (c.keeper.invariant.1 told) image
      (subst (λ (k : Journaled g.row.D.Denot). g.D.Disk.may_leave k.disk image) (sym c.keeper.view_is) left));
}
