-- SPDX-License-Identifier: Apache-2.0 OR MIT
use Rattle.std.proofs.Common.{◌≡◌}
use Rattle.sqlite.specs.Held.{state}
use Rattle.cr_sqlite.specs.Migration.{CommitsNothing}
use Rattle.cr_sqlite.proofs.migrate.move_rows.Given as goal

abbrev pub invariant-pages : goal.invariant-pages
invariant-pages g l =
    (l.transaction.conn.ghost_name ≡ l.fn.transaction.conn.ghost_name)
    × CommitsNothing (state g.S.Store l.fn.transaction.conn.now) (state g.S.Store l.transaction.conn.now)
