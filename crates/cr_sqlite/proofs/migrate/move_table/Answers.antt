-- SPDX-License-Identifier: Apache-2.0 OR MIT
use Rattle.cr_sqlite.proofs.Committing.{nothing_more}
use Rattle.cr_sqlite.proofs.migrate.move_table.Goals as goal

pub returns-clause-inside : goal.returns-clause-inside
returns-clause-inside g c =
    nothing_more _ _ _ (nothing_more _ _ _ c.run.ensures.inside c.move_rows.ensures.inside) c.run-2.ensures.inside
