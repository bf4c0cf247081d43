-- SPDX-License-Identifier: Apache-2.0 OR MIT
use Rattle.std.proofs.Common.{refl, ◌∙◌}
use Rattle.cr_sqlite.proofs.Committing.{nothing_yet, nothing_more}
use Rattle.cr_sqlite.proofs.migrate.move_tables.Goals as goal

pub tables-init : goal.tables-init
tables-init g c = (refl, nothing_yet _)

pub returns-in_err-move_table-clause-same : goal.returns-in_err-move_table-clause-same
returns-in_err-move_table-clause-same g c = c.move_table.ensures.same ∙ c.tables.invariant.0

pub returns-in_err-move_table-clause-inside : goal.returns-in_err-move_table-clause-inside
returns-in_err-move_table-clause-inside g c = nothing_more _ _ _ c.tables.invariant.1 c.move_table.ensures.inside

pub tables-preserved : goal.tables-preserved
tables-preserved g c = (
  c.move_table.ensures.same ∙ c.tables.invariant.0,
  nothing_more _ _ _ c.tables.invariant.1 c.move_table.ensures.inside,
)

pub returns-clause-same : goal.returns-clause-same
returns-clause-same g c = c.run.ensures.same ∙ c.tables.invariant.0

pub returns-clause-inside : goal.returns-clause-inside
returns-clause-inside g c = nothing_more _ _ _ c.tables.invariant.1 c.run.ensures.inside
