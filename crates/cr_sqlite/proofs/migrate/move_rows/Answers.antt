-- SPDX-License-Identifier: Apache-2.0 OR MIT
use Rattle.std.proofs.Common.{refl, ◌∙◌}
use Rattle.cr_sqlite.proofs.Committing.{nothing_yet, nothing_more}
use Rattle.cr_sqlite.proofs.migrate.move_rows.Goals as goal

pub pages-init : goal.pages-init
pages-init g c = (refl, nothing_yet _)

pub returns-in_err-behind-clause-same : goal.returns-in_err-behind-clause-same
returns-in_err-behind-clause-same g c = c.move_from.ensures.same ∙ c.pages.invariant.0

pub returns-in_err-behind-clause-inside : goal.returns-in_err-behind-clause-inside
returns-in_err-behind-clause-inside g c = nothing_more _ _ _ c.pages.invariant.1 c.move_from.ensures.inside

pub returns-in-None-clause-same : goal.returns-in-None-clause-same
returns-in-None-clause-same g c = c.move_from.ensures.same ∙ c.pages.invariant.0

pub returns-in-None-clause-inside : goal.returns-in-None-clause-inside
returns-in-None-clause-inside g c = nothing_more _ _ _ c.pages.invariant.1 c.move_from.ensures.inside

pub pages-preserved : goal.pages-preserved
pages-preserved g c =
    (c.move_from.ensures.same ∙ c.pages.invariant.0, nothing_more _ _ _ c.pages.invariant.1 c.move_from.ensures.inside)

pub returns-clause-same : goal.returns-clause-same
returns-clause-same g c = c.pages.invariant.0

pub returns-clause-inside : goal.returns-clause-inside
returns-clause-inside g c = c.pages.invariant.1
