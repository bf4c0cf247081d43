-- SPDX-License-Identifier: Apache-2.0 OR MIT
use Rattle.cr_history.proofs.GrowthLaws.{tables_tell}
use Rattle.cr_history.proofs.law_tables.Goals as goal

pub returns : goal.returns
returns c = tables_tell
