-- SPDX-License-Identifier: Apache-2.0 OR MIT
use Rattle.cr_log.proofs.IndexLaws.{none-kept}
use Rattle.cr_log.proofs.log.Log.is_unused.Goals as goal

pub returns : goal.returns
returns c = none-kept _ c.find.result c.is_none.result c.is_none.ensures c.find.ensures
