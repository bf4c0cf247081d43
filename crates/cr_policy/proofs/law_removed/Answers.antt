-- SPDX-License-Identifier: Apache-2.0 OR MIT
use Rattle.cr_policy.proofs.RemovedLaws.{removal}
use Rattle.cr_policy.proofs.law_removed.Goals as goal

pub returns : goal.returns
returns c = removal
