-- SPDX-License-Identifier: Apache-2.0 OR MIT
use Rattle.cr_permissions.proofs.PlanTakenLaws.{plans-taken}
use Rattle.cr_permissions.proofs.law_plans_taken.Goals as goal

pub returns : goal.returns
returns c = plans-taken
