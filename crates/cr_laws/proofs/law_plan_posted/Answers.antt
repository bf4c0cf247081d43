-- SPDX-License-Identifier: Apache-2.0 OR MIT
use Rattle.cr_laws.proofs.PlanPostedLaws.{plan-posted}
use Rattle.cr_laws.proofs.law_plan_posted.Goals as goal

pub returns : goal.returns
returns c = plan-posted
