-- SPDX-License-Identifier: Apache-2.0 OR MIT
use Rattle.cr_history.proofs.GrowthLaws.{growth_keeps}
use Rattle.cr_history.proofs.law_growth.Goals as goal

pub returns : goal.returns
returns c = growth_keeps
