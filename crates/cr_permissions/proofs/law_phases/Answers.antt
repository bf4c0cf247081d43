-- SPDX-License-Identifier: Apache-2.0 OR MIT
use Rattle.cr_permissions.proofs.PhaseOrderLaws.{phases_in_order}
use Rattle.cr_permissions.proofs.law_phases.Goals as goal

pub returns : goal.returns
returns c = phases_in_order
