-- SPDX-License-Identifier: Apache-2.0 OR MIT
use Rattle.cr_permissions.proofs.GoesOnLaws.{goes_on}
use Rattle.cr_permissions.proofs.law_goes_on.Goals as goal

pub returns : goal.returns
returns c = goes_on
