-- SPDX-License-Identifier: Apache-2.0 OR MIT
use Rattle.cr_permissions.proofs.MigrationLaws.{migrates}
use Rattle.cr_permissions.proofs.law_migrated.Goals as goal

pub returns : goal.returns
returns c = migrates
