-- SPDX-License-Identifier: Apache-2.0 OR MIT
use Rattle.cr_policy.proofs.AddedLaws.{adds_as_said}
use Rattle.cr_permissions.proofs.MayBulkLaws.{rows_as_said, bulks_as_said}
use Rattle.cr_permissions.proofs.MayDoLaws.{permissions_as_said}
use Rattle.cr_permissions.proofs.MayReadLaws.{reading_as_said}
use Rattle.cr_permissions.proofs.law_permissions.Goals as goal

pub returns : goal.returns
returns c = record {
  commands = permissions_as_said;
  reading = reading_as_said;
  adds = adds_as_said;
  rows = rows_as_said;
  bulks = bulks_as_said;
}
