-- SPDX-License-Identifier: Apache-2.0 OR MIT
use Rattle.cr_permissions.proofs.SingleRowLaws.{bulk_is_its_rows}
use Rattle.cr_permissions.proofs.law_bulk.Goals as goal

pub returns : goal.returns
returns c = bulk_is_its_rows
