-- SPDX-License-Identifier: Apache-2.0 OR MIT
use Rattle.cr_policy.proofs.WitnessLaws.{two_registrations-legal, digests-hidden, one_submission-legal}
use Rattle.cr_policy.proofs.WitnessLaws.{one_conflict-legal, one_bulk-legal}
use Rattle.cr_policy.proofs.law_witness.Goals as goal

pub returns : goal.returns
returns c = record {
  legal = two_registrations-legal;
  hidden = digests-hidden;
  submitted = one_submission-legal;
  conflict = one_conflict-legal;
  bulk = one_bulk-legal;
}
