-- SPDX-License-Identifier: Apache-2.0 OR MIT
use Rattle.cr_policy.proofs.LegalLaws.{Legal-kept, digests-own}
use Rattle.cr_policy.proofs.law_legal.Goals as goal

pub returns : goal.returns
returns c = record { invariants = Legal-kept; own_digests = digests-own }
