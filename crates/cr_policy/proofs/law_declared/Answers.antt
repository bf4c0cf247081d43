-- SPDX-License-Identifier: Apache-2.0 OR MIT
use Rattle.cr_policy.proofs.LegalLaws.{Legal-declared}
use Rattle.cr_policy.proofs.law_declared.Goals as goal

pub returns : goal.returns
returns c = Legal-declared
