-- SPDX-License-Identifier: Apache-2.0 OR MIT
use Rattle.cr_policy.proofs.NumberLaws.{numbers_once}
use Rattle.cr_policy.proofs.RetryLaws.{kept_from_view}
use Rattle.cr_policy.proofs.law_retries.Goals as goal

pub returns : goal.returns
returns c = record { kept = kept_from_view; once = numbers_once }
