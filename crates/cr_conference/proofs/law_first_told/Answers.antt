-- SPDX-License-Identifier: Apache-2.0 OR MIT
use Rattle.cr_conference.proofs.FirstToldLaws.{first_told}
use Rattle.cr_conference.proofs.law_first_told.Goals as goal

pub returns : goal.returns
returns c = first_told
