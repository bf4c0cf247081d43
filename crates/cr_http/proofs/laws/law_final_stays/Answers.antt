-- SPDX-License-Identifier: Apache-2.0 OR MIT
use Rattle.cr_http.proofs.Founds.{StandsAt-append}
use Rattle.cr_http.proofs.laws.law_final_stays.Goals as goal

pub returns : goal.returns
returns c = StandsAt-append
