-- SPDX-License-Identifier: Apache-2.0 OR MIT
use Rattle.cr_session.proofs.RetriesLaws.{retries_act_once}
use Rattle.cr_session.proofs.laws.law_repeats.Goals as goal

pub returns : goal.returns
returns c = retries_act_once
