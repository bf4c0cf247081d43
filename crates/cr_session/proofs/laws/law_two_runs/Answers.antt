-- SPDX-License-Identifier: Apache-2.0 OR MIT
use Rattle.cr_session.proofs.TwoRunsLaws.{two_runs}
use Rattle.cr_session.proofs.laws.law_two_runs.Goals as goal

pub returns : goal.returns
returns c = two_runs
