-- SPDX-License-Identifier: Apache-2.0 OR MIT
use Rattle.cr_laws.proofs.AnyRunLaws.{runs_end_so}
use Rattle.cr_laws.proofs.law_another_run.Goals as goal

pub returns : goal.returns
returns c = runs_end_so
