-- SPDX-License-Identifier: Apache-2.0 OR MIT
use Rattle.cr_laws.proofs.GroupRunsLaws.{two_runs_of_group, each_hears_alike}
use Rattle.cr_laws.proofs.law_group_runs.Goals as goal

pub returns-clause-together : goal.returns-clause-together
returns-clause-together c = two_runs_of_group

pub returns-clause-each : goal.returns-clause-each
returns-clause-each c = each_hears_alike
