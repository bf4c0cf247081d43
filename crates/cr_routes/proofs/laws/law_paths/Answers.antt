-- SPDX-License-Identifier: Apache-2.0 OR MIT
use Rattle.std.proofs.Common.{refl}
use Rattle.cr_routes.specs.Parts.{found_at}
use Rattle.cr_routes.proofs.AskedAt.{has_route}
use Rattle.cr_routes.proofs.Resources.{unrooted}
use Rattle.cr_routes.proofs.laws.law_paths.Goals as goal

pub returns-clause-listed : goal.returns-clause-listed
unfolding found_at
returns-clause-listed c = refl

pub returns-clause-few : goal.returns-clause-few
returns-clause-few c = refl

pub returns-clause-rooted : goal.returns-clause-rooted
returns-clause-rooted c = unrooted

pub returns-clause-empty : goal.returns-clause-empty
unfolding found_at
returns-clause-empty c = refl

pub returns-clause-asked : goal.returns-clause-asked
returns-clause-asked c = has_route
