-- SPDX-License-Identifier: Apache-2.0 OR MIT
use Rattle.cr_policy.proofs.StandingLaws.{standing_from_view, public_from_view}
use Rattle.cr_policy.proofs.law_standing.Goals as goal

pub returns : goal.returns
returns c = record { standing = standing_from_view; public = public_from_view }
