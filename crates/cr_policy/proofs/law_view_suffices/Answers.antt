-- SPDX-License-Identifier: Apache-2.0 OR MIT
use Rattle.cr_policy.proofs.DecideLaws.{view_suffices}
use Rattle.cr_policy.proofs.law_view_suffices.Goals as goal

pub returns : goal.returns
returns c = view_suffices
