-- SPDX-License-Identifier: Apache-2.0 OR MIT
use Rattle.cr_laws.proofs.TwinsNeededLaws.{twins_needed}
use Rattle.cr_laws.proofs.law_twins_needed.Goals as goal

pub returns : goal.returns
returns c = twins_needed
