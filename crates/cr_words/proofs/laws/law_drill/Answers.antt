-- SPDX-License-Identifier: Apache-2.0 OR MIT
use Rattle.cr_words.proofs.DrillLaws.{taken, bad_seed, bad_steps}
use Rattle.cr_words.proofs.laws.law_drill.Goals as goal

pub returns : goal.returns
returns c = record { taken = taken; bad_seed = bad_seed; bad_steps = bad_steps }
