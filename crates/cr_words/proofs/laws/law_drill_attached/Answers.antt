-- SPDX-License-Identifier: Apache-2.0 OR MIT
use Rattle.cr_words.proofs.DrillLaws.{attached_taken, attached_bad_seed, attached_bad_steps}
use Rattle.cr_words.proofs.laws.law_drill_attached.Goals as goal

pub returns : goal.returns
returns c = record { taken = attached_taken; bad_seed = attached_bad_seed; bad_steps = attached_bad_steps }
