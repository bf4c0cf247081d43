-- SPDX-License-Identifier: Apache-2.0 OR MIT
use Rattle.cr_words.proofs.Named.{names_a_job}
use Rattle.cr_words.proofs.laws.law_taken_words.Goals as goal

pub returns : goal.returns
returns c = names_a_job
