-- SPDX-License-Identifier: Apache-2.0 OR MIT
use Rattle.cr_words.proofs.PipeLaw.{pipe_taken}
use Rattle.cr_words.proofs.laws.law_pipe.Goals as goal

pub returns : goal.returns
returns c = pipe_taken
