-- SPDX-License-Identifier: Apache-2.0 OR MIT
use Rattle.cr_words.proofs.StoreLaws.{pipe_store_taken}
use Rattle.cr_words.proofs.laws.law_pipe_store.Goals as goal

pub returns : goal.returns
returns c = pipe_store_taken
