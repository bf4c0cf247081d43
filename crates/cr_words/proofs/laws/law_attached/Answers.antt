-- SPDX-License-Identifier: Apache-2.0 OR MIT
use Rattle.cr_words.proofs.StoreLaws.{pipe_attached_taken, view_attached_taken}
use Rattle.cr_words.proofs.laws.law_attached.Goals as goal

pub returns : goal.returns
returns c = record { pipe = pipe_attached_taken; view = view_attached_taken }
