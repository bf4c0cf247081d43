-- SPDX-License-Identifier: Apache-2.0 OR MIT
-- The words of `pipe`, by clap's own definitions.
use Rattle.std.proofs.Common.{[], ◌∷◌, None, refl}
use Rattle.std.specs.Prelude.{codes}
use Rattle.clap.specs.Words.{Text}
use Rattle.clap.proofs.OnLiterals.{clap_on_literals}
use Rattle.cr_words.specs.Words.{pipe, serve, view, drill, confd_words}
use Rattle.cr_words.specs.Job.{AreTakenFor, pipe_job}

pub pipe_taken : (name : Text) → AreTakenFor (name ∷ codes "pipe" ∷ []) (pipe_job None)
unfolding clap_on_literals confd_words pipe serve view drill
pipe_taken name = record { taken = refl; passes = refl; named = refl }
