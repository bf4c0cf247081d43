-- SPDX-License-Identifier: Apache-2.0 OR MIT
-- What a run of the program does, by the words of its command line.
use Rattle.std.specs.Prelude.{◌≡◌, ◌≢◌, ◌⊎◌, ℕ, Bool, List, Option, String}
use Rattle.std.specs.declared.alloc.Global.{Global}
use Rattle.cr_words.specs.Job.{NamedJob}
use Rattle.cr_workers.specs.Connections.{Streams}
use Rattle.cr_top.specs.declared.exit.Exit.{Exit}
use Rattle.cr_top.specs.declared.exit.Exit.TheVariants as exits
use Rattle.cr_top.specs.Jobs.{AnswersJob, Does, IsCounted, IsUntouched, Surroundings}
use Rattle.cr_top.specs.Runs.{TellsUsage}
use Rattle.cr_top.specs.Stores.{Keeping}
use Rattle.cr_top.specs.Words.{AreFor, AreRefused, PassTest}

-- This is one name, so that a caller who states nothing of a run needn't read what it says.
pub record RunsProgram {I K A B D : Type 0} (words : List (String Global)) (tells_stops : List ℕ → Bool)
    (keeps : List ℕ → Keeping) (left : I → Option (List ℕ)) (gives : I → I → List ℕ → Type 0)
    (streams : Streams K A B D) (StoresAndGatesStay : Type 0) (exit : Exit) (a a' : Surroundings I A B D) : Type 0 where
  -- What the job that the words name did: one connection, or many, whose bytes are the answers that its wishes are
  -- told, each on the caller's view of the one history at its turn's place; or a user's view; or a drill's summary.
  pub does : (job : NamedJob) → AreFor words job → Does tells_stops keeps left gives streams job exit a a'
  -- Where nothing fails, all that the input's bytes spell is answered, each door gives its share, and the view is told
  -- whole, or memory runs out.
  pub answers : (job : NamedJob) → AreFor words job → AnswersJob left job exit a a'
  -- Words that name no job are answered by the usage line, and nothing is read.
  pub refuses : AreRefused words
      → IsUntouched exit a a' ⊎ (TellsUsage exit a.outside a'.outside × StoresAndGatesStay)
  -- Nothing else comes to that exit, and words that pass `clap`'s own test never do.
  pub usage : exit ≡ exits.Usage → AreRefused words
  pub passes : PassTest words → exit ≢ exits.Usage
  -- An exit that tells of a fault comes only where that count rose, or stands at its last value.
  pub counted : IsCounted exit a a'
