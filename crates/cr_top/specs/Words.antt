-- SPDX-License-Identifier: Apache-2.0 OR MIT
-- The words of a command line: clap takes them, or refuses them.
use Rattle.std.specs.Prelude.{◌≡◌, ◌≢◌, List, [], map, true, String, string_bytes, Some}
use Rattle.std.specs.declared.alloc.Global.{Global}
use Rattle.clap.specs.Words.{Text, fault_of, takes}
use Rattle.cr_words.specs.Words.{confd_words}
use Rattle.cr_words.specs.Job.{NamedJob, job_of}

-- the bytes of each word
abbrev pub texts : List (String Global) → List Text
texts words = map string_bytes words

-- clap finds no fault in the words
abbrev pub AreTaken : List (String Global) → Type 0
AreTaken words = fault_of confd_words (texts words) ≡ []

-- clap finds a fault in the words, or they call for help
abbrev pub AreRefused : List (String Global) → Type 0
AreRefused words = fault_of confd_words (texts words) ≢ []

-- clap's own test, which holds of words that clap takes, holds of these
abbrev pub PassTest : List (String Global) → Type 0
PassTest words = takes confd_words (texts words) ≡ true

-- clap takes the words, and they name this job
pub record AreFor (words : List (String Global)) (job : NamedJob) : Type 0 where
  pub taken : AreTaken words
  pub named : job_of (texts words) ≡ Some job
