-- SPDX-License-Identifier: Apache-2.0 OR MIT
-- The job that the words name.
use Rattle.std.specs.Prelude.{◌≡◌, ℕ, ◌≤◌, ⊤, List, [], true, Option, Some, None, if◌then◌else◌, codes, option_map}
use Rattle.std.specs.Option.{option_and_then}
use Rattle.std.specs.Str.{bytes_eq}
use Rattle.clap.specs.Words.{Row, Text, fault_of, first_of, subcommand_of, takes}
use Rattle.cr_words.specs.Words.{confd_words, most_workers, most_connections, greatest_seed, most_steps}
use Rattle.cr_words.specs.Numbers.{number_of}
use Rattle.cr_words.specs.declared.read.Job.{Job}
use Rattle.cr_words.specs.declared.read.Job.TheVariants.{Pipe, Serve, View, Drill}

-- a job, with the texts and numbers of its options
pub data NamedJob : Type 0 where
  -- the store, where one is told
  pipe_job : Option Text → NamedJob
  -- the address, how many workers and connections, and the store
  serve_job : Text → ℕ → ℕ → Text → NamedJob
  -- the store and the user's name
  view_job : Text → Text → NamedJob
  -- the number that the choices begin with, and how many steps
  drill_job : ℕ → ℕ → NamedJob

-- the job that the program is handed, which lends its texts, as a value
abbrev pub job_seen : Job → NamedJob
job_seen (Pipe store) = pipe_job (option_map (λ s. s.now) store)
job_seen (Serve listen workers connections store) = serve_job listen.now workers connections store.now
job_seen (View store user) = view_job store.now user.now
job_seen (Drill seed steps) = drill_job seed steps

-- the job's numbers are within their ranges
abbrev pub IsInRange : NamedJob → Type 0
IsInRange (serve_job listen workers connections store) =
    (1 ≤ workers) × (workers ≤ most_workers) × (1 ≤ connections) × (connections ≤ most_connections)
IsInRange (drill_job seed steps) = (seed ≤ greatest_seed) × (1 ≤ steps) × (steps ≤ most_steps)
IsInRange _ = ⊤

-- a job is named, and its numbers are within their ranges
abbrev pub IsNamed : Option NamedJob → Type 0
IsNamed named = (job : NamedJob) × (named ≡ Some job) × IsInRange job

-- the job `serve` with these options, if all are there
abbrev pub with_all : Option Text → Option ℕ → Option ℕ → Option Text → Option NamedJob
with_all (Some listen) (Some workers) (Some connections) (Some store) =
    Some (serve_job listen workers connections store)
with_all _ _ _ _ = None

-- the number that the option of this name has; `None` if it isn't there, or is no number
abbrev pub number_at : Text → List Row → Option ℕ
number_at id rows = option_and_then number_of (first_of id rows)

-- the job `serve`, by the values of its options
abbrev pub serve_named : List Row → Option NamedJob
serve_named rows = with_all (first_of (codes "listen") rows) (number_at (codes "workers") rows)
    (number_at (codes "connections") rows) (first_of (codes "store") rows)

-- the job `view` with these options, if both are there
abbrev pub with_both : Option Text → Option Text → Option NamedJob
with_both (Some store) (Some user) = Some (view_job store user)
with_both _ _ = None

-- the job `view`, by the values of its options
abbrev pub view_named : List Row → Option NamedJob
view_named rows = with_both (first_of (codes "store") rows) (first_of (codes "user") rows)

-- the job `drill` with these options, if both are there
abbrev pub with_numbers : Option ℕ → Option ℕ → Option NamedJob
with_numbers (Some seed) (Some steps) = Some (drill_job seed steps)
with_numbers _ _ = None

-- the job `drill`, by the values of its options
abbrev pub drill_named : List Row → Option NamedJob
drill_named rows = with_numbers (number_at (codes "seed") rows) (number_at (codes "steps") rows)

-- the job of a subcommand, by its name and the values of its options
abbrev pub job_named : Text × List Row → Option NamedJob
job_named sub =
    if bytes_eq sub.0 (codes "pipe") then Some (pipe_job (first_of (codes "store") sub.1))
    else (if bytes_eq sub.0 (codes "serve") then serve_named sub.1
    else (if bytes_eq sub.0 (codes "view") then view_named sub.1
    else (if bytes_eq sub.0 (codes "drill") then drill_named sub.1 else None)))

-- the job of the subcommand that clap finds among the words
abbrev pub job_of : List Text → Option NamedJob
job_of words = option_and_then job_named (subcommand_of confd_words words)

-- clap finds no fault in these words, its own test passes, and they name this job
pub record AreTakenFor (words : List Text) (job : NamedJob) : Type 0 where
  pub taken : fault_of confd_words words ≡ []
  pub passes : takes confd_words words ≡ true
  pub named : job_of words ≡ Some job
