-- SPDX-License-Identifier: Apache-2.0 OR MIT
-- `serve` with other tests of its two numbers, which stay closed while clap's definitions compute.
use Rattle.std.proofs.Common.{◌≡◌, ◌∙◌, [], ◌∷◌, ◌&&◌, Bool, true, cond, List, Option, Some, refl, subst, arith, codes}
use Rattle.std.specs.Option.{option_and_then}
use Rattle.clap.specs.Words.{App, Rule, Text, fault_of, new_app, subcommand_of, takes, with_subcommand}
use Rattle.clap.specs.Kinds.{Kinds, or_else}
use Rattle.clap.specs.declared.builder.value_parser.ValueParser.{ValueParser}
use Rattle.clap.specs.declared.builder.value_parser.ValueParser.TheVariants.{Unsigned}
use Rattle.clap.specs.declared.error.kind.ErrorKind.{ErrorKind}
use Rattle.clap.specs.declared.error.kind.ErrorKind.TheVariants.{ValueValidation}
use Rattle.cr_words.specs.Words.{pipe, serve, view, drill, confd_words, required, text_option, with_rules, most_workers}
use Rattle.cr_words.specs.Words.{most_connections}
use Rattle.cr_words.specs.Numbers.{parse_number, number_of, are_workers, are_connections}
use Rattle.cr_words.specs.Job.{NamedJob, job_named, job_of, serve_job, with_all}
use Rattle.cr_words.proofs.Numbers.{is_number}
use Rattle.cr_words.proofs.Named.{all_there}

abbrev pub option_by : Text → ValueParser → Rule
option_by id p = record (text_option id true) { parser = Some p }

abbrev pub serve_by : ValueParser → ValueParser → App
serve_by p q = with_rules (new_app (codes "serve")) (text_option (codes "listen") true ∷ option_by (codes "workers") p
    ∷ option_by (codes "connections") q ∷ text_option (codes "store") true ∷ [])

abbrev pub words_by : ValueParser → ValueParser → App
words_by p q =
    with_subcommand
    (with_subcommand (with_subcommand (with_subcommand (required (new_app (codes "confd"))) pipe.top)
    (serve_by p q).top)
    view.top) drill.top

abbrev pub job_by : ValueParser → ValueParser → List Text → Option NamedJob
job_by p q words = option_and_then job_named (subcommand_of (words_by p q) words)

-- the two tests that there are
abbrev pub first_range : ValueParser
first_range = Unsigned 1 most_workers

abbrev pub second_range : ValueParser
second_range = Unsigned 1 most_connections

by_ranges : words_by first_range second_range ≡ confd_words
unfolding confd_words serve
by_ranges = refl

-- ---- what clap finds, by the answers of the two tests

-- the fault with a number, among those of its word
abbrev pub number_fault : ErrorKind → Bool → Kinds
number_fault k passes = or_else (or_else (cond passes [] (k ∷ [])) []) []

abbrev pub walk_faults : ErrorKind → ErrorKind → Bool → Bool → Kinds
walk_faults k l b c = or_else (number_fault k b) (or_else (number_fault l c) [])

abbrev pub faults_by : ErrorKind → ErrorKind → Bool → Bool → Kinds
faults_by k l b c = or_else (or_else (walk_faults k l b c) []) []

abbrev pub number_passes : Bool → Bool
number_passes b = (b && true) && true

abbrev pub walk_passes_by : Bool → Bool → Bool
walk_passes_by b c = number_passes b && (number_passes c && true)

abbrev pub passes_by : Bool → Bool → Bool
passes_by b c = (walk_passes_by b c && true) && true

-- ---- back to the two ranges

pub faults_are : (words : List Text) (workers connections : Text) (b c : Bool) → are_workers workers ≡ b
    → are_connections connections ≡ c
    → fault_of (words_by first_range second_range) words ≡ faults_by ValueValidation ValueValidation
    (are_workers workers) (are_connections connections)
    → fault_of confd_words words ≡ faults_by ValueValidation ValueValidation b c
faults_are words workers connections b c few some is =
    subst (λ (a : App). fault_of a words ≡ faults_by ValueValidation ValueValidation b c) by_ranges
    (is ∙ (λ i. faults_by ValueValidation ValueValidation (few i) (some i)))

pub both_pass : (words : List Text) (workers connections : Text) → are_workers workers ≡ true
    → are_connections connections ≡ true
    → takes (words_by first_range second_range) words ≡ passes_by (are_workers workers) (are_connections connections)
    → takes confd_words words ≡ true
both_pass words workers connections few some is =
    subst (λ (a : App). takes a words ≡ true) by_ranges (is ∙ (λ i. passes_by (few i) (some i)))

pub job_is : (words : List Text) (listen workers connections file : Text) → are_workers workers ≡ true
    → are_connections connections ≡ true
    → job_by first_range second_range words ≡ with_all (Some listen) (number_of workers) (number_of connections)
    (Some file)
    → job_of words ≡ Some (serve_job listen (parse_number workers) (parse_number connections) file)
unfolding confd_words serve
job_is words listen workers connections file few some is =
    let first = is_number 1 most_workers workers (omega arith) few in
    let second = is_number 1 most_connections connections (omega arith) some in
    is ∙ all_there _ _ _ _ listen (parse_number workers) (parse_number connections) file refl first.read second.read
    refl
