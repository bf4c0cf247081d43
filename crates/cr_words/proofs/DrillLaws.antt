-- SPDX-License-Identifier: Apache-2.0 OR MIT
-- The words of `drill`, by clap's own definitions: first with other tests of its two numbers, which stay closed
-- meanwhile.
use Rattle.std.proofs.Common.{◌≡◌, ◌∙◌, [], ◌∷◌, ◌&&◌, Bool, true, false, List, Option, Some, ap, refl, subst, arith}
use Rattle.std.proofs.Common.{codes}
use Rattle.std.specs.Option.{option_and_then}
use Rattle.clap.specs.Words.{App, Row, Shape, Text, fault_of, new_app, subcommand_of, takes, with_subcommand}
use Rattle.clap.specs.Values.{reading_of, refused_kind}
use Rattle.clap.specs.ValueTests.{accepts}
use Rattle.clap.specs.Kinds.{Kinds, or_else}
use Rattle.clap.specs.Walk.{Walk, finished, nothing_held, walk, walk_from}
use Rattle.clap.specs.Simple.{built, built_leaf, inherited}
use Rattle.clap.specs.Takes.{walk_passes}
use Rattle.clap.specs.Faults.{walk_fault}
use Rattle.clap.specs.declared.builder.value_parser.ValueParser.{ValueParser}
use Rattle.clap.specs.declared.builder.value_parser.ValueParser.TheVariants.{Unsigned}
use Rattle.clap.specs.declared.error.kind.ErrorKind.{ErrorKind}
use Rattle.clap.specs.declared.error.kind.ErrorKind.TheVariants.{ValueValidation}
use Rattle.clap.proofs.OnLiterals.{clap_on_literals}
use Rattle.cr_words.specs.Words.{pipe, serve, view, drill, confd_words, is_plain_text, required, with_rules}
use Rattle.cr_words.specs.Words.{greatest_seed, most_steps, drill_word, drill_words}
use Rattle.cr_words.specs.Numbers.{parse_number, number_of, is_seed, are_steps}
use Rattle.cr_words.specs.Job.{AreTakenFor, NamedJob, drill_job, job_named, job_of, with_numbers}
use Rattle.cr_words.proofs.Numbers.{is_number}
use Rattle.cr_words.proofs.Named.{numbers_there}
use Rattle.cr_words.proofs.ServeBy.{option_by, number_fault, faults_by, number_passes, passes_by}
use Rattle.cr_words.proofs.ServeLaws.{level_by, level_passes_by, row, held_with}
use Rattle.cr_words.proofs.Values.{number_plain, after_value, goes_on, faults_go_on, passes_on}

abbrev drill_by : ValueParser → ValueParser → App
drill_by p q = with_rules (new_app (codes "drill")) (option_by (codes "seed") p ∷ option_by (codes "steps") q ∷ [])

abbrev words_by : ValueParser → ValueParser → App
words_by p q =
    with_subcommand
    (with_subcommand (with_subcommand (with_subcommand (required (new_app (codes "confd"))) pipe.top) serve.top)
    view.top)
    (drill_by p q).top

abbrev job_by : ValueParser → ValueParser → List Text → Option NamedJob
job_by p q words = option_and_then job_named (subcommand_of (words_by p q) words)

-- the two tests that there are
abbrev first_range : ValueParser
first_range = Unsigned 0 greatest_seed

abbrev second_range : ValueParser
second_range = Unsigned 1 most_steps

by_ranges : words_by first_range second_range ≡ confd_words
unfolding confd_words drill
by_ranges = refl

abbrev two_words : Text → Text → Text → List Text
two_words name seed steps = name ∷ codes "drill" ∷ drill_words seed steps

abbrev one_word : Text → Text → Text → List Text
one_word name seed steps = name ∷ codes "drill" ∷ drill_word seed steps

-- ---- options as one word

module _ (p q : ValueParser) (name seed steps : Text) where
  attached_faults : fault_of (words_by p q) (one_word name seed steps) ≡ faults_by (refused_kind p) (refused_kind q)
      (accepts false p seed) (accepts false q steps)
  unfolding clap_on_literals pipe serve view
  attached_faults = refl

  attached_both : takes (words_by p q) (one_word name seed steps) ≡ passes_by (accepts false p seed)
      (accepts false q steps)
  unfolding clap_on_literals pipe serve view
  attached_both = refl

  attached_named : job_by p q (one_word name seed steps) ≡ with_numbers (number_of seed) (number_of steps)
  unfolding clap_on_literals pipe serve view
  attached_named = refl

-- ---- back to the two ranges

module _ (words : List Text) (seed steps : Text) (b c : Bool) (first : is_seed seed ≡ b)
    (second : are_steps steps ≡ c) where
  faults_are : (F : Bool → Bool → Kinds) → fault_of (words_by first_range second_range) words
      ≡ F (is_seed seed) (are_steps steps)
      → fault_of confd_words words ≡ F b c
  faults_are F is = subst (λ (a : App). fault_of a words ≡ F b c) by_ranges (is ∙ (λ i. F (first i) (second i)))

  both_pass : (G : Bool → Bool → Bool) → takes (words_by first_range second_range) words
      ≡ G (is_seed seed) (are_steps steps)
      → takes confd_words words ≡ G b c
  both_pass G is = subst (λ (a : App). takes a words ≡ G b c) by_ranges (is ∙ (λ i. G (first i) (second i)))

job_is : (words : List Text) (seed steps : Text) → is_seed seed ≡ true → are_steps steps ≡ true
    → job_by first_range second_range words ≡ with_numbers (number_of seed) (number_of steps)
    → job_of words ≡ Some (drill_job (parse_number seed) (parse_number steps))
unfolding confd_words drill
job_is words seed steps first second is =
    let a = is_number 0 greatest_seed seed (omega arith) first in
    let b = is_number 1 most_steps steps (omega arith) second in
    is ∙ numbers_there _ _ (parse_number seed) (parse_number steps) a.read b.read

module _ (name seed steps : Text) where
  attached : (b c : Bool) → is_seed seed ≡ b → are_steps steps ≡ c
      → fault_of confd_words (one_word name seed steps) ≡ faults_by ValueValidation ValueValidation b c
  attached b c first second = faults_are _ seed steps b c first second (faults_by ValueValidation ValueValidation)
      (attached_faults first_range second_range name seed steps)

  pub attached_taken : is_seed seed ≡ true → are_steps steps ≡ true
      → AreTakenFor (one_word name seed steps) (drill_job (parse_number seed) (parse_number steps))
  attached_taken first second = record {
    taken = attached true true first second;
    passes =
        both_pass _ seed steps true true first second passes_by
        (attached_both first_range second_range name seed steps);
    named = job_is _ seed steps first second (attached_named first_range second_range name seed steps);
  }

  pub attached_bad_seed : is_seed seed ≡ false → fault_of confd_words (one_word name seed steps) ≡ ValueValidation ∷ []
  attached_bad_seed bad = attached false (are_steps steps) bad refl

  pub attached_bad_steps : is_seed seed ≡ true → are_steps steps ≡ false
      → fault_of confd_words (one_word name seed steps) ≡ ValueValidation ∷ []
  attached_bad_steps first bad = attached true false first bad

-- ---- options as two words: the second number is used behind the walk

abbrev faults_apart : ErrorKind → ErrorKind → Bool → Bool → Kinds
faults_apart k l b c = or_else (or_else (or_else (number_fault k b) []) (number_fault l c)) []

abbrev passes_apart : Bool → Bool → Bool
passes_apart b c = ((number_passes b && true) && number_passes c) && true

module _ (p q : ValueParser) (name seed steps : Text) (seed_plain : is_plain_text seed ≡ true)
    (steps_plain : is_plain_text steps ≡ true) where
  abbrev leaf : Shape
  leaf = built_leaf (inherited (built (words_by p q)).top (drill_by p q).top)

  abbrev words : List Text
  words = drill_words seed steps

  abbrev from_steps : List Text
  from_steps = codes "--steps" ∷ steps ∷ []

  abbrev one_row : List Row
  one_row = row (codes "seed") seed (reading_of p) ∷ []

  -- the walk ends with the last option still to be used
  abbrev last : Walk
  last = after_value leaf.rules (codes "steps") steps (held_with one_row (codes "steps"))

  ends : walk leaf.rules [] nothing_held words ≡ last
  unfolding clap_on_literals pipe serve view
  ends = goes_on leaf (codes "seed") seed (held_with [] (codes "seed")) from_steps seed_plain
      ∙ goes_on leaf (codes "steps") steps (held_with one_row (codes "steps")) [] steps_plain

  abbrev first_fault : Kinds
  first_fault = number_fault (refused_kind p) (accepts false p seed)

  faults_walked : walk_fault leaf [] (walk_from nothing_held) words ≡ or_else first_fault []
  unfolding clap_on_literals pipe serve view
  faults_walked = faults_go_on leaf (codes "seed") seed (held_with [] (codes "seed")) from_steps seed_plain
      ∙ ap (or_else first_fault) (faults_go_on leaf (codes "steps") steps (held_with one_row (codes "steps")) []
      steps_plain)

  abbrev first_passes : Bool
  first_passes = number_passes (accepts false p seed)

  passes_walked : walk_passes leaf [] (walk_from nothing_held) words ≡ (first_passes && true)
  unfolding clap_on_literals pipe serve view
  passes_walked = passes_on leaf (codes "seed") seed (held_with [] (codes "seed")) from_steps seed_plain
      ∙ ap (λ (b : Bool). first_passes && b) (passes_on leaf (codes "steps") steps (held_with one_row (codes "steps"))
      [] steps_plain)

  level_faults : fault_of (words_by p q) (two_words name seed steps)
      ≡ or_else (level_by leaf (walk_fault leaf [] (walk_from nothing_held) words)
      (walk leaf.rules [] nothing_held words).held) []
  unfolding clap_on_literals pipe serve view
  level_faults = refl

  last_faults : or_else (level_by leaf (or_else first_fault []) last.held) []
      ≡ faults_apart (refused_kind p) (refused_kind q) (accepts false p seed) (accepts false q steps)
  unfolding clap_on_literals pipe serve view
  last_faults = refl

  faults : fault_of (words_by p q) (two_words name seed steps)
      ≡ faults_apart (refused_kind p) (refused_kind q) (accepts false p seed) (accepts false q steps)
  faults = level_faults ∙ ((λ i. or_else (level_by leaf (faults_walked i) (ends i).held) []) ∙ last_faults)

  level_passes : takes (words_by p q) (two_words name seed steps)
      ≡ (level_passes_by leaf (walk_passes leaf [] (walk_from nothing_held) words)
      (walk leaf.rules [] nothing_held words).held && true)
  unfolding clap_on_literals pipe serve view
  level_passes = refl

  last_passes : (level_passes_by leaf (first_passes && true) last.held && true) ≡ passes_apart (accepts false p seed)
      (accepts false q steps)
  unfolding clap_on_literals pipe serve view
  last_passes = refl

  both : takes (words_by p q) (two_words name seed steps) ≡ passes_apart (accepts false p seed) (accepts false q steps)
  both = level_passes ∙ ((λ i. level_passes_by leaf (passes_walked i) (ends i).held && true) ∙ last_passes)

  level_named : job_by p q (two_words name seed steps)
      ≡ job_named (codes "drill", finished leaf.rules (walk leaf.rules [] nothing_held words).held)
  unfolding clap_on_literals pipe serve view
  level_named = refl

  last_named : job_named (codes "drill", finished leaf.rules last.held) ≡ with_numbers (number_of seed)
      (number_of steps)
  unfolding clap_on_literals pipe serve view
  last_named = refl

  named : job_by p q (two_words name seed steps) ≡ with_numbers (number_of seed) (number_of steps)
  named = level_named ∙ (ap (λ (w : Walk). job_named (codes "drill", finished leaf.rules w.held)) ends ∙ last_named)

module _ (name seed steps : Text) where
  apart : is_plain_text seed ≡ true → is_plain_text steps ≡ true → (b c : Bool) → is_seed seed ≡ b → are_steps steps ≡ c
      → fault_of confd_words (two_words name seed steps) ≡ faults_apart ValueValidation ValueValidation b c
  apart seed_plain steps_plain b c first second =
      faults_are _ seed steps b c first second (faults_apart ValueValidation ValueValidation)
      (faults first_range second_range name seed steps seed_plain steps_plain)

  pub taken : is_seed seed ≡ true → are_steps steps ≡ true
      → AreTakenFor (two_words name seed steps) (drill_job (parse_number seed) (parse_number steps))
  taken first second =
      let seed_plain = number_plain 0 greatest_seed seed first in
      let steps_plain = number_plain 1 most_steps steps second in
      record {
        taken = apart seed_plain steps_plain true true first second;
        passes = both_pass _ seed steps true true first second passes_apart
            (both first_range second_range name seed steps seed_plain steps_plain);
        named =
            job_is _ seed steps first second (named first_range second_range name seed steps seed_plain steps_plain);
      }

  pub bad_seed : is_plain_text seed ≡ true → is_plain_text steps ≡ true → is_seed seed ≡ false
      → fault_of confd_words (two_words name seed steps) ≡ ValueValidation ∷ []
  bad_seed seed_plain steps_plain bad = apart seed_plain steps_plain false (are_steps steps) bad refl

  pub bad_steps : is_plain_text steps ≡ true → is_seed seed ≡ true → are_steps steps ≡ false
      → fault_of confd_words (two_words name seed steps) ≡ ValueValidation ∷ []
  bad_steps steps_plain first bad = apart (number_plain 0 greatest_seed seed first) steps_plain true false first bad
