-- SPDX-License-Identifier: Apache-2.0 OR MIT
-- The words of `serve`, by clap's own definitions.
use Rattle.std.proofs.Common.{◌≡◌, ◌∙◌, [], ◌∷◌, ◌&&◌, Bool, true, false, List, Some, None, ap, refl, codes}
use Rattle.std.specs.List.{list_all}
use Rattle.clap.specs.Words.{Row, Shape, Text, fault_of, takes}
use Rattle.clap.specs.Values.{reading_of, refused_kind}
use Rattle.clap.specs.ValueTests.{accepts}
use Rattle.clap.specs.Kinds.{Kinds, or_else}
use Rattle.clap.specs.Walk.{Held, Walk, finished, nothing_held, settled, walk, walk_from}
use Rattle.clap.specs.Simple.{built, built_leaf, inherited}
use Rattle.clap.specs.Takes.{default_passes, is_valid, settle_passes, walk_passes}
use Rattle.clap.specs.Faults.{check_fault, defaults_fault, settle_fault, walk_fault}
use Rattle.clap.specs.declared.builder.value_parser.Reading.{Reading}
use Rattle.clap.specs.declared.builder.value_parser.Reading.TheVariants.{AsWritten}
use Rattle.clap.specs.declared.builder.value_parser.ValueParser.{ValueParser}
use Rattle.clap.specs.declared.error.kind.ErrorKind.TheVariants.{ValueValidation}
use Rattle.clap.specs.declared.parser.matches.ValueSource.TheVariants.{CommandLine}
use Rattle.clap.proofs.OnLiterals.{clap_on_literals}
use Rattle.cr_words.specs.Words.{pipe, view, drill, confd_words, is_plain_text, most_workers, most_connections}
use Rattle.cr_words.specs.Words.{serve_word, serve_words, store_words}
use Rattle.cr_words.specs.Numbers.{parse_number, number_of, are_workers, are_connections}
use Rattle.cr_words.specs.Job.{AreTakenFor, job_named, serve_job, with_all}
use Rattle.cr_words.proofs.ServeBy.{serve_by, words_by, job_by, first_range, second_range, number_fault, walk_faults}
use Rattle.cr_words.proofs.ServeBy.{faults_by, number_passes, walk_passes_by, passes_by, faults_are, both_pass, job_is}
use Rattle.cr_words.proofs.Values.{number_plain, after_value, goes_on, faults_go_on, passes_on}

abbrev two_words : Text → Text → Text → Text → Text → List Text
two_words name listen workers connections file = name ∷ codes "serve" ∷ serve_words listen workers connections file

abbrev one_word : Text → Text → Text → Text → Text → List Text
one_word name listen workers connections file = name ∷ codes "serve" ∷ serve_word listen workers connections file

-- ---- options as one word

module _ (p q : ValueParser) (name listen workers connections file : Text) where
  attached_faults : fault_of (words_by p q) (one_word name listen workers connections file)
      ≡ faults_by (refused_kind p) (refused_kind q) (accepts false p workers) (accepts false q connections)
  unfolding clap_on_literals pipe view drill
  attached_faults = refl

  attached_both : takes (words_by p q) (one_word name listen workers connections file)
      ≡ passes_by (accepts false p workers) (accepts false q connections)
  unfolding clap_on_literals pipe view drill
  attached_both = refl

  attached_named : job_by p q (one_word name listen workers connections file) ≡ with_all (Some listen)
      (number_of workers) (number_of connections) (Some file)
  unfolding clap_on_literals pipe view drill
  attached_named = refl

module _ (name listen workers connections file : Text) where
  attached : (b c : Bool) → are_workers workers ≡ b → are_connections connections ≡ c
      → fault_of confd_words (one_word name listen workers connections file) ≡ faults_by ValueValidation ValueValidation
      b c
  attached b c few some = faults_are _ workers connections b c few some
      (attached_faults first_range second_range name listen workers connections file)

  pub attached_taken : are_workers workers ≡ true → are_connections connections ≡ true
      → AreTakenFor (one_word name listen workers connections file)
      (serve_job listen (parse_number workers) (parse_number connections) file)
  attached_taken few some = record {
    taken = attached true true few some;
    passes = both_pass _ workers connections few some
        (attached_both first_range second_range name listen workers connections file);
    named = job_is _ listen workers connections file few some
        (attached_named first_range second_range name listen workers connections file);
  }

  pub attached_bad_workers : are_workers workers ≡ false
      → fault_of confd_words (one_word name listen workers connections file) ≡ ValueValidation ∷ []
  attached_bad_workers many = attached false (are_connections connections) many refl

  pub attached_bad_connections : are_workers workers ≡ true → are_connections connections ≡ false
      → fault_of confd_words (one_word name listen workers connections file) ≡ ValueValidation ∷ []
  attached_bad_connections few many = attached true false few many

-- ---- options as two words: a level by its walk and by where that ends

abbrev pub level_by : Shape → Kinds → Held → Kinds
level_by s walks end = or_else walks (or_else [] (or_else (settle_fault s.rules s.args_override_self end)
    (or_else (defaults_fault (settled s.rules end).rows s.rules) (check_fault s (finished s.rules end) false))))

abbrev pub level_passes_by : Shape → Bool → Held → Bool
level_passes_by s walks end =
    walks && (settle_passes s.rules s.args_override_self end
    && (list_all default_passes s.rules && is_valid s (finished s.rules end) false))

abbrev pub row : Text → Text → Reading → Row
row id v how = record { id = id; values = v ∷ []; count = None; source = Some CommandLine; reading = how }

-- these rows, and an option that waits
abbrev pub held_with : List Row → Text → Held
held_with rows id = record { rows = rows; pending = Some (id, []); skip = 0 }

module _ (p q : ValueParser) (name listen workers connections file : Text) (listen_plain : is_plain_text listen ≡ true)
    (workers_plain : is_plain_text workers ≡ true) (connections_plain : is_plain_text connections ≡ true)
    (file_plain : is_plain_text file ≡ true) where
  abbrev leaf : Shape
  leaf = built_leaf (inherited (built (words_by p q)).top (serve_by p q).top)

  abbrev words : List Text
  words = serve_words listen workers connections file

  abbrev from_workers : List Text
  from_workers = codes "--workers" ∷ workers ∷ codes "--connections" ∷ connections ∷ store_words file

  abbrev from_connections : List Text
  from_connections = codes "--connections" ∷ connections ∷ store_words file

  abbrev one_row : List Row
  one_row = row (codes "listen") listen AsWritten ∷ []

  abbrev two_rows : List Row
  two_rows = row (codes "listen") listen AsWritten ∷ row (codes "workers") workers (reading_of p) ∷ []

  abbrev three_rows : List Row
  three_rows = row (codes "listen") listen AsWritten ∷ row (codes "workers") workers (reading_of p)
      ∷ row (codes "connections") connections (reading_of q) ∷ []

  -- the walk ends with the last option still to be used
  abbrev last : Walk
  last = after_value leaf.rules (codes "store") file (held_with three_rows (codes "store"))

  ends : walk leaf.rules [] nothing_held words ≡ last
  unfolding clap_on_literals pipe view drill
  ends = goes_on leaf (codes "listen") listen (held_with [] (codes "listen")) from_workers listen_plain
      ∙ (goes_on leaf (codes "workers") workers (held_with one_row (codes "workers")) from_connections workers_plain
      ∙ (goes_on leaf (codes "connections") connections (held_with two_rows (codes "connections")) (store_words file)
      connections_plain
      ∙ goes_on leaf (codes "store") file (held_with three_rows (codes "store")) [] file_plain))

  abbrev first_fault : Kinds
  first_fault = number_fault (refused_kind p) (accepts false p workers)

  abbrev second_fault : Kinds
  second_fault = number_fault (refused_kind q) (accepts false q connections)

  faults_walked : walk_fault leaf [] (walk_from nothing_held) words
      ≡ walk_faults (refused_kind p) (refused_kind q) (accepts false p workers) (accepts false q connections)
  unfolding clap_on_literals pipe view drill
  faults_walked = faults_go_on leaf (codes "listen") listen (held_with [] (codes "listen")) from_workers listen_plain
      ∙ (faults_go_on leaf (codes "workers") workers (held_with one_row (codes "workers")) from_connections
      workers_plain
      ∙
      (ap (or_else first_fault) (faults_go_on leaf (codes "connections") connections
      (held_with two_rows (codes "connections"))
      (store_words file) connections_plain)
      ∙ ap (λ (k : Kinds). or_else first_fault (or_else second_fault k))
      (faults_go_on leaf (codes "store") file (held_with three_rows (codes "store")) [] file_plain)))

  abbrev first_passes : Bool
  first_passes = number_passes (accepts false p workers)

  abbrev second_passes : Bool
  second_passes = number_passes (accepts false q connections)

  passes_walked : walk_passes leaf [] (walk_from nothing_held) words ≡ walk_passes_by (accepts false p workers)
      (accepts false q connections)
  unfolding clap_on_literals pipe view drill
  passes_walked = passes_on leaf (codes "listen") listen (held_with [] (codes "listen")) from_workers listen_plain
      ∙ (passes_on leaf (codes "workers") workers (held_with one_row (codes "workers")) from_connections workers_plain
      ∙
      (ap (λ (b : Bool). first_passes && b) (passes_on leaf (codes "connections") connections
      (held_with two_rows (codes "connections"))
      (store_words file) connections_plain)
      ∙ ap (λ (b : Bool). first_passes && (second_passes && b))
      (passes_on leaf (codes "store") file (held_with three_rows (codes "store")) [] file_plain)))

  -- the whole is its one level below the top
  level_faults : fault_of (words_by p q) (two_words name listen workers connections file)
      ≡ or_else (level_by leaf (walk_fault leaf [] (walk_from nothing_held) words)
      (walk leaf.rules [] nothing_held words).held) []
  unfolding clap_on_literals pipe view drill
  level_faults = refl

  last_faults : or_else
      (level_by leaf (walk_faults (refused_kind p) (refused_kind q) (accepts false p workers)
      (accepts false q connections)) last.held) []
      ≡ faults_by (refused_kind p) (refused_kind q) (accepts false p workers) (accepts false q connections)
  unfolding clap_on_literals pipe view drill
  last_faults = refl

  faults : fault_of (words_by p q) (two_words name listen workers connections file)
      ≡ faults_by (refused_kind p) (refused_kind q) (accepts false p workers) (accepts false q connections)
  faults = level_faults ∙ ((λ i. or_else (level_by leaf (faults_walked i) (ends i).held) []) ∙ last_faults)

  level_passes : takes (words_by p q) (two_words name listen workers connections file)
      ≡ (level_passes_by leaf (walk_passes leaf [] (walk_from nothing_held) words)
      (walk leaf.rules [] nothing_held words).held && true)
  unfolding clap_on_literals pipe view drill
  level_passes = refl

  last_passes : (level_passes_by leaf (walk_passes_by (accepts false p workers) (accepts false q connections)) last.held
      && true)
      ≡ passes_by (accepts false p workers) (accepts false q connections)
  unfolding clap_on_literals pipe view drill
  last_passes = refl

  both : takes (words_by p q) (two_words name listen workers connections file) ≡ passes_by (accepts false p workers)
      (accepts false q connections)
  both = level_passes ∙ ((λ i. level_passes_by leaf (passes_walked i) (ends i).held && true) ∙ last_passes)

  level_named : job_by p q (two_words name listen workers connections file)
      ≡ job_named (codes "serve", finished leaf.rules (walk leaf.rules [] nothing_held words).held)
  unfolding clap_on_literals pipe view drill
  level_named = refl

  last_named : job_named (codes "serve", finished leaf.rules last.held) ≡ with_all (Some listen) (number_of workers)
      (number_of connections) (Some file)
  unfolding clap_on_literals pipe view drill
  last_named = refl

  named : job_by p q (two_words name listen workers connections file) ≡ with_all (Some listen) (number_of workers)
      (number_of connections) (Some file)
  named = level_named ∙ (ap (λ (w : Walk). job_named (codes "serve", finished leaf.rules w.held)) ends ∙ last_named)

module _ (name listen workers connections file : Text) (listen_plain : is_plain_text listen ≡ true)
    (file_plain : is_plain_text file ≡ true) where
  apart : is_plain_text workers ≡ true → is_plain_text connections ≡ true → (b c : Bool) → are_workers workers ≡ b
      → are_connections connections ≡ c
      → fault_of confd_words (two_words name listen workers connections file) ≡ faults_by ValueValidation
      ValueValidation b c
  apart workers_plain connections_plain b c few some = faults_are _ workers connections b c few some
      (faults first_range second_range name listen workers connections file listen_plain workers_plain connections_plain
      file_plain)

  pub taken : are_workers workers ≡ true → are_connections connections ≡ true
      → AreTakenFor (two_words name listen workers connections file)
      (serve_job listen (parse_number workers) (parse_number connections) file)
  taken few some =
      let workers_plain = number_plain 1 most_workers workers few in
      let connections_plain = number_plain 1 most_connections connections some in
      record {
        taken = apart workers_plain connections_plain true true few some;
        passes = both_pass _ workers connections few some
            (both first_range second_range name listen workers connections file listen_plain workers_plain
            connections_plain file_plain);
        named = job_is _ listen workers connections file few some
            (named first_range second_range name listen workers connections file listen_plain workers_plain
            connections_plain file_plain);
      }

  pub bad_workers : is_plain_text workers ≡ true → is_plain_text connections ≡ true → are_workers workers ≡ false
      → fault_of confd_words (two_words name listen workers connections file) ≡ ValueValidation ∷ []
  bad_workers workers_plain connections_plain many =
      apart workers_plain connections_plain false (are_connections connections) many refl

  pub bad_connections : is_plain_text connections ≡ true → are_workers workers ≡ true
      → are_connections connections ≡ false
      → fault_of confd_words (two_words name listen workers connections file) ≡ ValueValidation ∷ []
  bad_connections connections_plain few many =
      apart (number_plain 1 most_workers workers few) connections_plain true false few many
