-- SPDX-License-Identifier: Apache-2.0 OR MIT
-- Words that the command takes name one of its jobs, whose numbers lie within their ranges.
use Rattle.std.proofs.Common.{◌≡◌, ◌≢◌, ◌∙◌, ℕ, arith, ◌&&◌, ◌||◌, List, [], ◌∷◌, Bool, true, false, not, cond, Option}
use Rattle.std.proofs.Common.{Some, None, is_some, inl, inr, Result, Err, IfOk, refl, sym, ap, subst, codes}
use Rattle.std.specs.Prelude.{option_map}
use Rattle.std.specs.Str.{bytes_eq}
use Rattle.std.specs.Option.{option_and_then, option_map_or, ok_or}
use Rattle.std.specs.List.{list_any}
use Rattle.clap.specs.Facts.{explicit_source}
use Rattle.clap.specs.Words.{App, Row, Shape, Text, fault_of, first_of, built, is_simple, subcommand_of, takes}
use Rattle.clap.specs.Walk.{answers_to, nothing_held, rows_after, stop_after}
use Rattle.clap.specs.Simple.{argument_words, built_leaf, entered, inherited, label_of, names_of, rows_at}
use Rattle.clap.specs.Kinds.{check_kinds}
use Rattle.clap.specs.declared.error.kind.ErrorKind.{ErrorKind}
use Rattle.clap.specs.Takes.{is_given}
use Rattle.clap.specs.Faults.{check_fault, entered_fault, level_fault}
use Rattle.clap.proofs.OnLiterals.{clap_on_literals}
use Rattle.cr_words.specs.Words.{pipe, serve, view, drill, confd_words}
use Rattle.cr_words.specs.Job.{NamedJob, serve_job, view_job, IsInRange, IsNamed, job_named, job_of, job_seen}
use Rattle.cr_words.specs.Job.{number_at, serve_named, view_named, with_all, with_both, with_numbers, drill_job}
use Rattle.cr_words.specs.Job.{drill_named}
use Rattle.cr_words.specs.Numbers.{parse_number, number_of, are_workers, are_connections, is_seed, are_steps}
use Rattle.cr_words.proofs.Numbers.{IsNumber, is_number}
use Rattle.cr_words.specs.declared.read.Job.{Job}
use Rattle.cr_words.specs.declared.read.WordsError.{WordsError}
use Rattle.cr_words.specs.declared.read.WordsError.TheVariants.{Usage}
use Rattle.cr_words.proofs.Filled.{ArePlainRules, given_first, level_of}

-- ---- what the last check asks for

wants : (help subcommand argument : Bool) → subcommand ≡ true → check_kinds help subcommand argument ≡ [] → ⊥
wants true subcommand argument is e = cc
wants false true argument is e = cc
wants false false argument is e = cc

enters : (s : Shape) (rows : List Row) (has_subcommand : Bool) → s.subcommand_required ≡ true
    → check_fault s rows has_subcommand ≡ [] → has_subcommand ≡ true
enters s rows true required e = refl
enters s rows false required e = absurd (wants _ _ _ required e)

none_wanted : (help subcommand argument : Bool) → check_kinds help subcommand argument ≡ [] → argument ≡ false
none_wanted help subcommand false is = refl
none_wanted true subcommand true is = cc
none_wanted false true true is = cc
none_wanted false false true is = cc

options_are_there : (s : Shape) (rows : List Row) (has_subcommand : Bool) → check_fault s rows has_subcommand ≡ []
    → (not (s.subcommand_negates_reqs && has_subcommand) && list_any (λ a. a.required && not (is_given a.id rows))
    s.rules) ≡ false
options_are_there s rows has_subcommand e =
    none_wanted
    (not has_subcommand && (s.arg_required_else_help && not (list_any (λ r. explicit_source r.source) rows)))
    (not has_subcommand && s.subcommand_required) _ e

both_given : (a b : Bool) → (not a || (not b || false)) ≡ false → (a ≡ true) × (b ≡ true)
both_given true true is = (refl, refl)
both_given true false is = cc
both_given false b is = cc

four_given : (a b c d : Bool) → (not a || (not b || (not c || (not d || false)))) ≡ false → (a ≡ true) × (b ≡ true)
    × (c ≡ true) × (d ≡ true)
four_given true true true true is = (refl, refl, refl, refl)
four_given true true true false is = cc
four_given true true false d is = cc
four_given true false c d is = cc
four_given false b c d is = cc

-- ---- what is known of the values

-- a number's text is one that clap takes
abbrev Passes : Text → Text → Type 0
Passes id v = (bytes_eq id (codes "workers") ≡ true → are_workers v ≡ true)
    × (bytes_eq id (codes "connections") ≡ true → are_connections v ≡ true)
    × (bytes_eq id (codes "seed") ≡ true → is_seed v ≡ true) × (bytes_eq id (codes "steps") ≡ true → are_steps v ≡ true)

never : (c : Bool) → false ≡ true → c ≡ true
never c e = cc

-- a text that is no number's
any_text : (v : Text) → (false ≡ true → are_workers v ≡ true) × (false ≡ true → are_connections v ≡ true)
    × (false ≡ true → is_seed v ≡ true) × (false ≡ true → are_steps v ≡ true)
any_text v = (never (are_workers v), never (are_connections v), never (is_seed v), never (are_steps v))

no_kinds : (passes : Bool) (k : ErrorKind) → cond passes [] (k ∷ []) ≡ [] → passes ≡ true
no_kinds true k e = refl
no_kinds false k e = cc

number_there : (id : Text) (rows : List Row) (v : Text) (low high : ℕ)
    → first_of id rows ≡ Some v → IsNumber low high v → number_at id rows ≡ Some (parse_number v)
number_there id rows v low high is number = ap (λ (t : Option Text). option_and_then number_of t) is ∙ number.read

pub all_there : (a : Option Text) (m n : Option ℕ) (b : Option Text) (listen : Text) (workers connections : ℕ)
    (store : Text)
    → a ≡ Some listen → m ≡ Some workers → n ≡ Some connections → b ≡ Some store
    → with_all a m n b ≡ Some (serve_job listen workers connections store)
all_there a m n b listen workers connections store e f g h = rw (e, f, g, h) refl

both_there : (a b : Option Text) (store user : Text) → a ≡ Some store → b ≡ Some user
    → with_both a b ≡ Some (view_job store user)
both_there a b store user e f = rw (e, f) refl

pub numbers_there : (a b : Option ℕ) (seed steps : ℕ) → a ≡ Some seed → b ≡ Some steps
    → with_numbers a b ≡ Some (drill_job seed steps)
numbers_there a b seed steps e f = rw (e, f) refl

-- ---- the command as it is built

abbrev top : Shape
top = (built confd_words).top

abbrev pipe_built : Shape
pipe_built = built_leaf (inherited top pipe.top)

abbrev serve_built : Shape
serve_built = built_leaf (inherited top serve.top)

abbrev view_built : Shape
view_built = built_leaf (inherited top view.top)

abbrev drill_built : Shape
drill_built = built_leaf (inherited top drill.top)

top_plain : ArePlainRules Passes top.rules
unfolding confd_words pipe serve view drill
top_plain = ((inr refl, refl), tt)

serve_plain : ArePlainRules Passes serve_built.rules
unfolding confd_words pipe serve view drill
serve_plain = (
  (inl (refl, refl, λ v _. any_text v), refl),
  (
    (
      inl (
        refl,
        refl,
        λ v none. (
          λ _. no_kinds (are_workers v) _ none,
          never (are_connections v),
          never (is_seed v),
          never (are_steps v),
        ),
      ),
      refl,
    ),
    (
      (
        inl (
          refl,
          refl,
          λ v none. (
            never (are_workers v),
            λ _. no_kinds (are_connections v) _ none,
            never (is_seed v),
            never (are_steps v),
          ),
        ),
        refl,
      ),
      ((inl (refl, refl, λ v _. any_text v), refl), ((inr refl, refl), tt)),
    ),
  ),
)

view_plain : ArePlainRules Passes view_built.rules
unfolding confd_words pipe serve view drill
view_plain = (
  (inl (refl, refl, λ v _. any_text v), refl),
  ((inl (refl, refl, λ v _. any_text v), refl), ((inr refl, refl), tt)),
)

drill_plain : ArePlainRules Passes drill_built.rules
unfolding confd_words pipe serve view drill
drill_plain = (
  (
    inl (
      refl,
      refl,
      λ v none. (
        never (are_workers v),
        never (are_connections v),
        λ _. no_kinds (is_seed v) _ none,
        never (are_steps v),
      ),
    ),
    refl,
  ),
  (
    (
      inl (
        refl,
        refl,
        λ v none. (
          never (are_workers v),
          never (are_connections v),
          never (is_seed v),
          λ _. no_kinds (are_steps v) _ none,
        ),
      ),
      refl,
    ),
    ((inr refl, refl), tt),
  ),
)

-- `serve` has all its options where it has no fault, and its numbers lie within their ranges
serve_is_whole : (rest : List Text) → level_fault serve_built [] nothing_held rest false [] ≡ []
    → IsNamed (serve_named (rows_after serve_built.rules [] rest))
unfolding confd_words pipe serve view drill
serve_is_whole rest e =
    let rows = rows_after serve_built.rules [] rest in
    let level = level_of Passes serve_built [] rest false [] serve_plain e in
    let given = four_given (is_given (codes "listen") rows) (is_given (codes "workers") rows)
    (is_given (codes "connections") rows)
    (is_given (codes "store") rows) (options_are_there serve_built rows false level.checked) in
    let listen = given_first Passes (codes "listen") rows level.filled given.0 in
    let workers = given_first Passes (codes "workers") rows level.filled given.1 in
    let connections = given_first Passes (codes "connections") rows level.filled given.2 in
    let store = given_first Passes (codes "store") rows level.filled given.3 in
    let few = is_number 1 64 workers.0 (omega arith) (workers.2.2.0 workers.2.1) in
    let some = is_number 1 65536 connections.0 (omega arith) (connections.2.2.1 connections.2.1) in (
      serve_job listen.0 (parse_number workers.0) (parse_number connections.0) store.0,
      all_there _ _ _ _ _ _ _ _ listen.1 (number_there _ rows _ 1 64 workers.1 few)
          (number_there _ rows _ 1 65536 connections.1 some) store.1,
      (few.low_enough, few.high_enough, some.low_enough, some.high_enough),
    )

-- `view` has both its options where it has no fault
view_is_whole : (rest : List Text) → level_fault view_built [] nothing_held rest false [] ≡ []
    → IsNamed (view_named (rows_after view_built.rules [] rest))
unfolding confd_words pipe serve view drill
view_is_whole rest e =
    let rows = rows_after view_built.rules [] rest in
    let level = level_of Passes view_built [] rest false [] view_plain e in
    let given = both_given (is_given (codes "store") rows) (is_given (codes "user") rows)
    (options_are_there view_built rows false level.checked) in
    let store = given_first Passes (codes "store") rows level.filled given.0 in
    let user = given_first Passes (codes "user") rows level.filled given.1 in
    (view_job store.0 user.0, both_there _ _ _ _ store.1 user.1, tt)

-- `drill` has both its numbers where it has no fault, and they lie within their ranges
drill_is_whole : (rest : List Text) → level_fault drill_built [] nothing_held rest false [] ≡ []
    → IsNamed (drill_named (rows_after drill_built.rules [] rest))
unfolding confd_words pipe serve view drill
drill_is_whole rest e =
    let rows = rows_after drill_built.rules [] rest in
    let level = level_of Passes drill_built [] rest false [] drill_plain e in
    let given = both_given (is_given (codes "seed") rows) (is_given (codes "steps") rows)
    (options_are_there drill_built rows false level.checked) in
    let seed = given_first Passes (codes "seed") rows level.filled given.0 in
    let steps = given_first Passes (codes "steps") rows level.filled given.1 in
    let first = is_number 0 2147483647 seed.0 (omega arith) (seed.2.2.2 seed.2.1) in
    let many = is_number 1 100000 steps.0 (omega arith) (steps.2.2.3 steps.2.1) in (
      drill_job (parse_number seed.0) (parse_number steps.0),
      numbers_there _ _ _ _ (number_there _ rows _ 0 2147483647 seed.1 first)
          (number_there _ rows _ 1 100000 steps.1 many),
      (first.high_enough, many.low_enough, many.high_enough),
    )

-- ---- each subcommand has its job

pipe_is_named : (p : Text × List Row) → p.0 ≡ codes "pipe" → IsNamed (job_named p)
pipe_is_named p e = rw e (_, refl, tt)

serve_is_named : (p : Text × List Row) → p.0 ≡ codes "serve" → IsNamed (serve_named p.1) → IsNamed (job_named p)
serve_is_named p e named = rw e named

view_is_named : (p : Text × List Row) → p.0 ≡ codes "view" → IsNamed (view_named p.1) → IsNamed (job_named p)
view_is_named p e named = rw e named

drill_is_named : (p : Text × List Row) → p.0 ≡ codes "drill" → IsNamed (drill_named p.1) → IsNamed (job_named p)
drill_is_named p e named = rw e named

-- ways in which a level without a fault names its job
abbrev NamesBy : Shape → (List Row → Option NamedJob) → List Text → Type 0
NamesBy t named rest = level_fault t [] nothing_held rest false [] ≡ [] → IsNamed (named (rows_after t.rules [] rest))

module _ (s t u v : Shape) (word : Text) (rest : List Text)
    (s_name : s.name ≡ codes "pipe") (t_name : t.name ≡ codes "serve") (u_name : u.name ≡ codes "view")
    (v_name : v.name ≡ codes "drill") (t_whole : NamesBy t serve_named rest) (u_whole : NamesBy u view_named rest)
    (v_whole : NamesBy v drill_named rest) where
  abbrev by_name : Bool → Bool → Bool → Bool → Option Shape
  by_name first second third fourth =
      cond first (Some s) (cond second (Some t) (cond third (Some u) (cond fourth (Some v) None)))

  found_entry : (first second third fourth : Bool)
      → option_map_or (λ (w : Shape). level_fault w [] nothing_held rest false []) (by_name first second third fourth)
      [] ≡ []
      → is_some (option_map (λ (w : Shape). rows_at w rest) (by_name first second third fourth)) ≡ true
      → IsNamed
      (option_and_then job_named (option_map (λ (w : Shape). rows_at w rest) (by_name first second third fourth)))
  found_entry true second third fourth none some = pipe_is_named (rows_at s rest) s_name
  found_entry false true third fourth none some = serve_is_named (rows_at t rest) t_name (t_whole none)
  found_entry false false true fourth none some = view_is_named (rows_at u rest) u_name (u_whole none)
  found_entry false false false true none some = drill_is_named (rows_at v rest) v_name (v_whole none)
  found_entry false false false false none some = absurd (no_entry some)
    where
      no_entry : false ≡ true → ⊥
      no_entry e = cc

entry_is_named : (a : App) (s t u v : Shape) (stop : Option (Text × List Text)) → a.subs ≡ s ∷ t ∷ u ∷ v ∷ []
    → s.name ≡ codes "pipe" → t.name ≡ codes "serve" → u.name ≡ codes "view" → v.name ≡ codes "drill"
    → ((rest : List Text) → NamesBy t serve_named rest) → ((rest : List Text) → NamesBy u view_named rest)
    → ((rest : List Text) → NamesBy v drill_named rest)
    → entered_fault a stop ≡ [] → is_some (entered a stop) ≡ true → IsNamed (option_and_then job_named (entered a stop))
entry_is_named a s t u v None subs s_name t_name u_name v_name t_whole u_whole v_whole none some =
    absurd (not_some some)
  where
    not_some : false ≡ true → ⊥
    not_some e = cc
entry_is_named a s t u v (Some p) subs s_name t_name u_name v_name t_whole u_whole v_whole none some =
    rw subs (found_entry s t u v p.0 p.1 s_name t_name u_name v_name (t_whole p.1) (u_whole p.1) (v_whole p.1)
    (answers_to p.0 (label_of s)) (answers_to p.0 (label_of t)) (answers_to p.0 (label_of u))
    (answers_to p.0 (label_of v)) (rw subs at none)
    (rw subs at some))

pub names_a_job : (words : List Text) → fault_of confd_words words ≡ [] → IsNamed (job_of words)
unfolding confd_words pipe serve view drill
names_a_job words e =
    let app = built confd_words in
    let stop = stop_after app.top.rules (names_of app) (argument_words confd_words words) in
    let given = argument_words confd_words words in
    let level =
    level_of Passes app.top (names_of app) given (is_some (entered app stop)) (entered_fault app stop) top_plain e in
    entry_is_named app pipe_built serve_built view_built drill_built stop refl refl refl refl refl serve_is_whole
    view_is_whole drill_is_whole
    level.below_none
    (enters app.top (rows_after app.top.rules (names_of app) given) (is_some (entered app stop)) refl level.checked)

-- ---- what is answered to words that clap takes

pub record Answered (words : List Text) (r : Result Job WordsError) : Type 0 where
  pub job : IfOk r (λ j. job_of words ≡ Some (job_seen j))
  pub ranges : IfOk r (λ j. IsInRange (job_seen j))
  pub taken : IfOk r (λ _. fault_of confd_words words ≡ [])
  pub refused : r ≡ Err Usage → fault_of confd_words words ≢ []
  pub passes : takes confd_words words ≡ true → r ≢ Err Usage

by_job : (words : List Text) (o : Option Job) → option_map job_seen o ≡ job_of words → IsNamed (job_of words)
    → fault_of confd_words words ≡ []
    → Answered words (ok_or o Usage)
by_job words None is named none = let never : None ≡ Some named.0 = is ∙ named.1 in cc
by_job words (Some j) is named none = record {
  job = sym is;
  ranges = (let same : job_seen j ≡ named.0 = cc (is ∙ named.1) in subst IsInRange (sym same) named.2);
  taken = none;
  refused = λ bad _. cc;
  passes = λ _ bad. cc;
}

simple_words : is_simple confd_words ≡ true
unfolding clap_on_literals confd_words pipe serve view drill
simple_words = refl

pub answered : (a : App) (words : List Text) (rows : Option (Text × List Row)) (o : Option Job)
    (r : Result Job WordsError) → a ≡ confd_words
    → fault_of confd_words words ≡ [] → (is_simple a ≡ true → rows ≡ subcommand_of a words)
    → option_map job_seen o ≡ option_and_then job_named rows
    → r ≡ ok_or o Usage → Answered words r
answered a words rows o r is none entry job value =
    let entered_is : rows ≡ subcommand_of confd_words words =
    subst (λ (b : App). is_simple b ≡ true → rows ≡ subcommand_of b words) is entry simple_words in
    rw value (by_job words o (job ∙ ap (option_and_then job_named) entered_is) (names_a_job words none) none)
