-- SPDX-License-Identifier: Apache-2.0 OR MIT
-- The command that the words are read by, as clap's own definitions build one.
use Rattle.std.specs.Prelude.{ℕ, Bool, true, false, not, ◌==◌, List, [], ◌∷◌, ◌++◌, Some, codes}
use Rattle.clap.specs.declared.builder.value_parser.ValueParser.TheVariants.{Unsigned}
use Rattle.clap.specs.Words.{App, Rule, Text, new_app, new_rule, with_rule, with_subcommand}

-- an option `--id VALUE`: any text, at most once; the `Bool` says whether it has to be there
abbrev pub text_option : Text → Bool → Rule
text_option id is_required = record (new_rule id) { long = Some id; required = is_required }

-- the command with these options added
abbrev pub with_rules : App → List Rule → App
with_rules a [] = a
with_rules a (r ∷ rest) = with_rules (with_rule a r) rest

-- an option `--id NUMBER` that has to be there, once: a number from low to high
abbrev pub number_option : Text → ℕ → ℕ → Rule
number_option id low high = record (text_option id true) { parser = Some (Unsigned low high) }

-- how many workers there may be
abbrev pub most_workers : ℕ
most_workers = 64

-- how many connections workers may serve
abbrev pub most_connections : ℕ
most_connections = 65536

-- the greatest number from which a drill's choices may begin
abbrev pub greatest_seed : ℕ
greatest_seed = 2147483647

-- how many steps a drill may have
abbrev pub most_steps : ℕ
most_steps = 100000

-- one connection over standard input and output
unfoldable pub pipe : App
pipe = with_rule (new_app (codes "pipe")) (text_option (codes "store") false)

-- many connections to an address
unfoldable pub serve : App
serve =
    with_rules (new_app (codes "serve"))
    (text_option (codes "listen") true ∷ number_option (codes "workers") 1 most_workers
    ∷ number_option (codes "connections") 1 most_connections ∷ text_option (codes "store") true ∷ [])

-- what one user may see of a store
unfoldable pub view : App
view =
    with_rule (with_rule (new_app (codes "view")) (text_option (codes "store") true)) (text_option (codes "user") true)

-- commands that are made up from a number
unfoldable pub drill : App
drill =
    with_rules (new_app (codes "drill"))
    (number_option (codes "seed") 0 greatest_seed ∷ number_option (codes "steps") 1 most_steps ∷ [])

-- the command, with one of its subcommands required, and without clap's own `help`
abbrev pub required : App → App
required a = record a { top = record a.top { subcommand_required = true; disable_help_subcommand = true } }

-- the program: a line for each subcommand
unfoldable pub confd_words : App
confd_words =
    with_subcommand (with_subcommand (with_subcommand (with_subcommand (required (new_app (codes "confd"))) pipe.top)
    serve.top) view.top)
    drill.top

-- ---- options among the words

-- the text isn't written as options are: it doesn't begin with a hyphen (45)
abbrev pub is_plain_text : Text → Bool
is_plain_text [] = true
is_plain_text (b ∷ rest) = not (b == 45)

-- the option `--store`, as two words
abbrev pub store_words : Text → List Text
store_words file = codes "--store" ∷ file ∷ []

-- the option `--user`, as two words
abbrev pub user_words : Text → List Text
user_words user = codes "--user" ∷ user ∷ []

-- the four options of `serve`, as eight words
abbrev pub serve_words : Text → Text → Text → Text → List Text
serve_words listen workers connections file =
    codes "--listen" ∷ listen ∷ codes "--workers" ∷ workers ∷ codes "--connections" ∷ connections ∷ store_words file

-- the option `--store`, as one word with its value after `=`
abbrev pub store_word : Text → Text
store_word file = codes "--store=" ++ file

-- the option `--user`, as one word with its value after `=`
abbrev pub user_word : Text → Text
user_word user = codes "--user=" ++ user

-- the four options of `serve`, as a word each
abbrev pub serve_word : Text → Text → Text → Text → List Text
serve_word listen workers connections file =
    (codes "--listen=" ++ listen) ∷ (codes "--workers=" ++ workers)
    ∷ (codes "--connections=" ++ connections) ∷ store_word file ∷ []

-- the two options of `drill`, as four words
abbrev pub drill_words : Text → Text → List Text
drill_words seed steps = codes "--seed" ∷ seed ∷ codes "--steps" ∷ steps ∷ []

-- the two options of `drill`, as a word each
abbrev pub drill_word : Text → Text → List Text
drill_word seed steps = (codes "--seed=" ++ seed) ∷ (codes "--steps=" ++ steps) ∷ []
