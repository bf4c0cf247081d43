-- SPDX-License-Identifier: Apache-2.0 OR MIT
-- The numbers among the words, as clap and std read them: decimal digits, before which a plus sign and zeros may come.
use Rattle.std.specs.Prelude.{ℕ, Bool, Option, Some, None, if◌then◌else◌}
use Rattle.std.specs.Str.Parse.{digits_value, without_leading_plus}
use Rattle.clap.specs.ValueTests.{is_unsigned_in}
use Rattle.clap.specs.Words.{Text}
use Rattle.cr_words.specs.Words.{most_workers, most_connections, greatest_seed, most_steps}

-- the number that the digits spell
abbrev pub parse_number : Text → ℕ
parse_number text = digits_value 10 (without_leading_plus text)

-- the number that a text spells; `None` if that isn't a `u32`
abbrev pub number_of : Text → Option ℕ
number_of text = if is_unsigned_in 0 4294967295 text then Some (parse_number text) else None

-- clap takes the text after `--workers`
abbrev pub are_workers : Text → Bool
are_workers = is_unsigned_in 1 most_workers

-- clap takes the text after `--connections`
abbrev pub are_connections : Text → Bool
are_connections = is_unsigned_in 1 most_connections

-- clap takes the text after `--seed`
abbrev pub is_seed : Text → Bool
is_seed = is_unsigned_in 0 greatest_seed

-- clap takes the text after `--steps`
abbrev pub are_steps : Text → Bool
are_steps = is_unsigned_in 1 most_steps
