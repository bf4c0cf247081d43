-- SPDX-License-Identifier: Apache-2.0 OR MIT
-- What a query string asks, of a search or a plan: its pairs of a name and a value, as web forms write them
-- (the URL Standard, section 5).
use Rattle.std.specs.Prelude.{ℕ, List, length, Bool, ◌&&◌, nat_le, Option, Some, None, Result, Ok, Err, codes}
use Rattle.std.specs.Prelude.{find, if◌then◌else◌}
use Rattle.std.specs.List.{list_any}
use Rattle.std.specs.Option.{option_map, option_and_then}
use Rattle.std.specs.Str.{bytes_eq}
use Rattle.std.specs.Str.Lossy.{utf8_lossy}
use Rattle.std.specs.Str.Parse.{digits_value}
use Rattle.form_urlencoded.specs.Form.{decode, raw_pairs}
use Rattle.cr_base.specs.declared.ask.Ask.TheVariants as asks
use Rattle.cr_base.specs.declared.ask.Question.TheVariants as questions
use Rattle.cr_base.specs.declared.command.Query.TheVariants as queries
use Rattle.cr_base.specs.declared.search.Node.{Node}
use Rattle.cr_search_parse.specs.Reading.{text_read}
use Rattle.cr_wire.specs.Paper.{is_number}
use Rattle.cr_wire.specs.declared.what.What.{What}
use Rattle.cr_wire.specs.declared.what.What.TheVariants.{BadQuery, Query as Queries}

-- a name and a value, still encoded
abbrev pub Pair : Type 0
Pair = List ℕ × List ℕ

-- the text that an encoded name or value means
unfoldable pub decoded : List ℕ → List ℕ
decoded bytes = utf8_lossy (decode bytes)

-- the encoded name or value means this text
abbrev pub stands_for : List ℕ → List ℕ → Bool
stands_for text bytes = bytes_eq (decoded bytes) text

-- a pair has this name
abbrev pub is_named : List ℕ → Pair → Bool
is_named name pair = stands_for name pair.0

-- the value of the first pair of this name
abbrev pub value_in : List ℕ → List Pair → Option (List ℕ)
value_in name pairs = option_map (λ pair. decoded pair.1) (find (is_named name) pairs)

-- the text of a search
abbrev pub search_text : List ℕ → Option (List ℕ)
search_text query = value_in (codes "q") (raw_pairs query)

-- a pair is `only=count`
abbrev pub is_count : Pair → Bool
is_count pair = is_named (codes "only") pair && stands_for (codes "count") pair.1

-- a pair is `only=count`: the search asks how many papers it finds, and not which
abbrev pub asks_count : List ℕ → Bool
asks_count query = list_any is_count (raw_pairs query)

-- What the text of a search comes to: its nodes, or the offset at which it is bad; a missing text is bad from 0.
-- A wish is a value, so this has to be a function of the text, which the grammar isn't: it says of nodes, or of an
-- offset, whether they are a text's. The function is `text_read`, which computes them by an automaton; `law_reading` of
-- cr_search_parse says that it agrees with the grammar on every text.
abbrev pub search_read : Option (List ℕ) → Result (List Node) ℕ
search_read None = Err 0
search_read (Some text) = text_read text

-- the wish of a search with these nodes, or a bad search at this offset
abbrev pub searched : Bool → Result (List Node) ℕ → What
searched only_count (Err offset) = BadQuery (asks.Tell questions.Search) offset
searched only_count (Ok nodes) = Queries (queries.Search nodes only_count)

-- the wish of a search with this query string
abbrev pub search_in : List ℕ → What
search_in query = searched (asks_count query) (search_read (search_text query))

-- ---- plans

-- one to three digits, of which the first isn't 0
abbrev pub is_short_number : List ℕ → Bool
is_short_number text = is_number text && nat_le (length text) 3

-- the number that the text is, from 1 to this one; `None` if it is no such number
abbrev pub number_to : ℕ → List ℕ → Option ℕ
number_to most text =
    if is_short_number text && nat_le (digits_value 10 text) most then Some (digits_value 10 text) else None

-- the number, up to this one, that the first pair of this name tells; `None` if there is none
abbrev pub number_in : List ℕ → ℕ → List ℕ → Option ℕ
number_in name most query = option_and_then (number_to most) (value_in name (raw_pairs query))

-- the wish of a plan with these two numbers; a query string that is bad from its start if one isn't there
abbrev pub planned : Option ℕ → Option ℕ → What
planned None load = BadQuery (asks.Tell questions.Plan) 0
planned (Some per_paper) None = BadQuery (asks.Tell questions.Plan) 0
planned (Some per_paper) (Some load) = Queries (queries.Plan per_paper load)

-- the wish of a plan with this query string: how many more reviewers each paper is to have, 1 to 26, and how many
-- papers a member is to have at most, 1 to 512
abbrev pub plan_in : List ℕ → What
plan_in query = planned (number_in (codes "per_paper") 26 query) (number_in (codes "load") 512 query)
