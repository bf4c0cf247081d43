-- SPDX-License-Identifier: Apache-2.0 OR MIT
-- The grammar of searches (after the HotCRP manual's) over the symbols of a text, with how each query is spelled, the
-- tree that it is, how deep its items are nested, and how many terms it has.
--
--   query = spaces [ any ] spaces
--   any   = all *( gap "OR" gap all )
--   all   = item *( gap [ "AND" gap ] item )
--   item  = "-" item | "NOT" gap item | "(" spaces any spaces ")" | term
--
-- A gap is spaces, and may be empty at a parenthesis. In a text's symbols two chunks are never next to each other,
-- since a chunk is a longest run; so a gap between two of them has spaces, and the grammar need not say so. Spaces are
-- a longest run too, so a gap of a text has one run of them or none. The grammar allows any number, so that what a
-- reader makes of symbols needs no condition.
use Rattle.std.specs.Prelude.{◌≡◌, ◌≤◌, ℕ, ◌==◌, ◌+◌, max, List, [], ◌∷◌, ◌++◌}
use Rattle.std.specs.Prelude.{codes, Option, Some, None, if◌then◌else◌, replicate}
use Rattle.std.specs.List.{flat_map}
use Rattle.cr_base.specs.Search.{Tree, asks, denies, both, either}
use Rattle.cr_base.specs.declared.search.Term.{Term}
use Rattle.cr_base.specs.declared.search.Term.TheVariants as terms
use Rattle.cr_search_parse.specs.Runs.{Run, spaces, opening, closing, chunk}
use Rattle.cr_search_parse.specs.Terms.{term_of}

-- ---- symbols

-- What a run of bytes is to the grammar. A chunk is the dashes that it begins with, each a negation, and the word after
-- them. A sample is in no text: Offsets adds it to one, as an item, to say where a text goes wrong.
pub data Symbol : Type 0 where
  gap opens closes dash sample : Symbol
  word : List ℕ → Symbol

-- the symbols of a chunk: its dashes, and the word after them if there is one
abbrev pub chunk_symbols : List ℕ → List Symbol
chunk_symbols [] = []
chunk_symbols (byte ∷ bytes) = if byte == 45 then dash ∷ chunk_symbols bytes else word (byte ∷ bytes) ∷ []

-- the symbols of a run
abbrev pub run_symbols : Run → List Symbol
run_symbols (spaces n) = gap ∷ []
run_symbols opening = opens ∷ []
run_symbols closing = closes ∷ []
run_symbols (chunk bytes) = chunk_symbols bytes

-- the symbols of all runs, in order
abbrev pub symbols_of : List Run → List Symbol
symbols_of runs = flat_map run_symbols runs

-- ---- the grammar

mutual
  -- one item
  pub data Item : Type 0 where
    -- a term, by its word
    term : (text : List ℕ) (t : Term) → term_of text ≡ Some t → Item
    -- an item that is added, see Offsets
    added : Item
    -- a dash, right before an item
    dashed : Item → Item
    -- NOT, a gap of so many runs of spaces, and an item
    negated : ℕ → Item → Item
    -- a query in parentheses, with a gap at both ends
    grouped : ℕ → Any → ℕ → Item

  -- items that all have to hold
  pub data All : Type 0 where
    one : Item → All
    -- those before, a gap, and one item more
    beside : All → ℕ → Item → All
    -- those before, AND with a gap on both sides of it, and one item more
    joined : All → ℕ → ℕ → Item → All

  -- alternatives, of which one has to hold
  pub data Any : Type 0 where
    sole : All → Any
    -- those before, OR with a gap on both sides of it, and one more
    other : Any → ℕ → ℕ → All → Any

-- ---- how they are spelled

-- this many runs of spaces
abbrev pub gap_symbols : ℕ → List Symbol
gap_symbols n = replicate n gap

-- the word between items that both have to hold, which may be left out
abbrev pub and_word : List ℕ
and_word = codes "AND"

-- the word between alternatives
abbrev pub or_word : List ℕ
or_word = codes "OR"

-- the word before an item that mustn't hold
abbrev pub not_word : List ℕ
not_word = codes "NOT"

-- the symbols by which an item, items and alternatives are spelled
abbrev mutual
  pub item_symbols : Item → List Symbol
  item_symbols (term text t is) = word text ∷ []
  item_symbols added = sample ∷ []
  item_symbols (dashed i) = dash ∷ item_symbols i
  item_symbols (negated spaced i) = word not_word ∷ (gap_symbols spaced ++ item_symbols i)
  item_symbols (grouped before a behind) =
      opens ∷ (gap_symbols before ++ (any_symbols a ++ (gap_symbols behind ++ (closes ∷ []))))

  pub all_symbols : All → List Symbol
  all_symbols (one i) = item_symbols i
  all_symbols (beside a spaced i) = all_symbols a ++ (gap_symbols spaced ++ item_symbols i)
  all_symbols (joined a before behind i) =
      all_symbols a ++ (gap_symbols before ++ (word and_word ∷ (gap_symbols behind ++ item_symbols i)))

  pub any_symbols : Any → List Symbol
  any_symbols (sole a) = all_symbols a
  any_symbols (other a before behind b) =
      any_symbols a ++ (gap_symbols before ++ (word or_word ∷ (gap_symbols behind ++ all_symbols b)))

-- ---- what they are

-- the tree that an item, items and alternatives are
abbrev mutual
  pub item_tree : Item → Tree
  item_tree (term text t is) = asks t
  item_tree added = asks (terms.Plain [])
  item_tree (dashed i) = denies (item_tree i)
  item_tree (negated spaced i) = denies (item_tree i)
  item_tree (grouped before a behind) = any_tree a

  pub all_tree : All → Tree
  all_tree (one i) = item_tree i
  all_tree (beside a spaced i) = both (all_tree a) (item_tree i)
  all_tree (joined a before behind i) = both (all_tree a) (item_tree i)

  pub any_tree : Any → Tree
  any_tree (sole a) = all_tree a
  any_tree (other a before behind b) = either (any_tree a) (all_tree b)

-- how many dashes, NOTs and parentheses the most deeply nested item is inside of
abbrev mutual
  pub item_depth : Item → ℕ
  item_depth (term text t is) = 0
  item_depth added = 0
  item_depth (dashed i) = item_depth i + 1
  item_depth (negated spaced i) = item_depth i + 1
  item_depth (grouped before a behind) = any_depth a + 1

  pub all_depth : All → ℕ
  all_depth (one i) = item_depth i
  all_depth (beside a spaced i) = max (all_depth a) (item_depth i)
  all_depth (joined a before behind i) = max (all_depth a) (item_depth i)

  pub any_depth : Any → ℕ
  any_depth (sole a) = all_depth a
  any_depth (other a before behind b) = max (any_depth a) (all_depth b)

-- how many terms there are; an added item doesn't count
abbrev mutual
  pub item_terms : Item → ℕ
  item_terms (term text t is) = 1
  item_terms added = 0
  item_terms (dashed i) = item_terms i
  item_terms (negated spaced i) = item_terms i
  item_terms (grouped before a behind) = any_terms a

  pub all_terms : All → ℕ
  all_terms (one i) = item_terms i
  all_terms (beside a spaced i) = all_terms a + item_terms i
  all_terms (joined a before behind i) = all_terms a + item_terms i

  pub any_terms : Any → ℕ
  any_terms (sole a) = all_terms a
  any_terms (other a before behind b) = any_terms a + all_terms b

-- ---- queries

-- the symbols are a query, with its tree, which an empty query doesn't have: no item is inside of more than 64 dashes,
-- NOTs and parentheses, and there are at most 128 terms
abbrev pub IsQuery : List Symbol → Option Tree → Type 0
IsQuery symbols None = (spaced : ℕ) × (symbols ≡ gap_symbols spaced)
IsQuery symbols (Some tree) =
    (before : ℕ) × (a : Any) × (behind : ℕ) × (symbols ≡ gap_symbols before ++ (any_symbols a ++ gap_symbols behind))
    × (any_tree a ≡ tree) × (any_depth a ≤ 64) × (any_terms a ≤ 128)
