-- SPDX-License-Identifier: Apache-2.0 OR MIT
-- Where a text stops being the beginning of a query: what a refusal tells.
use Rattle.std.specs.Prelude.{◌≡◌, ◌≤◌, ◌<◌, ◌⊎◌, ℕ, ◌+◌, List, ◌∷◌, ◌++◌, length, take, replicate, Option}
use Rattle.cr_base.specs.Search.{Tree}
use Rattle.cr_search_parse.specs.Grammar.{sample, closes, symbols_of, IsQuery}
use Rattle.cr_search_parse.specs.Runs.{Run, runs_of, runs_length}

-- Runs are a good beginning of a query if they can be completed to one: by `(a)`, taken as one item more that counts
-- neither in depth nor in terms, and by some number of closing parentheses. The symbol `sample` is that item.
abbrev pub IsGood : List Run → Type 0
IsGood runs =
    (closings : ℕ) × (tree : Option Tree) × IsQuery (symbols_of runs ++ (sample ∷ replicate closings closes)) tree

-- The cuts of a text are its two ends and the offsets between its runs. This offset is the last cut before the first
-- one up to which the runs are no good beginning; the text's length, if there is no such cut.
abbrev pub IsOffset : List Run → ℕ → Type 0
IsOffset runs offset =
    (n : ℕ) × (n ≤ length runs) × (offset ≡ runs_length (take n runs)) × ((k : ℕ) → k ≤ n → IsGood (take k runs))
    × (n < length runs → IsGood (take (n + 1) runs) → ⊥)

-- the most bytes that a query may have
unfoldable pub most_bytes : ℕ
most_bytes = 1024

-- the text spells the query with this tree; the empty query has none
abbrev pub Spells : List ℕ → Option Tree → Type 0
Spells text tree = (length text ≤ most_bytes) × IsQuery (symbols_of (runs_of text)) tree

-- the text spells no query, and this is its offset; the most bytes of a query, if it has more
abbrev pub IsBad : List ℕ → ℕ → Type 0
IsBad text offset =
    ((most_bytes < length text) × (offset ≡ most_bytes))
    ⊎ ((length text ≤ most_bytes) × ((tree : Option Tree) → IsQuery (symbols_of (runs_of text)) tree → ⊥)
    × IsOffset (runs_of text) offset)
