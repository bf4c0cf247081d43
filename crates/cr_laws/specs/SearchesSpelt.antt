-- SPDX-License-Identifier: Apache-2.0 OR MIT
-- SearchesSpelt: what a request wishes by the text of a search is what the grammar says of that text.
use Rattle.std.specs.Prelude.{ℕ, ◌≡◌, List, Some, Result}
use Rattle.cr_base.specs.declared.search.Node.{Node}
use Rattle.cr_search_parse.specs.Laws.{GrammarSays}
use Rattle.cr_wire.specs.Query.{asks_count, search_in, search_read, search_text, searched}

-- What is read of a text is what the grammar says of it: the nodes of a tree where the text spells that tree, and else
-- the offset at which the text is bad.
abbrev pub ReadsAsSpelt : Type 0
ReadsAsSpelt = (text : List ℕ) → GrammarSays text (search_read (Some text))

-- And the grammar says nothing else: so a query string that tells a text wishes the search, or is the bad query, that
-- the grammar says.
abbrev pub WishesAsSpelt : Type 0
WishesAsSpelt =
    (query text : List ℕ) (read : Result (List Node) ℕ) → search_text query ≡ Some text → GrammarSays text read
    → search_in query ≡ searched (asks_count query) read
