-- SPDX-License-Identifier: Apache-2.0 OR MIT
-- What a text is read as, by the grammar. The automaton of Reading only computes it: `law_reading` says that
-- `text_read` gives this of every text, and that the grammar says nothing else of any.
use Rattle.std.specs.Prelude.{◌≡◌, ℕ, List, Option, Result, Ok, Err}
use Rattle.cr_base.specs.Search.{Tree, all_nodes}
use Rattle.cr_base.specs.declared.search.Node.{Node}
use Rattle.cr_search_parse.specs.Offsets.{Spells, IsBad}

-- what the grammar says of a text: these are the nodes of a tree that it spells, within the limits on bytes, levels
-- and terms; or it is bad at this offset
abbrev pub GrammarSays : List ℕ → Result (List Node) ℕ → Type 0
GrammarSays text (Ok nodes) = (tree : Option Tree) × (nodes ≡ all_nodes tree) × Spells text tree
GrammarSays text (Err offset) = IsBad text offset
