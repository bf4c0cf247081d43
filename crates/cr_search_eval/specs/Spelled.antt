-- SPDX-License-Identifier: Apache-2.0 OR MIT
-- Nodes that spell a search.
use Rattle.std.specs.Prelude.{◌≡◌, List}
use Rattle.cr_base.specs.declared.search.Node.{Node}
use Rattle.cr_base.specs.Search.{Tree, nodes_of}

-- they are those of a tree
abbrev pub Spelled : List Node → Type 0
Spelled nodes = (t : Tree) × (nodes ≡ nodes_of t)
