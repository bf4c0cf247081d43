-- SPDX-License-Identifier: Apache-2.0 OR MIT
-- Searches (the HotCRP manual's search keywords): the tree of what is asked for, and the nodes that spell it, each
-- operation after its operands (Łukasiewicz's notation).
use Rattle.std.specs.Prelude.{◌≡◌, List, [], ◌∷◌, ◌++◌, length, Option, Some, None}
use Rattle.cr_base.specs.declared.search.Node.{Node}
use Rattle.cr_base.specs.declared.search.Node.TheVariants as node
use Rattle.cr_base.specs.declared.search.Term.{Term}

-- what is asked for: a term, or an operation on one or two trees
pub data Tree : Type 0 where
  -- a term holds
  asks : Term → Tree
  -- the search doesn't hold
  denies : Tree → Tree
  -- both do
  both : Tree → Tree → Tree
  -- one of them does, or both
  either : Tree → Tree → Tree

-- the nodes of a search
abbrev pub nodes_of : Tree → List Node
nodes_of (asks term) = node.Term term ∷ []
nodes_of (denies s) = nodes_of s ++ (node.Not ∷ [])
nodes_of (both s t) = nodes_of s ++ (nodes_of t ++ (node.And (length (nodes_of t)) ∷ []))
nodes_of (either s t) = nodes_of s ++ (nodes_of t ++ (node.Or (length (nodes_of t)) ∷ []))

-- the nodes of a search that may be empty
abbrev pub all_nodes : Option Tree → List Node
all_nodes None = []
all_nodes (Some s) = nodes_of s

-- the searches that were spelled and wait for their operation, the last one first, after one node more
abbrev pub behind_node : Node → List Tree → List Tree
behind_node (node.Term term) trees = asks term ∷ trees
behind_node node.Not (s ∷ trees) = denies s ∷ trees
behind_node (node.And second) (t ∷ (s ∷ trees)) = both s t ∷ trees
behind_node (node.Or second) (t ∷ (s ∷ trees)) = either s t ∷ trees
behind_node _ trees = trees

-- the searches that were spelled and wait for their operation, the last one first, after these nodes more
abbrev pub behind_nodes : List Node → List Tree → List Tree
behind_nodes [] trees = trees
behind_nodes (node ∷ nodes) trees = behind_nodes nodes (behind_node node trees)

-- the first of these searches, if there is one
abbrev pub first_of_trees : List Tree → Option Tree
first_of_trees [] = None
first_of_trees (s ∷ trees) = Some s

-- the search that nodes spell
abbrev pub tree_of : List Node → Option Tree
tree_of nodes = first_of_trees (behind_nodes nodes [])

-- these are the nodes of a search
abbrev pub IsSpelled : List Node → Type 0
IsSpelled nodes = all_nodes (tree_of nodes) ≡ nodes
