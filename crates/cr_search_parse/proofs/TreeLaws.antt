-- SPDX-License-Identifier: Apache-2.0 OR MIT
-- Trees and the nodes that spell them.
use Rattle.std.proofs.Common.{◌≡◌, ℕ, List, [], ◌∷◌, ◌++◌, length, Option, Some, None, refl, sym, ap, ◌∙◌, append_assoc}
use Rattle.std.proofs.Common.{append-nil}
use Rattle.cr_base.specs.Search.{Tree, asks, denies, both, either, nodes_of, all_nodes, behind_nodes, first_of_trees}
use Rattle.cr_base.specs.Search.{tree_of, IsSpelled}
use Rattle.cr_base.specs.declared.search.Node.{Node}
use Rattle.cr_base.specs.declared.search.Node.TheVariants as node
use Rattle.cr_search_parse.specs.Reading.{with_operand}

-- three lists and one behind them
pub append_last : {A : Type 0} (a b c d : List A) → (a ++ (b ++ c)) ++ d ≡ a ++ (b ++ (c ++ d))
append_last a b c d = simp append_assoc

-- nodes that begin with one: those of a tree are some
abbrev HasNodes : List Node → Type 0
HasNodes nodes = (s : Node) × (more : List Node) × (nodes ≡ s ∷ more)

HasNodes-append : (nodes more : List Node) → HasNodes nodes → HasNodes (nodes ++ more)
HasNodes-append nodes more (s, rest, is) = (s, rest ++ more, ap (λ (xs : List Node). xs ++ more) is)

HasNodes-nodes_of : (t : Tree) → HasNodes (nodes_of t)
HasNodes-nodes_of (asks t) = (node.Term t, [], refl)
HasNodes-nodes_of (denies s) = HasNodes-append _ _ (HasNodes-nodes_of s)
HasNodes-nodes_of (both s t) = HasNodes-append _ _ (HasNodes-nodes_of s)
HasNodes-nodes_of (either s t) = HasNodes-append _ _ (HasNodes-nodes_of s)

behind_some : (operation : ℕ → Node) (nodes second : List Node) → HasNodes nodes
    → with_operand operation nodes second ≡ nodes ++ (second ++ (operation (length second) ∷ []))
behind_some operation nodes second (s, rest, is) =
    ap (λ (xs : List Node). with_operand operation xs second) is
    ∙ ap (λ (xs : List Node). xs ++ (second ++ (operation (length second) ∷ []))) (sym is)

-- a second operand behind the nodes of a tree
pub with_operand-nodes_of : (operation : ℕ → Node) (t : Tree) (second : List Node)
    → with_operand operation (nodes_of t) second ≡ nodes_of t ++ (second ++ (operation (length second) ∷ []))
with_operand-nodes_of operation t second = behind_some operation (nodes_of t) second (HasNodes-nodes_of t)

-- ---- the tree of nodes

behind_nodes-nodes_of : (t : Tree) (rest : List Node) (trees : List Tree)
    → behind_nodes (nodes_of t ++ rest) trees ≡ behind_nodes rest (t ∷ trees)
behind_nodes-nodes_of (asks t) rest trees = refl
behind_nodes-nodes_of (denies s) rest trees =
    ap (λ (xs : List Node). behind_nodes xs trees) (append_assoc (nodes_of s) (node.Not ∷ []) rest)
    ∙ behind_nodes-nodes_of s (node.Not ∷ rest) trees
behind_nodes-nodes_of (both s t) rest trees =
    ap (λ (xs : List Node). behind_nodes xs trees)
    (append_last (nodes_of s) (nodes_of t) (node.And (length (nodes_of t)) ∷ []) rest)
    ∙ behind_nodes-nodes_of s (nodes_of t ++ (node.And (length (nodes_of t)) ∷ rest)) trees
    ∙ behind_nodes-nodes_of t (node.And (length (nodes_of t)) ∷ rest) (s ∷ trees)
behind_nodes-nodes_of (either s t) rest trees =
    ap (λ (xs : List Node). behind_nodes xs trees)
    (append_last (nodes_of s) (nodes_of t) (node.Or (length (nodes_of t)) ∷ []) rest)
    ∙ behind_nodes-nodes_of s (nodes_of t ++ (node.Or (length (nodes_of t)) ∷ rest)) trees
    ∙ behind_nodes-nodes_of t (node.Or (length (nodes_of t)) ∷ rest) (s ∷ trees)

-- the nodes of a search spell it
pub tree_of-all_nodes : (t : Option Tree) → tree_of (all_nodes t) ≡ t
tree_of-all_nodes None = refl
tree_of-all_nodes (Some t) =
    ap (λ (xs : List Node). tree_of xs) (sym (append-nil (nodes_of t)))
    ∙ ap first_of_trees (behind_nodes-nodes_of t [] [])

pub tree_of-nodes : (nodes : List Node) (t : Option Tree) → nodes ≡ all_nodes t → tree_of nodes ≡ t
tree_of-nodes nodes t is = ap tree_of is ∙ tree_of-all_nodes t

pub IsSpelled-nodes : (nodes : List Node) (t : Option Tree) → nodes ≡ all_nodes t → IsSpelled nodes
IsSpelled-nodes nodes t is = ap all_nodes (tree_of-nodes nodes t is) ∙ sym is
