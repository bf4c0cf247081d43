-- SPDX-License-Identifier: Apache-2.0 OR MIT
-- The reader reads all that the grammar spells, within its limits.
use Rattle.std.proofs.Common.{◌≡◌, ℕ, ◌+◌, ◌≤◌, List, [], ◌∷◌, ◌++◌, length, Option, Some, None, refl, sym, ap, ◌∙◌}
use Rattle.std.proofs.Common.{append-nil, arith, add-zero, add_assoc}
use Rattle.cr_base.specs.Search.{Tree, nodes_of, all_nodes}
use Rattle.cr_base.specs.declared.search.Node.{Node}
use Rattle.cr_base.specs.declared.search.Node.TheVariants as node
use Rattle.cr_search_parse.specs.Grammar.{Symbol, opens, closes, dash, word, Item, All, Any, term, added, dashed}
use Rattle.cr_search_parse.specs.Grammar.{negated, grouped, one, beside, joined, sole, other, gap_symbols, and_word}
use Rattle.cr_search_parse.specs.Grammar.{or_word, not_word, item_symbols, all_symbols, any_symbols, item_tree}
use Rattle.cr_search_parse.specs.Grammar.{all_tree, any_tree, item_depth, all_depth, any_depth, item_terms, all_terms}
use Rattle.cr_search_parse.specs.Grammar.{any_terms, IsQuery}
use Rattle.cr_search_parse.specs.Reading.{Level, State, Next, first, ended, wanted, touching, start, levels_depth}
use Rattle.cr_search_parse.specs.Reading.{denied, with_operand, level_nodes, after_symbols, nodes_read}
use Rattle.cr_search_parse.proofs.TreeLaws.{with_operand-nodes_of}
use Rattle.cr_search_parse.proofs.ReaderLaws.{after_row, after_one, after_gaps, shallow, denied_more, after_word-term}

-- a level for which no negation waits
abbrev pub level_at : List Node → List Node → Level
level_at alternatives items = record { alternatives = alternatives; items = items; negations = 0 }

-- the level that alternatives make
abbrev pub level_of : Any → Level
level_of (sole a) = level_at [] (nodes_of (all_tree a))
level_of (other a before behind b) = level_at (nodes_of (any_tree a)) (nodes_of (all_tree b))

pub level_nodes-level_of : (a : Any) → level_nodes (level_of a) ≡ nodes_of (any_tree a)
level_nodes-level_of (sole a) = refl
level_nodes-level_of (other a before behind b) = with_operand-nodes_of node.Or (any_tree a) (nodes_of (all_tree b))

-- a state by its parts
abbrev pub state : List Level → List Node → List Node → ℕ → Next → ℕ → State
state around alternatives items negations next terms =
    record {
      around = around;
      level = record { alternatives = alternatives; items = items; negations = negations };
      next = next;
      terms = terms;
    }

-- one item behind those before
pub with_operand-item : (s t : Tree) → with_operand node.And (nodes_of s) (denied 0 (nodes_of t)) ≡ nodes_of s
    ++ (nodes_of t ++ (node.And (length (nodes_of t)) ∷ []))
with_operand-item s t =
    ap (with_operand node.And (nodes_of s)) (append-nil (nodes_of t)) ∙ with_operand-nodes_of node.And s (nodes_of t)

-- the same as a state, with the terms of both
item_more : (around : List Level) (alternatives : List Node) (s t : Tree) (a b c : ℕ)
    → Some (state around alternatives (with_operand node.And (nodes_of s) (denied 0 (nodes_of t))) 0 ended (a + b + c))
    ≡ Some (state around alternatives (nodes_of s ++ (nodes_of t ++ (node.And (length (nodes_of t)) ∷ [])))
    0 ended (a + (b + c)))
item_more around alternatives s t a b c =
    ap (λ (xs : List Node). Some (state around alternatives xs 0 ended (a + b + c))) (with_operand-item s t)
    ∙ ap
    (λ (n : ℕ). Some (state around alternatives (nodes_of s ++ (nodes_of t ++ (node.And (length (nodes_of t)) ∷ [])))
    0 ended n)) (add_assoc a b c)

-- alternatives behind those before
other_more : (around : List Level) (a : Any) (items : List Node) (n m k : ℕ)
    → Some (state around (level_nodes (level_of a)) items 0 ended (n + m + k))
    ≡ Some (state around (nodes_of (any_tree a)) items 0 ended (n + (m + k)))
other_more around a items n m k =
    ap (λ (xs : List Node). Some (state around xs items 0 ended (n + m + k))) (level_nodes-level_of a)
    ∙ ap (λ (j : ℕ). Some (state around (nodes_of (any_tree a)) items 0 ended j)) (add_assoc n m k)

mutual
  reads-item : (i : Item) (around : List Level) (alternatives items : List Node) (negations : ℕ) (next : Next)
      (terms : ℕ) → negations + levels_depth around + item_depth i ≤ 64 → terms + item_terms i ≤ 128
      → after_symbols (state around alternatives items negations next terms) (item_symbols i)
      ≡ Some (state around alternatives (with_operand node.And items (denied negations (nodes_of (item_tree i)))) 0
      ended (terms + item_terms i))
  reads-item (term text t is) around alternatives items negations next terms low few =
      after_one (state around alternatives items negations next terms) _ (word text) []
      (after_word-term (state around alternatives items negations next terms) text t is few)
  reads-item added around alternatives items negations next terms low few =
      ap
      (λ (n : ℕ).
      Some (state around alternatives (with_operand node.And items (denied negations (nodes_of (item_tree added))))
      0 ended n)) (sym (add-zero terms))
  reads-item (dashed i) around alternatives items negations next terms low few =
      after_one (state around alternatives items negations next terms) _ dash (item_symbols i)
      (shallow (state around alternatives items (negations + 1) touching terms) (omega arith))
      ∙ reads-item i around alternatives items (negations + 1) touching terms (omega arith) few
      ∙ ap
      (λ (xs : List Node). Some (state around alternatives (with_operand node.And items xs) 0 ended
      (terms + item_terms i))) (denied_more negations (nodes_of (item_tree i)))
  reads-item (negated n i) around alternatives items negations next terms low few =
      after_one (state around alternatives items negations next terms) _ (word not_word)
      (gap_symbols n ++ item_symbols i) (shallow (state around alternatives items (negations + 1) wanted terms)
      (omega arith))
      ∙ after_gaps (state around alternatives items (negations + 1) wanted terms) n (item_symbols i) refl
      ∙ reads-item i around alternatives items (negations + 1) wanted terms (omega arith) few
      ∙ ap
      (λ (xs : List Node). Some (state around alternatives (with_operand node.And items xs) 0 ended
      (terms + item_terms i))) (denied_more negations (nodes_of (item_tree i)))
  reads-item (grouped n a m) around alternatives items negations next terms low few =
      let level : Level = record { alternatives = alternatives; items = items; negations = negations } in
      after_one (state around alternatives items negations next terms) _ opens
      (gap_symbols n ++ (any_symbols a ++ (gap_symbols m ++ (closes ∷ []))))
      (shallow (state (level ∷ around) [] [] 0 first terms) (omega arith))
      ∙ after_gaps (state (level ∷ around) [] [] 0 first terms) n (any_symbols a ++ (gap_symbols m ++ (closes ∷ [])))
      refl
      ∙ after_row _ _ (any_symbols a) (gap_symbols m ++ (closes ∷ []))
      (reads-any a (level ∷ around) first terms (omega arith) few)
      ∙ after_gaps (record { around = level ∷ around; level = level_of a; next = ended; terms = terms + any_terms a }) m
      (closes ∷ []) refl
      ∙ ap
      (λ (xs : List Node). Some (state around alternatives (with_operand node.And items (denied negations xs)) 0 ended
      (terms + any_terms a))) (level_nodes-level_of a)

  reads-all : (a : All) (around : List Level) (alternatives : List Node) (next : Next) (terms : ℕ)
      → levels_depth around + all_depth a ≤ 64 → terms + all_terms a ≤ 128
      → after_symbols (state around alternatives [] 0 next terms) (all_symbols a)
      ≡ Some (state around alternatives (nodes_of (all_tree a)) 0 ended (terms + all_terms a))
  reads-all (one i) around alternatives next terms low few =
      reads-item i around alternatives [] 0 next terms (omega arith) few
      ∙ ap (λ (xs : List Node). Some (state around alternatives xs 0 ended (terms + item_terms i)))
      (append-nil (nodes_of (item_tree i)))
  reads-all (beside a n i) around alternatives next terms low few =
      after_row _ _ (all_symbols a) (gap_symbols n ++ item_symbols i)
      (reads-all a around alternatives next terms (omega arith) (omega arith))
      ∙ after_gaps (state around alternatives (nodes_of (all_tree a)) 0 ended (terms + all_terms a)) n (item_symbols i)
      refl
      ∙ reads-item i around alternatives (nodes_of (all_tree a)) 0 ended (terms + all_terms a) (omega arith)
      (omega arith)
      ∙ item_more around alternatives (all_tree a) (item_tree i) terms (all_terms a) (item_terms i)
  reads-all (joined a n m i) around alternatives next terms low few =
      after_row _ _ (all_symbols a) (gap_symbols n ++ (word and_word ∷ (gap_symbols m ++ item_symbols i)))
      (reads-all a around alternatives next terms (omega arith) (omega arith))
      ∙ after_gaps (state around alternatives (nodes_of (all_tree a)) 0 ended (terms + all_terms a)) n
      (word and_word ∷ (gap_symbols m ++ item_symbols i)) refl
      ∙ after_gaps (state around alternatives (nodes_of (all_tree a)) 0 wanted (terms + all_terms a)) m (item_symbols i)
      refl
      ∙ reads-item i around alternatives (nodes_of (all_tree a)) 0 wanted (terms + all_terms a) (omega arith)
      (omega arith)
      ∙ item_more around alternatives (all_tree a) (item_tree i) terms (all_terms a) (item_terms i)

  reads-any : (a : Any) (around : List Level) (next : Next) (terms : ℕ) → levels_depth around + any_depth a ≤ 64
      → terms + any_terms a ≤ 128 → after_symbols (state around [] [] 0 next terms) (any_symbols a)
      ≡ Some (record { around = around; level = level_of a; next = ended; terms = terms + any_terms a })
  reads-any (sole a) around next terms low few = reads-all a around [] next terms low few
  reads-any (other a n m b) around next terms low few =
      after_row _ _ (any_symbols a) (gap_symbols n ++ (word or_word ∷ (gap_symbols m ++ all_symbols b)))
      (reads-any a around next terms (omega arith) (omega arith))
      ∙ after_gaps (record { around = around; level = level_of a; next = ended; terms = terms + any_terms a }) n
      (word or_word ∷ (gap_symbols m ++ all_symbols b)) refl
      ∙ after_gaps (state around (level_nodes (level_of a)) [] 0 wanted (terms + any_terms a)) m (all_symbols b) refl
      ∙ reads-all b around (level_nodes (level_of a)) wanted (terms + any_terms a) (omega arith) (omega arith)
      ∙ other_more around a (nodes_of (all_tree b)) terms (any_terms a) (all_terms b)

-- the reader reads each query, and has its nodes then
pub only : (symbols : List Symbol) (t : Option Tree) → IsQuery symbols t
    → (s : State) × (after_symbols start symbols ≡ Some s) × (nodes_read s ≡ Some (all_nodes t))
only symbols None (n, is) =
    (start, ap (after_symbols start) (is ∙ sym (append-nil (gap_symbols n))) ∙ after_gaps start n [] refl, refl)
only symbols (Some t) (n, a, m, is, tree, low, few) = (
  last,
  ap (after_symbols start) is
      ∙ after_gaps start n (any_symbols a ++ gap_symbols m) refl
      ∙ after_row start last (any_symbols a) (gap_symbols m) (reads-any a [] first 0 (omega arith) (omega arith))
      ∙ ap (after_symbols last) (sym (append-nil (gap_symbols m)))
      ∙ after_gaps last m [] refl,
  ap Some (level_nodes-level_of a ∙ ap nodes_of tree),
)
  where
    last : State
    last = record { around = []; level = level_of a; next = ended; terms = 0 + any_terms a }
