-- SPDX-License-Identifier: Apache-2.0 OR MIT
-- The last node of a search, and the nodes of its operands before it.
use Rattle.std.proofs.Common.{ℕ, Bool, true, false, ◌≡◌, ◌<◌, ◌≤◌, ◌+◌, ◌-◌, ◌&&◌, ◌||◌, List, [], ◌∷◌, ◌++◌, length}
use Rattle.std.proofs.Common.{take, drop, get_or, append_assoc, length-append, length-take-le, refl, sym, ap, ◌∙◌}
use Rattle.std.proofs.Common.{arith}
use Rattle.std.specs.Prelude.{not}
use Rattle.std.proofs.lemmas.List.{drop_at, same_from_push, take_all, take_at, take_more}
use Rattle.cr_base.specs.declared.search.Node.{Node}
use Rattle.cr_base.specs.declared.search.Node.TheVariants as node
use Rattle.cr_base.specs.declared.search.Term.{Term}
use Rattle.cr_base.specs.Search.{Tree, asks, denies, both, either, nodes_of}
use Rattle.cr_base.specs.Searching.{tree_holds}
use Rattle.cr_search_eval.specs.Spelled.{Spelled}

-- ---- the last node

-- the nodes before the last one, and the last one
abbrev pub front_of : Tree → List Node
front_of (asks term) = []
front_of (denies s) = nodes_of s
front_of (both s t) = nodes_of s ++ nodes_of t
front_of (either s t) = nodes_of s ++ nodes_of t

abbrev pub last_of : Tree → Node
last_of (asks term) = node.Term term
last_of (denies s) = node.Not
last_of (both s t) = node.And (length (nodes_of t))
last_of (either s t) = node.Or (length (nodes_of t))

ends : (t : Tree) → nodes_of t ≡ front_of t ++ last_of t ∷ []
ends (asks term) = refl
ends (denies s) = refl
ends (both s t) = sym (append_assoc (nodes_of s) (nodes_of t) (node.And (length (nodes_of t)) ∷ []))
ends (either s t) = sym (append_assoc (nodes_of s) (nodes_of t) (node.Or (length (nodes_of t)) ∷ []))

-- a search has a node
pub some-node : (nodes : List Node) → Spelled nodes → 0 < length nodes
some-node nodes spelled =
    let t = spelled.0 in
    let long : length nodes ≡ length (front_of t) + 1 =
    ap length (spelled.1 ∙ ends t) ∙ length-append (front_of t) (last_of t ∷ []) in
    omega (arith, long)

-- the nodes of a search, cut before the last one
pub cut-last : (nodes before : List Node) (last other : Node) (t : Tree) → nodes ≡ nodes_of t
    → before ≡ take (length nodes - 1) nodes
    → last ≡ get_or nodes (length nodes - 1) other → (before ≡ front_of t) × (last ≡ last_of t)
cut-last nodes before last other t is front end =
    let n : ℕ = length nodes - 1 in
    let long = some-node nodes (t, is) in
    let next : n + 1 ≡ length nodes = omega (arith, long) in
    let whole : take n nodes ++ get_or nodes n other ∷ [] ≡ nodes =
    sym (take_more nodes n other (omega (arith, long))) ∙ take_all (n + 1) nodes (omega (arith, next)) in
    let parts = same_from_push (take n nodes) (front_of t) (get_or nodes n other) (last_of t) (whole ∙ is ∙ ends t) in
    (front ∙ parts.0, end ∙ parts.1)

-- ---- what holds

module _ (holds : Term → Bool) where
  -- of a term
  pub holds-term : (term : Term) (t : Tree) → node.Term term ≡ last_of t → holds term ≡ tree_holds holds t
  holds-term term (asks u) h = let same : term ≡ u = cc in ap holds same
  holds-term term (denies s) h = cc
  holds-term term (both s u) h = cc
  holds-term term (either s u) h = cc

  -- of a denial
  pub holds-not : (before : List Node) (r : Bool) (t : Tree) → before ≡ front_of t → node.Not ≡ last_of t
      → ((s : Tree) → before ≡ nodes_of s → r ≡ tree_holds holds s) → not r ≡ tree_holds holds t
  holds-not before r (asks u) front h given = cc
  holds-not before r (denies s) front h given = ap not (given s front)
  holds-not before r (both s u) front h given = cc
  holds-not before r (either s u) front h given = cc

-- the nodes of a denial's operand
pub not-spelled : (before : List Node) (t : Tree) → before ≡ front_of t → node.Not ≡ last_of t → Spelled before
not-spelled before (asks u) front h = cc
not-spelled before (denies s) front h = (s, front)
not-spelled before (both s u) front h = cc
not-spelled before (either s u) front h = cc

-- ---- two operands

-- cut before the last node, the nodes of the second operand are the last n
pub record IsCut (nodes : List Node) (n : ℕ) (s t : Tree) : Type 0 where
  pub within : n + 1 ≤ length nodes
  pub first : take (length nodes - 1 - n) (take (length nodes - 1) nodes) ≡ nodes_of s
  pub second : drop (length nodes - 1 - n) (take (length nodes - 1) nodes) ≡ nodes_of t

cut-of : (nodes : List Node) (n : ℕ) (s t : Tree) → 0 < length nodes
    → take (length nodes - 1) nodes ≡ nodes_of s ++ nodes_of t → n ≡ length (nodes_of t)
    → IsCut nodes n s t
cut-of nodes n s t some front second =
    let whole : length (take (length nodes - 1) nodes) ≡ length nodes - 1 =
    length-take-le (length nodes - 1) nodes (omega arith) in
    let both_long : length (take (length nodes - 1) nodes) ≡ length (nodes_of s) + length (nodes_of t) =
    ap length front ∙ length-append (nodes_of s) (nodes_of t) in
    let cut : length (nodes_of s) ≡ length nodes - 1 - n = omega (arith, whole, both_long, second, some) in
    record {
      within = omega (arith, whole, both_long, second, some);
      first = ap (take (length nodes - 1 - n)) front ∙ take_at (nodes_of s) (nodes_of t) (length nodes - 1 - n) cut;
      second = ap (drop (length nodes - 1 - n)) front ∙ drop_at (nodes_of s) (nodes_of t) (length nodes - 1 - n) cut;
    }

pub and-cut : (nodes : List Node) (n : ℕ) (last other : Node) (t : Tree) → nodes ≡ nodes_of t
    → last ≡ get_or nodes (length nodes - 1) other → last ≡ node.And n
    → (s : Tree) × (u : Tree) × (t ≡ both s u) × IsCut nodes n s u
and-cut nodes n last other t is at_end and =
    by t is (cut-last nodes (take (length nodes - 1) nodes) last other t is refl at_end)
  where
    by : (v : Tree) → nodes ≡ nodes_of v → (take (length nodes - 1) nodes ≡ front_of v) × (last ≡ last_of v)
        → (s : Tree) × (u : Tree) × (v ≡ both s u) × IsCut nodes n s u
    by (asks u) nodes_are parts = let e : node.And n ≡ node.Term u = sym and ∙ parts.1 in cc
    by (denies s) nodes_are parts = let e : node.And n ≡ node.Not = sym and ∙ parts.1 in cc
    by (either s u) nodes_are parts = let e : node.And n ≡ node.Or (length (nodes_of u)) = sym and ∙ parts.1 in cc
    by (both s u) nodes_are parts =
        let e : node.And n ≡ node.And (length (nodes_of u)) = sym and ∙ parts.1 in
        let same : n ≡ length (nodes_of u) = cc in
        (s, u, refl, cut-of nodes n s u (some-node nodes (both s u, nodes_are)) parts.0 same)

pub or-cut : (nodes : List Node) (n : ℕ) (last other : Node) (t : Tree) → nodes ≡ nodes_of t
    → last ≡ get_or nodes (length nodes - 1) other → last ≡ node.Or n
    → (s : Tree) × (u : Tree) × (t ≡ either s u) × IsCut nodes n s u
or-cut nodes n last other t is at_end or =
    by t is (cut-last nodes (take (length nodes - 1) nodes) last other t is refl at_end)
  where
    by : (v : Tree) → nodes ≡ nodes_of v → (take (length nodes - 1) nodes ≡ front_of v) × (last ≡ last_of v)
        → (s : Tree) × (u : Tree) × (v ≡ either s u) × IsCut nodes n s u
    by (asks u) nodes_are parts = let e : node.Or n ≡ node.Term u = sym or ∙ parts.1 in cc
    by (denies s) nodes_are parts = let e : node.Or n ≡ node.Not = sym or ∙ parts.1 in cc
    by (both s u) nodes_are parts = let e : node.Or n ≡ node.And (length (nodes_of u)) = sym or ∙ parts.1 in cc
    by (either s u) nodes_are parts =
        let e : node.Or n ≡ node.Or (length (nodes_of u)) = sym or ∙ parts.1 in
        let same : n ≡ length (nodes_of u) = cc in
        (s, u, refl, cut-of nodes n s u (some-node nodes (either s u, nodes_are)) parts.0 same)

module _ (holds : Term → Bool) (s u t : Tree) (first second : Bool) (first_is : first ≡ tree_holds holds s) where
  -- where the first operand doesn't hold, or does, the second isn't looked at
  pub and-false : t ≡ both s u → first ≡ false → false ≡ tree_holds holds t
  and-false is fails =
      sym (ap (tree_holds holds) is ∙ ap (λ (b : Bool). b && tree_holds holds u) (sym first_is ∙ fails))

  pub and-true : t ≡ both s u → first ≡ true → second ≡ tree_holds holds u → second ≡ tree_holds holds t
  and-true is so second_is =
      second_is ∙ sym (ap (tree_holds holds) is ∙ ap (λ (b : Bool). b && tree_holds holds u) (sym first_is ∙ so))

  pub or-true : t ≡ either s u → first ≡ true → true ≡ tree_holds holds t
  or-true is so = sym (ap (tree_holds holds) is ∙ ap (λ (b : Bool). b || tree_holds holds u) (sym first_is ∙ so))

  pub or-false : t ≡ either s u → first ≡ false → second ≡ tree_holds holds u → second ≡ tree_holds holds t
  or-false is fails second_is =
      second_is ∙ sym (ap (tree_holds holds) is ∙ ap (λ (b : Bool). b || tree_holds holds u) (sym first_is ∙ fails))
