-- SPDX-License-Identifier: Apache-2.0 OR MIT
-- What the reader reads is a query of the grammar.
use Rattle.std.proofs.Common.{◌≡◌, ℕ, zero, suc, ◌+◌, ◌≤◌, max, Bool, true, false, List, [], ◌∷◌, ◌++◌, Option, Some}
use Rattle.std.proofs.Common.{None, bytes_eq, if◌then◌else◌, refl, sym, ap, subst, ◌∙◌, append_assoc, append-nil}
use Rattle.std.proofs.Common.{add-zero, arith}
use Rattle.std.specs.Prelude.{nat_lt}
use Rattle.std.proofs.lemmas.Bool.{ltb-false}
use Rattle.std.proofs.lemmas.Option.{none-some, same_Some, option_and_then_some}
use Rattle.std.proofs.lemmas.Slice.Eq.{bytes_eq-Decides}
use Rattle.cr_base.specs.Search.{Tree, both, nodes_of, all_nodes}
use Rattle.cr_base.specs.declared.search.Node.{Node}
use Rattle.cr_base.specs.declared.search.Node.TheVariants as node
use Rattle.cr_base.specs.declared.search.Term.{Term}
use Rattle.cr_search_parse.specs.Grammar.{Symbol, gap, opens, closes, dash, sample, word, Item, All, Any, term, added}
use Rattle.cr_search_parse.specs.Grammar.{dashed, negated, grouped, one, beside, joined, sole, other, gap_symbols}
use Rattle.cr_search_parse.specs.Grammar.{and_word, or_word, not_word, item_symbols, all_symbols, any_symbols}
use Rattle.cr_search_parse.specs.Grammar.{item_tree, all_tree, any_tree, item_depth, all_depth, any_depth, item_terms}
use Rattle.cr_search_parse.specs.Grammar.{all_terms, any_terms, IsQuery}
use Rattle.cr_search_parse.specs.Reading.{Level, State, Next, first, ended, wanted, touching, start, no_level, depth}
use Rattle.cr_search_parse.specs.Reading.{levels_depth, denied, with_operand, with_item, level_nodes, if_shallow}
use Rattle.cr_search_parse.specs.Reading.{after_open, one_negation_more, after_item, closed, after_gap, after_close}
use Rattle.cr_search_parse.specs.Reading.{after_and, after_or, after_term, after_word, after_symbol, after_symbols}
use Rattle.cr_search_parse.specs.Reading.{at_end, nodes_read}
use Rattle.cr_search_parse.specs.Terms.{term_of, is_and, is_or, is_not}
use Rattle.cr_search_parse.proofs.TreeLaws.{append_last}
use Rattle.cr_search_parse.proofs.ReaderLaws.{denied_more}
use Rattle.cr_search_parse.proofs.Complete.{level_at, level_of, level_nodes-level_of, with_operand-item}

-- ---- a level that has items, and one that waits for an item

-- What was read of a level is alternatives, which make these nodes and have so many terms. No item stands too deep,
-- where the level itself stands so deep.
record Has (base : ℕ) (here : List Symbol) (level : Level) (terms : ℕ) : Type 0 where
  before : ℕ
  syntax : Any
  behind : ℕ
  spelled : here ≡ gap_symbols before ++ (any_symbols syntax ++ gap_symbols behind)
  level_is : level ≡ level_of syntax
  terms_are : terms ≡ any_terms syntax
  low : base + any_depth syntax ≤ 64

-- it will be, with any item that isn't too deep
abbrev Waits : ℕ → List Symbol → Level → ℕ → Type 0
Waits base here level terms = (i : Item) → base + (level.negations + item_depth i) ≤ 64
    → Has base (here ++ item_symbols i) (with_item (nodes_of (item_tree i)) level) (terms + item_terms i)

Has-at : {base : ℕ} {here there : List Symbol} {level other_level : Level} {terms other_terms : ℕ}
    → Has base here level terms → there ≡ here → other_level ≡ level → other_terms ≡ terms
    → Has base there other_level other_terms
Has-at h e f g = record {
  before = h.before;
  syntax = h.syntax;
  behind = h.behind;
  spelled = e ∙ h.spelled;
  level_is = f ∙ h.level_is;
  terms_are = g ∙ h.terms_are;
  low = h.low;
}

Waits-at : (base : ℕ) (here there : List Symbol) (level : Level) (terms : ℕ) → there ≡ here
    → Waits base here level terms → Waits base there level terms
Waits-at base here there level terms is waits i low =
    Has-at (waits i low) (ap (λ (xs : List Symbol). xs ++ item_symbols i) is) refl refl

-- nothing but spaces came
Waits-begin : (base n : ℕ) → Waits base (gap_symbols n) no_level 0
Waits-begin base n i low = record {
  before = n;
  syntax = sole (one i);
  behind = 0;
  spelled = ap (λ (xs : List Symbol). gap_symbols n ++ xs) (sym (append-nil (item_symbols i)));
  level_is = ap (λ (xs : List Node). level_at [] xs) (append-nil (nodes_of (item_tree i)));
  terms_are = omega arith;
  low = omega arith;
}

-- one negation more
negated_level : (level : Level) (t : Tree) → with_item (nodes_of t) (record level { negations = level.negations + 1 })
    ≡ with_item (nodes_of t ++ (node.Not ∷ [])) level
negated_level level t = ap (λ (xs : List Node). level_at level.alternatives (with_operand node.And level.items xs))
    (denied_more level.negations (nodes_of t))

Waits-dash : (base : ℕ) (here : List Symbol) (level : Level) (terms : ℕ) → Waits base here level terms
    → Waits base (here ++ (dash ∷ [])) (record level { negations = level.negations + 1 }) terms
Waits-dash base here level terms waits i low =
    Has-at (waits (dashed i) (omega arith)) (append_assoc here (dash ∷ []) (item_symbols i))
    (negated_level level (item_tree i)) refl

Waits-not : (base : ℕ) (here : List Symbol) (level : Level) (terms : ℕ) → Waits base here level terms → (n : ℕ)
    → Waits base ((here ++ (word not_word ∷ [])) ++ gap_symbols n) (record level { negations = level.negations + 1 })
    terms
Waits-not base here level terms waits n i low =
    Has-at (waits (negated n i) (omega arith)) (regroup here (word not_word) (gap_symbols n) (item_symbols i))
    (negated_level level (item_tree i)) refl
  where
    regroup : (a : List Symbol) (x : Symbol) (b c : List Symbol) → ((a ++ (x ∷ [])) ++ b) ++ c ≡ a ++ (x ∷ (b ++ c))
    regroup a x b c = simp append_assoc

-- ---- one item more

-- what makes one item more of items
record Longer (between : List Symbol) (i : Item) (longer : All → All) : Type 0 where
  symbols : (a : All) → all_symbols (longer a) ≡ all_symbols a ++ (between ++ item_symbols i)
  tree : (a : All) → all_tree (longer a) ≡ both (all_tree a) (item_tree i)
  depth_is : (a : All) → all_depth (longer a) ≡ max (all_depth a) (item_depth i)
  terms_are : (a : All) → all_terms (longer a) ≡ all_terms a + item_terms i

-- makes them of the last alternative
abbrev with_last : (All → All) → Any → Any
with_last longer (sole a) = sole (longer a)
with_last longer (other b n m a) = other b n m (longer a)

with_last-symbols : (between : List Symbol) (i : Item) (longer : All → All) → Longer between i longer → (a : Any)
    → any_symbols (with_last longer a) ≡ any_symbols a ++ (between ++ item_symbols i)
with_last-symbols between i longer l (sole a) = l.symbols a
with_last-symbols between i longer l (other b n m a) =
    ap (λ (xs : List Symbol). any_symbols b ++ (gap_symbols n ++ (word or_word ∷ (gap_symbols m ++ xs)))) (l.symbols a)
    ∙ regroup (any_symbols b) (gap_symbols n) (word or_word) (gap_symbols m) (all_symbols a) (between ++ item_symbols i)
  where
    regroup : (a b : List Symbol) (x : Symbol) (c d e : List Symbol)
        → a ++ (b ++ (x ∷ (c ++ (d ++ e)))) ≡ (a ++ (b ++ (x ∷ (c ++ d)))) ++ e
    regroup a b x c d e = simp append_assoc

-- their level
last_level : (alternatives : List Node) (s t longer : Tree) → longer ≡ both s t
    → level_at alternatives (with_operand node.And (nodes_of s) (denied 0 (nodes_of t)))
    ≡ level_at alternatives (nodes_of longer)
last_level alternatives s t longer is = ap (level_at alternatives) (with_operand-item s t ∙ ap nodes_of (sym is))

with_last-level : (between : List Symbol) (i : Item) (longer : All → All) → Longer between i longer → (a : Any)
    → with_item (nodes_of (item_tree i)) (level_of a) ≡ level_of (with_last longer a)
with_last-level between i longer l (sole a) = last_level [] (all_tree a) (item_tree i) (all_tree (longer a)) (l.tree a)
with_last-level between i longer l (other b n m a) =
    last_level (nodes_of (any_tree b)) (all_tree a) (item_tree i) (all_tree (longer a)) (l.tree a)

with_last-terms : (between : List Symbol) (i : Item) (longer : All → All) → Longer between i longer → (a : Any)
    → any_terms a + item_terms i ≡ any_terms (with_last longer a)
with_last-terms between i longer l (sole a) = sym (l.terms_are a)
with_last-terms between i longer l (other b n m a) = let e : all_terms (longer a) ≡ all_terms a + item_terms i =
    l.terms_are a in omega arith

with_last-depth : (between : List Symbol) (i : Item) (longer : All → All) → Longer between i longer
    → (a : Any) (base : ℕ) → base + any_depth a ≤ 64 → base + item_depth i ≤ 64
    → base + any_depth (with_last longer a) ≤ 64
with_last-depth between i longer l (sole a) base low deep =
    let e : all_depth (longer a) ≡ max (all_depth a) (item_depth i) = l.depth_is a in omega arith
with_last-depth between i longer l (other b n m a) base low deep =
    let e : all_depth (longer a) ≡ max (all_depth a) (item_depth i) = l.depth_is a in omega arith

Waits-longer : (base : ℕ) (here : List Symbol) (level : Level) (terms : ℕ) (between : List Symbol)
    (longer : ℕ → Item → All → All) → ((n : ℕ) (i : Item) → Longer (gap_symbols n ++ between) i (longer n i))
    → Has base here level terms → Waits base (here ++ between) level terms
Waits-longer base here level terms between longer l h i low = record {
  before = h.before;
  syntax = with_last (longer h.behind i) h.syntax;
  behind = 0;
  spelled =
      ap (λ (xs : List Symbol). (xs ++ between) ++ item_symbols i) h.spelled
      ∙ regroup (gap_symbols h.before) (any_symbols h.syntax) (gap_symbols h.behind) between (item_symbols i)
      ∙ ap (λ (xs : List Symbol). gap_symbols h.before ++ (xs ++ []))
      (sym (with_last-symbols _ i (longer h.behind i) (l h.behind i) h.syntax));
  level_is = ap (with_item (nodes_of (item_tree i))) h.level_is
      ∙ with_last-level _ i (longer h.behind i) (l h.behind i) h.syntax;
  terms_are =
      ap (λ (n : ℕ). n + item_terms i) h.terms_are ∙ with_last-terms _ i (longer h.behind i) (l h.behind i) h.syntax;
  low = with_last-depth _ i (longer h.behind i) (l h.behind i) h.syntax base h.low (omega arith);
}
  where
    regroup : (a b c d e : List Symbol) → ((a ++ (b ++ c)) ++ d) ++ e ≡ a ++ ((b ++ ((c ++ d) ++ e)) ++ [])
    regroup a b c d e = simp (append_assoc, append-nil)

Waits-beside : (base : ℕ) (here : List Symbol) (level : Level) (terms : ℕ) → Has base here level terms
    → Waits base here level terms
Waits-beside base here level terms h =
    Waits-at base (here ++ []) here level terms (sym (append-nil here))
    (Waits-longer base here level terms [] (λ n i a. beside a n i) longer h)
  where
    longer : (n : ℕ) (i : Item) → Longer (gap_symbols n ++ []) i (λ a. beside a n i)
    longer n i = record {
      symbols =
          λ a. ap (λ (xs : List Symbol). all_symbols a ++ (xs ++ item_symbols i)) (sym (append-nil (gap_symbols n)));
      tree = λ a. refl;
      depth_is = λ a. refl;
      terms_are = λ a. refl;
    }

Waits-and : (base : ℕ) (here : List Symbol) (level : Level) (terms : ℕ) → Has base here level terms → (m : ℕ)
    → Waits base ((here ++ (word and_word ∷ [])) ++ gap_symbols m) level terms
Waits-and base here level terms h m =
    Waits-at base (here ++ (word and_word ∷ gap_symbols m)) _ level terms
    (append_assoc here (word and_word ∷ []) (gap_symbols m))
    (Waits-longer base here level terms (word and_word ∷ gap_symbols m) (λ n i a. joined a n m i) longer h)
  where
    longer : (n : ℕ) (i : Item) → Longer (gap_symbols n ++ (word and_word ∷ gap_symbols m)) i (λ a. joined a n m i)
    longer n i = record {
      symbols = λ a. ap (λ (xs : List Symbol). all_symbols a ++ xs)
          (sym (append_assoc (gap_symbols n) (word and_word ∷ gap_symbols m) (item_symbols i)));
      tree = λ a. refl;
      depth_is = λ a. refl;
      terms_are = λ a. refl;
    }

-- ---- alternatives, parentheses, spaces

level_nodes-Has : {base : ℕ} {here : List Symbol} {level : Level} {terms : ℕ} → (h : Has base here level terms)
    → level_nodes level ≡ nodes_of (any_tree h.syntax)
level_nodes-Has h = ap level_nodes h.level_is ∙ level_nodes-level_of h.syntax

Waits-or : (base : ℕ) (here : List Symbol) (level : Level) (terms : ℕ) → Has base here level terms → (m : ℕ)
    → Waits base ((here ++ (word or_word ∷ [])) ++ gap_symbols m) (level_at (level_nodes level) []) terms
Waits-or base here level terms h m i low = record {
  before = h.before;
  syntax = other h.syntax h.behind m (one i);
  behind = 0;
  spelled =
      ap (λ (xs : List Symbol). ((xs ++ (word or_word ∷ [])) ++ gap_symbols m) ++ item_symbols i) h.spelled
      ∙ regroup (gap_symbols h.before) (any_symbols h.syntax) (gap_symbols h.behind) (word or_word) (gap_symbols m)
      (item_symbols i);
  level_is = ap (λ (xs : List Node). level_at xs (nodes_of (item_tree i) ++ [])) (level_nodes-Has h)
      ∙ ap (level_at (nodes_of (any_tree h.syntax))) (append-nil (nodes_of (item_tree i)));
  terms_are = ap (λ (n : ℕ). n + item_terms i) h.terms_are;
  low = let deep : base + any_depth h.syntax ≤ 64 = h.low in omega arith;
}
  where
    regroup : (a b c : List Symbol) (x : Symbol) (d e : List Symbol)
        → (((a ++ (b ++ c)) ++ (x ∷ [])) ++ d) ++ e ≡ a ++ ((b ++ (c ++ (x ∷ (d ++ e)))) ++ [])
    regroup a b c x d e = simp (append_assoc, append-nil)

Has-close : (base : ℕ) (front here : List Symbol) (level inner : Level) (terms inner_terms : ℕ)
    → Waits base front level terms → Has (level.negations + 1 + base) here inner inner_terms
    → Has base (front ++ (opens ∷ (here ++ (closes ∷ [])))) (with_item (level_nodes inner) level) (terms + inner_terms)
Has-close base front here level inner terms inner_terms waits h =
    Has-at (waits (grouped h.before h.syntax h.behind) (deep (any_depth h.syntax) h.low))
    (ap (λ (xs : List Symbol). front ++ (opens ∷ (xs ++ (closes ∷ [])))) h.spelled
    ∙ ap (λ (xs : List Symbol). front ++ (opens ∷ xs))
    (append_last (gap_symbols h.before) (any_symbols h.syntax) (gap_symbols h.behind) (closes ∷ [])))
    (ap (λ (xs : List Node). with_item xs level) (level_nodes-Has h))
    (ap (λ (n : ℕ). terms + n) h.terms_are)
  where
    deep : (n : ℕ) → level.negations + 1 + base + n ≤ 64 → base + (level.negations + (n + 1)) ≤ 64
    deep n low = omega arith

gap_more : (n : ℕ) → gap_symbols n ++ (gap ∷ []) ≡ gap_symbols (suc n)
gap_more zero = refl
gap_more (suc n) = ap (λ (xs : List Symbol). gap ∷ xs) (gap_more n)

Has-gap : (base : ℕ) (here : List Symbol) (level : Level) (terms : ℕ) → Has base here level terms
    → Has base (here ++ (gap ∷ [])) level terms
Has-gap base here level terms h = record {
  before = h.before;
  syntax = h.syntax;
  behind = suc h.behind;
  spelled =
      ap (λ (xs : List Symbol). xs ++ (gap ∷ [])) h.spelled
      ∙ append_last (gap_symbols h.before) (any_symbols h.syntax) (gap_symbols h.behind) (gap ∷ [])
      ∙ ap (λ (xs : List Symbol). gap_symbols h.before ++ (any_symbols h.syntax ++ xs)) (gap_more h.behind);
  level_is = h.level_is;
  terms_are = h.terms_are;
  low = h.low;
}

-- ---- what was read of a level, by what may come

abbrev Here : Next → ℕ → List Symbol → Level → ℕ → Type 0
Here first base here level terms = (n : ℕ) × (here ≡ gap_symbols n) × (level ≡ no_level) × (terms ≡ 0)
Here ended base here level terms = Has base here level terms
Here wanted base here level terms = (n : ℕ) → Waits base (here ++ gap_symbols n) level terms
Here touching base here level terms = Waits base here level terms

-- an item may always come
Here-waits : (next : Next) (base : ℕ) (here : List Symbol) (level : Level) (terms : ℕ) → Here next base here level terms
    → Waits base here level terms
Here-waits first base here level terms (n, is, none, no_terms) = λ i low.
    Has-at (Waits-begin base n i (deep level.negations (item_depth i) low))
    (ap (λ (xs : List Symbol). xs ++ item_symbols i) is) (ap (with_item (nodes_of (item_tree i))) none)
    (ap (λ (k : ℕ). k + item_terms i) no_terms)
  where
    deep : (n k : ℕ) → base + (n + k) ≤ 64 → base + (0 + k) ≤ 64
    deep n k low = omega arith
Here-waits ended base here level terms h = Waits-beside base here level terms h
Here-waits wanted base here level terms waits =
    Waits-at base (here ++ []) here level terms (sym (append-nil here)) (waits 0)
Here-waits touching base here level terms waits = waits

-- ---- what was read

-- the levels around: each waits for the group that has begun
abbrev Around : List Symbol → List Level → ℕ → Type 0
Around symbols [] terms = (symbols ≡ []) × (terms ≡ 0)
Around symbols (level ∷ around) terms =
    (outer : List Symbol) × (front : List Symbol) × (outer_terms : ℕ) × (front_terms : ℕ)
    × (symbols ≡ outer ++ (front ++ (opens ∷ [])))
    × Around outer around outer_terms × Waits (levels_depth around) front level front_terms
    × (terms ≡ outer_terms + front_terms)

record Reached (past : List Symbol) (around : List Level) (level : Level) (next : Next) (terms : ℕ) : Type 0 where
  outer : List Symbol
  here : List Symbol
  outer_terms : ℕ
  here_terms : ℕ
  past_is : past ≡ outer ++ here
  outside : Around outer around outer_terms
  inside : Here next (levels_depth around) here level here_terms
  terms_are : terms ≡ outer_terms + here_terms
  low : level.negations + levels_depth around ≤ 64
  few : terms ≤ 128

-- a state that is reached by these symbols
abbrev At : List Symbol → State → Type 0
At past s = Reached past s.around s.level s.next s.terms

At-some : (past : List Symbol) (s t : State) → Some s ≡ Some t → At past s → At past t
At-some past s t e h = subst (λ (u : State). At past u) (same_Some s t e) h

-- no negation waits any more
alone : (n base : ℕ) → n + base ≤ 64 → 0 + base ≤ 64
alone n base low = omega arith

-- one symbol more in the level
Reached-more : (past : List Symbol) (x : Symbol) (around : List Level) (level new_level : Level) (next new_next : Next)
    (terms new_terms n : ℕ) (h : Reached past around level next terms)
    → Here new_next (levels_depth around) (h.here ++ (x ∷ [])) new_level n → new_terms ≡ h.outer_terms + n
    → new_level.negations + levels_depth around ≤ 64 → new_terms ≤ 128
    → Reached (past ++ (x ∷ [])) around new_level new_next new_terms
Reached-more past x around level new_level next new_next terms new_terms n h inside terms_are low few = record {
  outer = h.outer;
  here = h.here ++ (x ∷ []);
  outer_terms = h.outer_terms;
  here_terms = n;
  past_is = ap (λ (xs : List Symbol). xs ++ (x ∷ [])) h.past_is ∙ append_assoc h.outer h.here (x ∷ []);
  outside = h.outside;
  inside = inside;
  terms_are = terms_are;
  low = low;
  few = few;
}

-- an item
Reached-item : (past : List Symbol) (x : Symbol) (around : List Level) (level : Level) (next : Next) (terms : ℕ)
    (i : Item) → item_symbols i ≡ x ∷ [] → item_depth i ≡ 0
    → terms + item_terms i ≤ 128 → Reached past around level next terms
    → Reached (past ++ (x ∷ [])) around (with_item (nodes_of (item_tree i)) level) ended (terms + item_terms i)
Reached-item past x around level next terms i is flat few h =
    Reached-more past x around level (with_item (nodes_of (item_tree i)) level) next ended terms (terms + item_terms i)
    (h.here_terms + item_terms i) h
    (Has-at (Here-waits next (levels_depth around) h.here level h.here_terms h.inside i
    (deep level.negations (levels_depth around) (item_depth i) flat h.low))
    (ap (λ (xs : List Symbol). h.here ++ xs) (sym is)) refl refl)
    (sums terms h.outer_terms h.here_terms (item_terms i) h.terms_are)
    (alone level.negations (levels_depth around) h.low) few
  where
    deep : (n base d : ℕ) → d ≡ 0 → n + base ≤ 64 → base + (n + d) ≤ 64
    deep n base d flat low = omega arith

    sums : (a b c d : ℕ) → a ≡ b + c → a + d ≡ b + (c + d)
    sums a b c d e = omega arith

-- ---- what each symbol makes of it

abbrev of : List Level → Level → Next → ℕ → State
of around level next terms = record { around = around; level = level; next = next; terms = terms }

At-gap : (past : List Symbol) (around : List Level) (level : Level) (next : Next) (terms : ℕ) (t : State)
    → Reached past around level next terms → after_gap (of around level next terms) next ≡ Some t
    → At (past ++ (gap ∷ [])) t
At-gap past around level first terms t h e =
    let inside : Here first (levels_depth around) h.here level h.here_terms = h.inside in
    At-some _ (of around level first terms) t e
    (Reached-more past gap around level level first first terms terms h.here_terms h
    (suc inside.0, ap (λ (xs : List Symbol). xs ++ (gap ∷ [])) inside.1 ∙ gap_more inside.0, inside.2, inside.3)
    h.terms_are h.low h.few)
At-gap past around level ended terms t h e =
    At-some _ (of around level ended terms) t e
    (Reached-more past gap around level level ended ended terms terms h.here_terms h
    (Has-gap (levels_depth around) h.here level h.here_terms h.inside) h.terms_are h.low h.few)
At-gap past around level wanted terms t h e =
    let inside : Here wanted (levels_depth around) h.here level h.here_terms = h.inside in
    At-some _ (of around level wanted terms) t e
    (Reached-more past gap around level level wanted wanted terms terms h.here_terms h
    (λ n. Waits-at (levels_depth around) (h.here ++ gap_symbols (suc n)) _ level h.here_terms
    (append_assoc h.here (gap ∷ []) (gap_symbols n)) (inside (suc n))) h.terms_are h.low h.few)
At-gap past around level touching terms t h e = absurd (none-some t e)

-- what is read isn't too deep
shallow-some : (s t : State) → if_shallow s ≡ Some t → (depth s ≤ 64) × (Some s ≡ Some t)
shallow-some s t e = decided (nat_lt 64 (depth s)) refl e
  where
    decided : (b : Bool) → nat_lt 64 (depth s) ≡ b → (if b then None else Some s) ≡ Some t
        → (depth s ≤ 64) × (Some s ≡ Some t)
    decided true is e = absurd (none-some t e)
    decided false is e = (ltb-false 64 (depth s) is, e)

At-open : (past : List Symbol) (around : List Level) (level : Level) (next : Next) (terms : ℕ) (t : State)
    → Reached past around level next terms → if_shallow (after_open (of around level next terms)) ≡ Some t
    → At (past ++ (opens ∷ [])) t
At-open past around level next terms t h e =
    let s : State = after_open (of around level next terms) in
    let read : (depth s ≤ 64) × (Some s ≡ Some t) = shallow-some s t e in
    At-some (past ++ (opens ∷ [])) s t read.1 (record {
      outer = h.outer ++ (h.here ++ (opens ∷ []));
      here = [];
      outer_terms = h.outer_terms + h.here_terms;
      here_terms = 0;
      past_is = ap (λ (xs : List Symbol). xs ++ (opens ∷ [])) h.past_is ∙ regroup h.outer h.here (opens ∷ []);
      outside = (
        h.outer,
        h.here,
        h.outer_terms,
        h.here_terms,
        refl,
        h.outside,
        Here-waits next (levels_depth around) h.here level h.here_terms h.inside,
        refl,
      );
      inside = (0, refl, refl, refl);
      terms_are = h.terms_are ∙ sym (add-zero (h.outer_terms + h.here_terms));
      low = read.0;
      few = h.few;
    })
  where
    regroup : (a b c : List Symbol) → (a ++ b) ++ c ≡ (a ++ (b ++ c)) ++ []
    regroup a b c = simp (append_assoc, append-nil)

At-negation : (past : List Symbol) (x : Symbol) (around : List Level) (level : Level) (next new_next : Next)
    (terms : ℕ) (t : State) (h : Reached past around level next terms) → Here new_next (levels_depth around)
    (h.here ++ (x ∷ [])) (record level { negations = level.negations + 1 }) h.here_terms
    → if_shallow (one_negation_more new_next (of around level next terms)) ≡ Some t → At (past ++ (x ∷ [])) t
At-negation past x around level next new_next terms t h inside e =
    let s : State = one_negation_more new_next (of around level next terms) in
    let read : (depth s ≤ 64) × (Some s ≡ Some t) = shallow-some s t e in
    At-some (past ++ (x ∷ [])) s t read.1
    (Reached-more past x around level (record level { negations = level.negations + 1 }) next new_next terms terms
    h.here_terms h inside h.terms_are read.0 h.few)

At-close : (past : List Symbol) (around : List Level) (level : Level) (next : Next) (terms : ℕ) (t : State)
    → Reached past around level next terms → after_close (of around level next terms) next around ≡ Some t
    → At (past ++ (closes ∷ [])) t
At-close past around level first terms t h e = absurd (none-some t e)
At-close past around level wanted terms t h e = absurd (none-some t e)
At-close past around level touching terms t h e = absurd (none-some t e)
At-close past [] level ended terms t h e = absurd (none-some t e)
At-close past (o ∷ around) level ended terms t h e =
    let outside : Around h.outer (o ∷ around) h.outer_terms = h.outside in
    At-some (past ++ (closes ∷ [])) (closed (level_nodes level) o around (of (o ∷ around) level ended terms)) t e
    (record {
      outer = outside.0;
      here = outside.1 ++ (opens ∷ (h.here ++ (closes ∷ [])));
      outer_terms = outside.2;
      here_terms = outside.3 + h.here_terms;
      past_is =
          ap (λ (xs : List Symbol). xs ++ (closes ∷ [])) (h.past_is ∙ ap (λ (xs : List Symbol). xs ++ h.here) outside.4)
          ∙ regroup outside.0 outside.1 opens h.here (closes ∷ []);
      outside = outside.5;
      inside = Has-close (levels_depth around) outside.1 h.here o level outside.3 h.here_terms outside.6 h.inside;
      terms_are = sums terms h.outer_terms h.here_terms outside.2 outside.3 h.terms_are outside.7;
      low = less level.negations o.negations (levels_depth around) h.low;
      few = h.few;
    })
  where
    regroup : (a b : List Symbol) (x : Symbol) (c d : List Symbol)
        → ((a ++ (b ++ (x ∷ []))) ++ c) ++ d ≡ a ++ (b ++ (x ∷ (c ++ d)))
    regroup a b x c d = simp append_assoc

    sums : (a b c d e : ℕ) → a ≡ b + c → b ≡ d + e → a ≡ d + (e + c)
    sums a b c d e f g = omega arith

    less : (n m base : ℕ) → n + (m + 1 + base) ≤ 64 → 0 + base ≤ 64
    less n m base low = omega arith

At-and : (past : List Symbol) (around : List Level) (level : Level) (next : Next) (terms : ℕ) (t : State)
    → Reached past around level next terms → after_and (of around level next terms) next ≡ Some t
    → At (past ++ (word and_word ∷ [])) t
At-and past around level first terms t h e = absurd (none-some t e)
At-and past around level wanted terms t h e = absurd (none-some t e)
At-and past around level touching terms t h e = absurd (none-some t e)
At-and past around level ended terms t h e =
    At-some (past ++ (word and_word ∷ [])) (of around level wanted terms) t e
    (Reached-more past (word and_word) around level level ended wanted terms terms h.here_terms h
    (Waits-and (levels_depth around) h.here level h.here_terms h.inside) h.terms_are h.low h.few)

At-or : (past : List Symbol) (around : List Level) (level : Level) (next : Next) (terms : ℕ) (t : State)
    → Reached past around level next terms → after_or (of around level next terms) next ≡ Some t
    → At (past ++ (word or_word ∷ [])) t
At-or past around level first terms t h e = absurd (none-some t e)
At-or past around level wanted terms t h e = absurd (none-some t e)
At-or past around level touching terms t h e = absurd (none-some t e)
At-or past around level ended terms t h e =
    let begun : Level = level_at (level_nodes level) [] in
    At-some (past ++ (word or_word ∷ [])) (of around begun wanted terms) t e
    (Reached-more past (word or_word) around level begun ended wanted terms terms h.here_terms h
    (Waits-or (levels_depth around) h.here level h.here_terms h.inside) h.terms_are
    (alone level.negations (levels_depth around) h.low) h.few)

At-term : (past : List Symbol) (around : List Level) (level : Level) (next : Next) (terms : ℕ) (t : State)
    (text : List ℕ) (o : Option Term) → term_of text ≡ o → Reached past around level next terms
    → after_term (of around level next terms) o ≡ Some t → At (past ++ (word text ∷ [])) t
At-term past around level next terms t text None is h e = absurd (none-some t e)
At-term past around level next terms t text (Some u) is h e = decided (nat_lt 127 terms) refl e
  where
    s : State
    s = of around (with_item (node.Term u ∷ []) level) ended (terms + 1)

    decided : (b : Bool) → nat_lt 127 terms ≡ b → (if b then None else Some s) ≡ Some t
        → At (past ++ (word text ∷ [])) t
    decided true many e = absurd (none-some t e)
    decided false few e =
        At-some (past ++ (word text ∷ [])) s t e
        (Reached-item past (word text) around level next terms (term text u is) refl refl
        (more terms (ltb-false 127 terms few)) h)
      where
        more : (n : ℕ) → n ≤ 127 → n + 1 ≤ 128
        more n few = omega arith

At-word : (past : List Symbol) (around : List Level) (level : Level) (next : Next) (terms : ℕ) (t : State)
    (text : List ℕ) → Reached past around level next terms → after_word (of around level next terms) text ≡ Some t
    → At (past ++ (word text ∷ [])) t
At-word past around level next terms t text h e = decided (is_and text) (is_or text) (is_not text) refl refl refl e
  where
    s : State
    s = of around level next terms

    spelled : (keyword : List ℕ) → bytes_eq text keyword ≡ true → At (past ++ (word keyword ∷ [])) t
        → At (past ++ (word text ∷ [])) t
    spelled keyword is at =
        subst (λ (w : List ℕ). At (past ++ (word w ∷ [])) t) (sym ((bytes_eq-Decides text keyword).0 is)) at

    decided : (a b c : Bool) → is_and text ≡ a → is_or text ≡ b → is_not text ≡ c
        →
        (if a then after_and s next else (if b then after_or s next else
        (if c then if_shallow (one_negation_more wanted s) else after_term s (term_of text)))) ≡ Some t
        → At (past ++ (word text ∷ [])) t
    decided true b c is or_is not_is e = spelled and_word is (At-and past around level next terms t h e)
    decided false true c and_is is not_is e = spelled or_word is (At-or past around level next terms t h e)
    decided false false true and_is or_is is e =
        spelled not_word is (At-negation past (word not_word) around level next wanted terms t h
        (Waits-not (levels_depth around) h.here level h.here_terms
        (Here-waits next (levels_depth around) h.here level h.here_terms h.inside)) e)
    decided false false false and_is or_is not_is e =
        At-term past around level next terms t text (term_of text) refl h e

At-symbol : (past : List Symbol) (x : Symbol) (s t : State) → At past s → after_symbol s x ≡ Some t
    → At (past ++ (x ∷ [])) t
At-symbol past gap s t h e = At-gap past s.around s.level s.next s.terms t h e
At-symbol past opens s t h e = At-open past s.around s.level s.next s.terms t h e
At-symbol past closes s t h e = At-close past s.around s.level s.next s.terms t h e
At-symbol past dash s t h e =
    At-negation past dash s.around s.level s.next touching s.terms t h
    (Waits-dash (levels_depth s.around) h.here s.level h.here_terms
    (Here-waits s.next (levels_depth s.around) h.here s.level h.here_terms h.inside)) e
At-symbol past sample s t h e =
    At-some (past ++ (sample ∷ [])) (after_item (nodes_of (item_tree added)) s) t e
    (subst (λ (n : ℕ). Reached (past ++ (sample ∷ [])) s.around (with_item (nodes_of (item_tree added)) s.level) ended
    n) (add-zero s.terms)
    (Reached-item past sample s.around s.level s.next s.terms added refl refl
    (subst (λ (n : ℕ). n ≤ 128) (sym (add-zero s.terms)) h.few) h))
At-symbol past (word text) s t h e = At-word past s.around s.level s.next s.terms t text h e

At-symbols : (past symbols : List Symbol) (s t : State) → At past s → after_symbols s symbols ≡ Some t
    → At (past ++ symbols) t
At-symbols past [] s t h e =
    At-some (past ++ []) s t e (subst (λ (xs : List Symbol). At xs s) (sym (append-nil past)) h)
At-symbols past (x ∷ symbols) s t h e =
    option_and_then_some (λ (u : State). after_symbols u symbols) (after_symbol s x) t e
    (λ u is more. subst (λ (xs : List Symbol). At xs t) (append_assoc past (x ∷ []) symbols)
    (At-symbols (past ++ (x ∷ [])) symbols u t (At-symbol past x s u h is) more))

-- ---- the end

query_of : (symbols : List Symbol) (around : List Level) (level : Level) (next : Next) (terms : ℕ) (nodes : List Node)
    → Reached symbols around level next terms → at_end next around level ≡ Some nodes
    → (t : Option Tree) × (nodes ≡ all_nodes t) × IsQuery symbols t
query_of symbols (o ∷ around) level first terms nodes h e = absurd (none-some nodes e)
query_of symbols (o ∷ around) level ended terms nodes h e = absurd (none-some nodes e)
query_of symbols around level wanted terms nodes h e = absurd (none-some nodes e)
query_of symbols around level touching terms nodes h e = absurd (none-some nodes e)
query_of symbols [] level first terms nodes h e =
    let outside : Around h.outer [] h.outer_terms = h.outside in
    let inside : Here first 0 h.here level h.here_terms = h.inside in (
      None,
      sym (same_Some [] nodes e),
      (
        inside.0,
        h.past_is ∙ ap (λ (xs : List Symbol). xs ++ h.here) outside.0
            ∙ inside.1,
      ),
    )
query_of symbols [] level ended terms nodes h e =
    let outside : Around h.outer [] h.outer_terms = h.outside in
    let inside : Has 0 h.here level h.here_terms = h.inside in (
      Some (any_tree inside.syntax),
      sym (same_Some (level_nodes level) nodes e) ∙ level_nodes-Has inside,
      (
        inside.before,
        inside.syntax,
        inside.behind,
        h.past_is ∙ ap (λ (xs : List Symbol). xs ++ h.here) outside.0 ∙ inside.spelled,
        refl,
        low (any_depth inside.syntax) inside.low,
        few terms h.outer_terms h.here_terms (any_terms inside.syntax) h.terms_are outside.1 inside.terms_are h.few,
      ),
    )
  where
    low : (n : ℕ) → 0 + n ≤ 64 → n ≤ 64
    low n h = omega arith

    few : (a b c d : ℕ) → a ≡ b + c → b ≡ 0 → c ≡ d → a ≤ 128 → d ≤ 128
    few a b c d e f g h = omega arith

At-start : At [] start
At-start = record {
  outer = [];
  here = [];
  outer_terms = 0;
  here_terms = 0;
  past_is = refl;
  outside = (refl, refl);
  inside = (0, refl, refl, refl);
  terms_are = refl;
  low = omega arith;
  few = omega arith;
}

-- what is read to its end is a query, and has its nodes
pub found : (symbols : List Symbol) (s : State) (nodes : List Node) → after_symbols start symbols ≡ Some s
    → nodes_read s ≡ Some nodes → (t : Option Tree) × (nodes ≡ all_nodes t) × IsQuery symbols t
found symbols s nodes read e =
    query_of symbols s.around s.level s.next s.terms nodes (At-symbols [] symbols start s At-start read) e
