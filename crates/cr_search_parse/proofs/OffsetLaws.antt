-- SPDX-License-Identifier: Apache-2.0 OR MIT
-- Where the reader stops, the text stops being the beginning of a query; and a text spells one query at most.
use Rattle.std.proofs.Common.{◌≡◌, ℕ, ◌+◌, ◌≤◌, ◌<◌, List, [], ◌∷◌, ◌++◌, length, take, drop, replicate, Option, Some}
use Rattle.std.proofs.Common.{None, refl, sym, ap, subst, ◌∙◌, arith, take_all, take-take, take-append-drop, le_refl}
use Rattle.std.proofs.lemmas.List.Concat.{flat_map-append}
use Rattle.std.proofs.lemmas.Option.{none-some, same_Some, option_and_then_some}
use Rattle.cr_base.specs.Search.{Tree, all_nodes, tree_of}
use Rattle.cr_base.specs.declared.search.Node.{Node}
use Rattle.cr_base.specs.declared.search.Node.TheVariants as node
use Rattle.cr_base.specs.declared.search.Term.TheVariants as terms
use Rattle.cr_search_parse.specs.Grammar.{Symbol, closes, sample, run_symbols, symbols_of, IsQuery}
use Rattle.cr_search_parse.specs.Offsets.{IsGood, IsOffset}
use Rattle.cr_search_parse.specs.Reading.{Level, State, ended, start, with_item, level_nodes, after_symbols, nodes_read}
use Rattle.cr_search_parse.specs.Runs.{Run, runs_length}
use Rattle.cr_search_parse.proofs.Complete.{only}
use Rattle.cr_search_parse.proofs.ReaderLaws.{after_row, after_symbols-append}
use Rattle.cr_search_parse.proofs.Sound.{found}
use Rattle.cr_search_parse.proofs.TreeLaws.{tree_of-all_nodes}

-- ---- what is read can be completed

-- all open parentheses are closed
close_all : (around : List Level) (level : Level) (terms : ℕ)
    → (t : State)
    × (after_symbols (record { around = around; level = level; next = ended; terms = terms })
    (replicate (length around) closes) ≡ Some t) × (nodes : List Node) × (nodes_read t ≡ Some nodes)
close_all [] level terms =
    (record { around = []; level = level; next = ended; terms = terms }, refl, level_nodes level, refl)
close_all (outer ∷ around) level terms = close_all around (with_item (level_nodes level) outer) terms

good : (runs : List Run) (s : State) → after_symbols start (symbols_of runs) ≡ Some s → IsGood runs
good runs s read = (length s.around, query.0, query.2)
  where
    closed : (t : State)
        ×
        (after_symbols (record {
          around = s.around;
          level = with_item (node.Term (terms.Plain []) ∷ []) s.level;
          next = ended;
          terms = s.terms;
        }) (replicate (length s.around) closes) ≡ Some t) × (nodes : List Node)
        × (nodes_read t ≡ Some nodes)
    closed = close_all s.around (with_item (node.Term (terms.Plain []) ∷ []) s.level) s.terms

    query : (t : Option Tree) × (closed.2 ≡ all_nodes t)
        × IsQuery (symbols_of runs ++ (sample ∷ replicate (length s.around) closes)) t
    query = found (symbols_of runs ++ (sample ∷ replicate (length s.around) closes)) closed.0 closed.2
        (after_row start s (symbols_of runs) (sample ∷ replicate (length s.around) closes) read ∙ closed.1) closed.3

-- ---- what begins with symbols that are read, and with some that aren't

front_read : (xs ys : List Symbol) (t : State) → after_symbols start (xs ++ ys) ≡ Some t
    → (s : State) × (after_symbols start xs ≡ Some s)
front_read xs ys t read =
    option_and_then_some (λ (u : State). after_symbols u ys) (after_symbols start xs) t
    (sym (after_symbols-append start xs ys) ∙ read) (λ s is more. (s, is))

-- the symbols of runs that begin with these
symbols_split : (k : ℕ) (runs : List Run) → symbols_of runs ≡ symbols_of (take k runs) ++ symbols_of (drop k runs)
symbols_split k runs =
    ap symbols_of (sym (take-append-drop k runs)) ∙ flat_map-append run_symbols (take k runs) (drop k runs)

take_good : (k : ℕ) (runs : List Run) (s : State) → after_symbols start (symbols_of runs) ≡ Some s
    → IsGood (take k runs)
take_good k runs s read =
    let front : (u : State) × (after_symbols start (symbols_of (take k runs)) ≡ Some u) =
    front_read (symbols_of (take k runs)) (symbols_of (drop k runs)) s
    (ap (after_symbols start) (sym (symbols_split k runs)) ∙ read) in
    good (take k runs) front.0 front.1

-- what isn't read begins no query
no_query : (xs ys : List Symbol) (t : Option Tree) → after_symbols start xs ≡ None → IsQuery (xs ++ ys) t → ⊥
no_query xs ys t unread query =
    let whole : (s : State) × (after_symbols start (xs ++ ys) ≡ Some s) × (nodes_read s ≡ Some (all_nodes t)) =
    only (xs ++ ys) t query in
    let front : (s : State) × (after_symbols start xs ≡ Some s) = front_read xs ys whole.0 whole.1 in
    none-some front.0 (sym unread ∙ front.1)

-- ---- offsets

-- the reader stops at a run
pub stuck : (runs : List Run) (n : ℕ) (s : State) → n < length runs
    → after_symbols start (symbols_of (take n runs)) ≡ Some s
    → after_symbols start (symbols_of (take (n + 1) runs)) ≡ None → IsOffset runs (runs_length (take n runs))
    × ((t : Option Tree) → IsQuery (symbols_of runs) t → ⊥)
stuck runs n s more read unread = ((n, within n (length runs) more, refl, before, behind), none)
  where
    within : (a b : ℕ) → a < b → a ≤ b
    within a b h = omega arith

    before : (k : ℕ) → k ≤ n → IsGood (take k runs)
    before k low = subst (λ (xs : List Run). IsGood xs) (take-take k n runs low) (take_good k (take n runs) s read)

    behind : n < length runs → IsGood (take (n + 1) runs) → ⊥
    behind h (closings, t, query) =
        no_query (symbols_of (take (n + 1) runs)) (sample ∷ replicate closings closes) t unread query

    none : (t : Option Tree) → IsQuery (symbols_of runs) t → ⊥
    none t query = no_query (symbols_of (take (n + 1) runs)) (symbols_of (drop (n + 1) runs)) t unread
        (subst (λ (xs : List Symbol). IsQuery xs t) (symbols_split (n + 1) runs) query)

-- the runs end too early
pub short : (runs : List Run) (s : State) → after_symbols start (symbols_of runs) ≡ Some s → nodes_read s ≡ None
    → IsOffset runs (runs_length runs) × ((t : Option Tree) → IsQuery (symbols_of runs) t → ⊥)
short runs s read open_end = (
  (
    length runs,
    le_refl (length runs),
    ap runs_length (sym (take_all (length runs) runs (le_refl (length runs)))),
    before,
    behind,
  ),
  none,
)
  where
    before : (k : ℕ) → k ≤ length runs → IsGood (take k runs)
    before k low = take_good k runs s read

    behind : length runs < length runs → IsGood (take (length runs + 1) runs) → ⊥
    behind h is_good = below (length runs) h
      where
        below : (n : ℕ) → n < n → ⊥
        below n h = omega arith

    none : (t : Option Tree) → IsQuery (symbols_of runs) t → ⊥
    none t query =
        let whole : (u : State) × (after_symbols start (symbols_of runs) ≡ Some u)
        × (nodes_read u ≡ Some (all_nodes t)) = only (symbols_of runs) t query in
        none-some (all_nodes t) (sym open_end ∙ ap nodes_read (same_Some s whole.0 (sym read ∙ whole.1)) ∙ whole.2)

-- ---- one tree

-- symbols are one query at most
pub one : (symbols : List Symbol) (t u : Option Tree) → IsQuery symbols t → IsQuery symbols u → t ≡ u
one symbols t u query other =
    let read : (s : State) × (after_symbols start symbols ≡ Some s) × (nodes_read s ≡ Some (all_nodes t)) =
    only symbols t query in
    let again : (s : State) × (after_symbols start symbols ≡ Some s) × (nodes_read s ≡ Some (all_nodes u)) =
    only symbols u other in
    let same : read.0 ≡ again.0 = same_Some read.0 again.0 (sym read.1 ∙ again.1) in
    sym (tree_of-all_nodes t)
    ∙ ap tree_of (same_Some (all_nodes t) (all_nodes u) (sym read.2 ∙ ap nodes_read same ∙ again.2))
    ∙ tree_of-all_nodes u
