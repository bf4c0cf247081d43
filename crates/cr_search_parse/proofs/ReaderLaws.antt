-- SPDX-License-Identifier: Apache-2.0 OR MIT
-- What the reader makes of symbols in a row, of spaces, and of words.
use Rattle.std.proofs.Common.{◌≡◌, ℕ, zero, suc, ◌+◌, ◌≤◌, Bool, true, false, List, [], ◌∷◌, ◌++◌, Option, Some, None}
use Rattle.std.proofs.Common.{replicate, if◌then◌else◌, bytes_eq, option_and_then, refl, sym, ap, ◌∙◌, append_assoc}
use Rattle.std.proofs.Common.{arith, add-one}
use Rattle.std.proofs.lemmas.Bool.{le-ltb}
use Rattle.std.proofs.lemmas.Option.{none-some}
use Rattle.std.proofs.lemmas.Slice.Eq.{bytes_eq-Decides}
use Rattle.cr_base.specs.declared.search.Node.{Node}
use Rattle.cr_base.specs.declared.search.Node.TheVariants as node
use Rattle.cr_base.specs.declared.search.Term.{Term}
use Rattle.cr_search_parse.specs.Grammar.{Symbol, gap, gap_symbols, and_word, or_word, not_word}
use Rattle.cr_search_parse.specs.Reading.{State, wanted, depth, denied, if_shallow, one_negation_more, after_gap}
use Rattle.cr_search_parse.specs.Reading.{after_item, after_and, after_or, after_term, after_word, after_symbol}
use Rattle.cr_search_parse.specs.Reading.{after_symbols}
use Rattle.cr_search_parse.specs.Terms.{term_of, is_or, is_not}

-- ---- symbols in a row

pub after_symbols-append : (s : State) (xs ys : List Symbol)
    → after_symbols s (xs ++ ys) ≡ option_and_then (λ (t : State). after_symbols t ys) (after_symbols s xs)
after_symbols-append s [] ys = refl
after_symbols-append s (x ∷ xs) ys = both_rows (after_symbol s x) (λ t. after_symbols-append t xs ys)
  where
    both_rows : (o : Option State) → ((t : State)
        → after_symbols t (xs ++ ys) ≡ option_and_then (λ (u : State). after_symbols u ys) (after_symbols t xs))
        → option_and_then (λ (t : State). after_symbols t (xs ++ ys)) o
        ≡ option_and_then (λ (u : State). after_symbols u ys) (option_and_then (λ (t : State). after_symbols t xs) o)
    both_rows None more = refl
    both_rows (Some t) more = more t

-- behind symbols that are read
pub after_row : (s t : State) (xs ys : List Symbol) → after_symbols s xs ≡ Some t
    → after_symbols s (xs ++ ys) ≡ after_symbols t ys
after_row s t xs ys read = after_symbols-append s xs ys ∙ ap (option_and_then (λ (u : State). after_symbols u ys)) read

-- behind one that is read
pub after_one : (s t : State) (x : Symbol) (ys : List Symbol) → after_symbol s x ≡ Some t
    → after_symbols s (x ∷ ys) ≡ after_symbols t ys
after_one s t x ys read = ap (option_and_then (λ (u : State). after_symbols u ys)) read

-- behind spaces, where they may stand
pub after_gaps : (s : State) (n : ℕ) (ys : List Symbol) → after_gap s s.next ≡ Some s
    → after_symbols s (gap_symbols n ++ ys) ≡ after_symbols s ys
after_gaps s zero ys may = refl
after_gaps s (suc n) ys may = after_one s s gap (gap_symbols n ++ ys) may ∙ after_gaps s n ys may

-- ---- limits

pub shallow : (s : State) → depth s ≤ 64 → if_shallow s ≡ Some s
shallow s h = ap (λ (b : Bool). if b then None else Some s) (le-ltb 64 (depth s) h)

-- ---- negations

pub denied_more : (n : ℕ) (item : List Node) → denied (n + 1) item ≡ denied n (item ++ (node.Not ∷ []))
denied_more n item =
    ap (λ (xs : List Node). item ++ xs) (one_more n) ∙ sym (append_assoc item (node.Not ∷ []) (replicate n node.Not))
  where
    one_more : (n : ℕ) → replicate (n + 1) node.Not ≡ node.Not ∷ replicate n node.Not
    one_more n = ap (λ (k : ℕ). replicate k node.Not) (add-one n)

-- ---- words

-- a word of two terms is none
word_between : (text other : List ℕ) (t : Term) → term_of other ≡ None → term_of text ≡ Some t
    → bytes_eq text other ≡ false
word_between text other t none is = decided (bytes_eq text other) refl
  where
    decided : (b : Bool) → bytes_eq text other ≡ b → b ≡ false
    decided false e = refl
    decided true e = absurd (none-some t (sym none ∙ sym (ap term_of ((bytes_eq-Decides text other).0 e)) ∙ is))

pub after_word-term : (s : State) (text : List ℕ) (t : Term) → term_of text ≡ Some t → s.terms + 1 ≤ 128
    → after_word s text ≡ Some (after_item (node.Term t ∷ []) (record s { terms = s.terms + 1 }))
after_word-term s text t is few =
    ap (λ (b : Bool). if b then after_and s s.next else
    (if is_or text then after_or s s.next else
    (if is_not text then if_shallow (one_negation_more wanted s) else after_term s (term_of text))))
    (word_between text and_word t refl is)
    ∙ ap (λ (b : Bool). if b then after_or s s.next else
    (if is_not text then if_shallow (one_negation_more wanted s) else after_term s (term_of text)))
    (word_between text or_word t refl is)
    ∙ ap (λ (b : Bool). if b then if_shallow (one_negation_more wanted s) else after_term s (term_of text))
    (word_between text not_word t refl is)
    ∙ ap (after_term s) is
    ∙ ap (λ (b : Bool). if b then None else Some (after_item (node.Term t ∷ []) (record s { terms = s.terms + 1 })))
    (le-ltb 127 s.terms (omega arith))
