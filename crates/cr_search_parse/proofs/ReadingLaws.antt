-- SPDX-License-Identifier: Apache-2.0 OR MIT
-- What each text is read as is what the grammar says of it, and it says nothing else.
use Rattle.std.proofs.Common.{◌≡◌, ◌⊎◌, inl, inr, ℕ, ◌+◌, ◌<◌, ◌≤◌, Bool, List, length, take, Option, Result, Ok, Err}
use Rattle.std.proofs.Common.{if◌then◌else◌, refl, ap, sym, ◌∙◌, subst, arith}
use Rattle.std.proofs.lemmas.Bool.{cases_lt, cases_order, lt-ltb}
use Rattle.cr_base.specs.Search.{Tree, all_nodes}
use Rattle.cr_base.specs.declared.search.Node.{Node}
use Rattle.cr_search_parse.specs.Grammar.{symbols_of}
use Rattle.cr_search_parse.specs.Laws.{GrammarSays}
use Rattle.cr_search_parse.specs.Offsets.{most_bytes, IsGood, IsOffset, Spells, IsBad}
use Rattle.cr_search_parse.specs.Reading.{start, runs_read, text_read}
use Rattle.cr_search_parse.specs.Runs.{Run, runs_of, runs_length}
use Rattle.cr_search_parse.proofs.ParseLaws.{gives-found, stops-bad, few-read}
use Rattle.cr_search_parse.proofs.OffsetLaws.{one}
use Rattle.cr_search_parse.proofs.StopLaws.{Ends, all-end, gives-read, stops-read}

-- ---- what is read is said

few-said : (text : List ℕ) → length text ≤ most_bytes → Ends (runs_of text) → GrammarSays text (text_read text)
few-said text few (inl (nodes, given)) =
    let query = gives-found (runs_of text) nodes given in
    let says : GrammarSays text (Ok nodes) = (query.tree, query.spelled, (few, query.query)) in
    subst (GrammarSays text) (sym (few-read text few ∙ gives-read (runs_of text) nodes given)) says
few-said text few (inr (offset, stop)) =
    subst (GrammarSays text) (sym (few-read text few ∙ stops-read (runs_of text) offset stop))
    (stops-bad text offset few stop)

long-said : (text : List ℕ) → most_bytes < length text → GrammarSays text (text_read text)
long-said text long =
    let read : text_read text ≡ Err most_bytes =
    ap (λ (b : Bool). if b then Err most_bytes else runs_read (runs_of text) 0 start)
    (lt-ltb most_bytes (length text) long) in
    let says : GrammarSays text (Err most_bytes) = inl (long, refl) in
    subst (GrammarSays text) (sym read) says

pub said : (text : List ℕ) → GrammarSays text (text_read text)
said text = by_length (cases_lt most_bytes (length text))
  where
    by_length : (most_bytes < length text) ⊎ (length text ≤ most_bytes) → GrammarSays text (text_read text)
    by_length (inl long) = long-said text long
    by_length (inr few) = few-said text few (all-end (runs_of text))

-- ---- nothing else is

-- where runs stop being good behind one cut, no later cut has good ones alone before it
no_later : (runs : List Run) (n m : ℕ) → m ≤ length runs → ((k : ℕ) → k ≤ m → IsGood (take k runs))
    → (n < length runs → IsGood (take (n + 1) runs) → ⊥) → n < m → ⊥
no_later runs n m within good bad less = bad (omega (arith, less, within)) (good (n + 1) (omega (arith, less)))

one-cut : (runs : List Run) (a b : ℕ) (p : IsOffset runs a) (q : IsOffset runs b) → p.0 ≡ q.0
one-cut runs a b p q = by_order (cases_order p.0 q.0)
  where
    by_order : (p.0 ≡ q.0) ⊎ ((p.0 < q.0) ⊎ (q.0 < p.0)) → p.0 ≡ q.0
    by_order (inl same) = same
    by_order (inr (inl less)) = absurd (no_later runs p.0 q.0 q.1 q.3 p.4 less)
    by_order (inr (inr more)) = absurd (no_later runs q.0 p.0 p.1 p.3 q.4 more)

one-offset : (runs : List Run) (a b : ℕ) → IsOffset runs a → IsOffset runs b → a ≡ b
one-offset runs a b p q = p.2 ∙ ap (λ (n : ℕ). runs_length (take n runs)) (one-cut runs a b p q) ∙ sym q.2

never_both : (n m : ℕ) → n < m → m ≤ n → ⊥
never_both n m less more = omega arith

one-bad : (text : List ℕ) (a b : ℕ) → IsBad text a → IsBad text b → a ≡ b
one-bad text a b (inl p) (inl q) = p.1 ∙ sym q.1
one-bad text a b (inl p) (inr q) = absurd (never_both most_bytes (length text) p.0 q.0)
one-bad text a b (inr p) (inl q) = absurd (never_both most_bytes (length text) q.0 p.0)
one-bad text a b (inr p) (inr q) = one-offset (runs_of text) a b p.2 q.2

bad-no_tree : (text : List ℕ) (tree : Option Tree) (offset : ℕ) → Spells text tree → IsBad text offset → ⊥
bad-no_tree text tree offset spells (inl bad) = never_both most_bytes (length text) bad.0 spells.0
bad-no_tree text tree offset spells (inr bad) = bad.1 tree spells.1

pub one-said : (text : List ℕ) (a b : Result (List Node) ℕ) → GrammarSays text a → GrammarSays text b → a ≡ b
one-said text (Ok nodes) (Ok others) p q =
    let same : p.0 ≡ q.0 = one (symbols_of (runs_of text)) p.0 q.0 p.2.1 q.2.1 in
    ap (λ (s : List Node). Ok s) (p.1 ∙ ap all_nodes same ∙ sym q.1)
one-said text (Ok nodes) (Err offset) p q = absurd (bad-no_tree text p.0 offset p.2 q)
one-said text (Err offset) (Ok nodes) p q = absurd (bad-no_tree text q.0 offset q.2 p)
one-said text (Err a) (Err b) p q = ap (λ (n : ℕ). Err n) (one-bad text a b p q)
