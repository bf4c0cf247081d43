-- SPDX-License-Identifier: Apache-2.0 OR MIT
-- How far a text is read, run by run.
use Rattle.std.proofs.Common.{◌≡◌, ◌⊎◌, inl, inr, ℕ, ◌+◌, List, [], ◌∷◌, ◌++◌, length, take, drop, Option, Some, None}
use Rattle.std.proofs.Common.{Ok, Err, option_and_then, refl, ap, sym, subst, ◌∙◌, append_assoc, append-nil}
use Rattle.std.proofs.Common.{length-append, arith}
use Rattle.std.proofs.lemmas.List.{take_at, flat_map_more, drop-drop}
use Rattle.std.specs.Option.{option_map_or}
use Rattle.std.proofs.lemmas.Option.{none-some}
use Rattle.cr_base.specs.declared.search.Node.{Node}
use Rattle.cr_search_parse.specs.Grammar.{run_symbols, symbols_of}
use Rattle.cr_search_parse.specs.Reading.{State, start, after_symbols, ended_at, runs_read, nodes_read}
use Rattle.cr_search_parse.specs.Runs.{Run, runs_of, run_length, runs_length}
use Rattle.cr_search_parse.specs.Standing.{Refuses}
use Rattle.cr_search_parse.specs.Stopping.{LeadTo, StopsAt, Gives, Reads, stopped_at}
use Rattle.cr_search_parse.specs.declared.reader.Stop.{Stop}
use Rattle.cr_search_parse.specs.declared.reader.Stop.TheVariants as stop
use Rattle.cr_search_parse.proofs.ReaderLaws.{after_symbols-append, after_row}

-- a text is read up to an offset: these runs were, and lead to a state
pub record ReadTo (text : List ℕ) (at : ℕ) (s : State) : Type 0 where
  pub runs : List Run
  pub falls : runs_of text ≡ runs ++ runs_of (drop at text)
  pub offset : at ≡ runs_length runs
  pub leads : LeadTo runs s

pub read_nothing : (text : List ℕ) → ReadTo text 0 start
read_nothing text = record { runs = []; falls = refl; offset = refl; leads = refl }

lengths-more : (runs : List Run) (run : Run) → runs_length (runs ++ (run ∷ [])) ≡ runs_length runs + run_length run
lengths-more [] run = omega arith
lengths-more (first ∷ runs) run = omega (arith, lengths-more runs run)

symbols-more : (runs : List Run) (run : Run) → symbols_of (runs ++ (run ∷ [])) ≡ symbols_of runs ++ run_symbols run
symbols-more runs run = sym (flat_map_more run_symbols [] runs run)

-- one run more
leads-more : (runs : List Run) (run : Run) (s : State) → LeadTo runs s
    → after_symbols start (symbols_of (runs ++ (run ∷ []))) ≡ after_symbols s (run_symbols run)
leads-more runs run s leads = rw (symbols-more runs run) (after_row start s (symbols_of runs) (run_symbols run) leads)

pub read-more : (text : List ℕ) (at : ℕ) (s t : State) (run : Run) (after : ℕ) → ReadTo text at s
    → runs_of (drop at text) ≡ run ∷ runs_of (drop after text) → after ≡ at + run_length run
    → after_symbols s (run_symbols run) ≡ Some t → ReadTo text after t
read-more text at s t run after so falls offset leads = record {
  runs = so.runs ++ (run ∷ []);
  falls = so.falls ∙ ap (λ (runs : List Run). so.runs ++ runs) falls
      ∙ sym (append_assoc so.runs (run ∷ []) (runs_of (drop after text)));
  offset = omega (arith, lengths-more so.runs run, so.offset);
  leads = leads-more so.runs run s so.leads ∙ leads;
}

-- ---- the same as a function

-- behind runs that are read
read-front : (front rest : List Run) (offset : ℕ) (s t : State) → after_symbols s (symbols_of front) ≡ Some t
    → runs_read (front ++ rest) offset s ≡ runs_read rest (offset + runs_length front) t
read-front [] rest offset s t leads =
    ap (λ (o : Option State). option_map_or (runs_read rest offset) o (Err offset)) leads
    ∙ ap (λ (n : ℕ). runs_read rest n t) (omega arith)
read-front (run ∷ front) rest offset s t leads =
    behind (after_symbols s (run_symbols run))
    (sym (after_symbols-append s (run_symbols run) (symbols_of front)) ∙ leads)
    (λ u. read-front front rest (offset + run_length run) u t)
  where
    behind : (o : Option State) → option_and_then (λ (u : State). after_symbols u (symbols_of front)) o ≡ Some t
        → ((u : State) → after_symbols u (symbols_of front) ≡ Some t → runs_read (front ++ rest)
        (offset + run_length run) u ≡ runs_read rest (offset + run_length run + runs_length front) t)
        → option_map_or (runs_read (front ++ rest) (offset + run_length run)) o (Err offset)
        ≡ runs_read rest (offset + (run_length run + runs_length front)) t
    behind None led more = absurd (none-some t led)
    behind (Some u) led more = more u led ∙ ap (λ (n : ℕ). runs_read rest n t) (omega arith)

-- all of them
read-all : (runs : List Run) (s : State) → LeadTo runs s
    → runs_read runs 0 start ≡ ended_at (runs_length runs) (nodes_read s)
read-all runs s leads =
    ap (λ (all : List Run). runs_read all 0 start) (sym (append-nil runs)) ∙ read-front runs [] 0 start s leads
    ∙ ap (λ (n : ℕ). ended_at n (nodes_read s)) (omega arith)

pub gives-read : (runs : List Run) (nodes : List Node) → Gives runs nodes → runs_read runs 0 start ≡ Ok nodes
gives-read runs nodes given = read-all runs given.0 given.1 ∙ ap (ended_at (runs_length runs)) given.2

pub stops-read : (runs : List Run) (offset : ℕ) → StopsAt runs offset → runs_read runs 0 start ≡ Err offset
stops-read runs offset (inl stop) = stop.read
stops-read runs offset (inr stop) = read-all runs stop.state stop.leads ∙ ap (ended_at (runs_length runs)) stop.short
    ∙ ap (λ (n : ℕ). Err n) (sym stop.there)

-- ---- stops

-- the run that comes leads to no state
stuck-behind : (front rest : List Run) (run : Run) (s : State) → LeadTo front s
    → after_symbols s (run_symbols run) ≡ None
    → StopsAt (front ++ (run ∷ rest)) (runs_length front)
stuck-behind front rest run s leads stuck =
    let runs = front ++ (run ∷ rest) in
    let n = length front in
    let before : take n runs ≡ front = take_at front (run ∷ rest) n refl in
    let with_it : take (n + 1) runs ≡ front ++ (run ∷ []) =
    ap (take (n + 1)) (sym (append_assoc front (run ∷ []) rest))
    ∙ take_at (front ++ (run ∷ [])) rest (n + 1) (length-append front (run ∷ [])) in
    inl (record {
      before = n;
      more = omega (arith, length-append front (run ∷ rest));
      there = ap runs_length (sym before);
      state = s;
      leads = ap (λ (runs : List Run). after_symbols start (symbols_of runs)) before ∙ leads;
      stuck = ap (λ (runs : List Run). after_symbols start (symbols_of runs)) with_it
          ∙ (leads-more front run s leads ∙ stuck);
      read =
          read-front front (run ∷ rest) 0 start s leads
          ∙ ap (λ (o : Option State). option_map_or (runs_read rest (0 + runs_length front + run_length run)) o
          (Err (0 + runs_length front))) stuck
          ∙ ap (λ (n : ℕ). Err n) (omega arith);
    })

pub stops-before : (text : List ℕ) (at : ℕ) (s : State) (run : Run) (rest : List Run) → ReadTo text at s
    → runs_of (drop at text) ≡ run ∷ rest → after_symbols s (run_symbols run) ≡ None → StopsAt (runs_of text) at
stops-before text at s run rest so falls stuck =
    let all = so.falls ∙ ap (λ (runs : List Run). so.runs ++ runs) falls in
    subst (λ (runs : List Run). StopsAt runs at) (sym all)
    (subst (StopsAt (so.runs ++ (run ∷ rest))) (sym so.offset) (stuck-behind so.runs rest run s so.leads stuck))

-- the whole text is read
all-runs : (text : List ℕ) (at : ℕ) (s : State) (so : ReadTo text at s) → drop at text ≡ [] → runs_of text ≡ so.runs
all-runs text at s so none = so.falls ∙ (ap (λ (rest : List ℕ). so.runs ++ runs_of rest) none ∙ append-nil so.runs)

pub stops-short : (text : List ℕ) (at : ℕ) (s : State) → ReadTo text at s → drop at text ≡ [] → nodes_read s ≡ None
    → StopsAt (runs_of text) at
stops-short text at s so none short =
    let all = all-runs text at s so none in
    inr (record {
      there = so.offset ∙ ap runs_length (sym all);
      state = s;
      leads = ap (λ (runs : List Run). after_symbols start (symbols_of runs)) all ∙ so.leads;
      short = short;
    })

pub gives-nodes : (text : List ℕ) (at : ℕ) (s : State) (nodes : List Node) → ReadTo text at s → drop at text ≡ []
    → nodes_read s ≡ Some nodes → Gives (runs_of text) nodes
gives-nodes text at s nodes so none read =
    (s, ap (λ (runs : List Run). after_symbols start (symbols_of runs)) (all-runs text at s so none) ∙ so.leads, read)

-- the same by how many bytes the run has
pub read-run : (text : List ℕ) (at : ℕ) (s t : State) (run : Run) (n : ℕ) → ReadTo text at s
    → runs_of (drop at text) ≡ run ∷ runs_of (drop (run_length run) (drop at text)) → n ≡ run_length run
    → after_symbols s (run_symbols run) ≡ Some t → ReadTo text (at + n) t
read-run text at s t run n so falls is leads =
    let behind = drop-drop (run_length run) at text ∙ ap (λ (k : ℕ). drop (at + k) text) (sym is) in
    read-more text at s t run (at + n) so (falls ∙ ap (λ (rest : List ℕ). run ∷ runs_of rest) behind)
    (ap (λ (k : ℕ). at + k) is) leads

-- why reading stops at a run
pub stop-reads : (text : List ℕ) (at : ℕ) (s : State) (run : Run) (rest : List Run) (why : Stop) → ReadTo text at s
    → runs_of (drop at text) ≡ run ∷ rest → Refuses why (after_symbols s (run_symbols run))
    → Reads (Err (stopped_at why at)) text
stop-reads text at s run rest stop.Misplaced so falls stuck = stops-before text at s run rest so falls stuck
stop-reads text at s run rest stop.OutOfMemory so falls stuck = tt

-- ---- all runs

-- reading them gives nodes, or stops
abbrev pub Ends : List Run → Type 0
Ends runs = ((nodes : List Node) × Gives runs nodes) ⊎ ((offset : ℕ) × StopsAt runs offset)

all-read : (runs : List Run) (s : State) → LeadTo runs s → (read : Option (List Node)) → nodes_read s ≡ read → Ends runs
all-read runs s leads (Some nodes) is = inl (nodes, (s, leads, is))
all-read runs s leads None is =
    inr (runs_length runs, inr (record { there = refl; state = s; leads = leads; short = is }))

ends-behind : (front rest : List Run) (s : State) → LeadTo front s → Ends (front ++ rest)
ends-behind front [] s leads = subst Ends (sym (append-nil front)) (all-read front s leads (nodes_read s) refl)
ends-behind front (run ∷ rest) s leads =
    one_more (after_symbols s (run_symbols run)) refl (λ t. ends-behind (front ++ (run ∷ [])) rest t)
  where
    one_more : (after : Option State) → after_symbols s (run_symbols run) ≡ after
        → ((t : State) → LeadTo (front ++ (run ∷ [])) t → Ends ((front ++ (run ∷ [])) ++ rest))
        → Ends (front ++ (run ∷ rest))
    one_more None stuck more = inr (runs_length front, stuck-behind front rest run s leads stuck)
    one_more (Some t) taken more =
        subst Ends (append_assoc front (run ∷ []) rest) (more t (leads-more front run s leads ∙ taken))

pub all-end : (runs : List Run) → Ends runs
all-end runs = ends-behind [] runs start refl
