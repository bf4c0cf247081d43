-- SPDX-License-Identifier: Apache-2.0 OR MIT
-- What a search is as a function of its text (`text_read`): an automaton reads the text symbol by symbol, and writes
-- each node of the search when its operands have ended (Dijkstra's shunting-yard algorithm, without its table of
-- operators, since NOT binds closest and OR least). The grammar (Grammar, Offsets) defines searches as a relation;
-- `law_reading` says that both agree on every text. So a reader who trusts the grammar need not read this.
use Rattle.std.specs.Prelude.{ℕ, ◌+◌, nat_lt, List, [], ◌∷◌, ◌++◌, length, Option}
use Rattle.std.specs.Prelude.{Some, None, Result, Ok, Err, replicate, if◌then◌else◌}
use Rattle.std.specs.Option.{option_and_then, option_map_or}
use Rattle.cr_base.specs.declared.search.Node.{Node}
use Rattle.cr_base.specs.declared.search.Node.TheVariants as node
use Rattle.cr_base.specs.declared.search.Term.{Term}
use Rattle.cr_base.specs.declared.search.Term.TheVariants as terms
use Rattle.cr_search_parse.specs.Grammar.{Symbol, gap, opens, closes, dash, sample, word, run_symbols}
use Rattle.cr_search_parse.specs.Offsets.{most_bytes}
use Rattle.cr_search_parse.specs.Runs.{Run, runs_of, run_length}
use Rattle.cr_search_parse.specs.Terms.{term_of, is_and, is_or, is_not}

-- A level: what has been read so far inside the innermost open parenthesis, or in the whole text outside of all. It
-- has the nodes of the alternatives that an OR has ended, the nodes of the current alternative's items, and the count
-- of dashes and NOTs that were read and wait for the next item.
pub record Level : Type 0 where
  pub alternatives : List Node
  pub items : List Node
  pub negations : ℕ

-- what the symbol before lets come next
pub data Next : Type 0 where
  -- an item, or the end if no parenthesis is open: nothing has come on this level yet
  first : Next
  -- anything: an item has just ended
  ended : Next
  -- an item, after a gap or not: AND, OR or NOT has come
  wanted : Next
  -- an item, without a gap before it: a dash has come
  touching : Next

-- The state of the automaton: the level that is being read, the levels of the open parentheses around it, the innermost
-- first, what may come next, and how many terms were read.
pub record State : Type 0 where
  pub around : List Level
  pub level : Level
  pub next : Next
  pub terms : ℕ

-- a level in which nothing was read
abbrev pub no_level : Level
no_level = record { alternatives = []; items = []; negations = 0 }

-- the state before the first symbol
abbrev pub start : State
start = record { around = []; level = no_level; next = first; terms = 0 }

-- how many dashes, NOTs and parentheses are around the current level, if these are the levels around it
abbrev pub levels_depth : List Level → ℕ
levels_depth [] = 0
levels_depth (level ∷ levels) = level.negations + 1 + levels_depth levels

-- how many dashes, NOTs and parentheses the next item is inside of
abbrev pub depth : State → ℕ
depth s = s.level.negations + levels_depth s.around

-- the nodes of two operands followed by the operation on them, which counts the nodes of the second; or only those of
-- the second, if there is no first
abbrev pub with_operand : (ℕ → Node) → List Node → List Node → List Node
with_operand operation [] second = second
with_operand operation (s ∷ nodes) second = (s ∷ nodes) ++ (second ++ (operation (length second) ∷ []))

-- the nodes of an item followed by as many negations as wait for it
abbrev pub denied : ℕ → List Node → List Node
denied n item = item ++ replicate n node.Not

-- the level after an item with these nodes
abbrev pub with_item : List Node → Level → Level
with_item item level = record {
  alternatives = level.alternatives;
  items = with_operand node.And level.items (denied level.negations item);
  negations = 0;
}

-- the state after an item with these nodes
abbrev pub after_item : List Node → State → State
after_item item s = record s { level = with_item item s.level; next = ended }

-- the nodes of a level that has ended: of its alternatives and of the current one
abbrev pub level_nodes : Level → List Node
level_nodes level = with_operand node.Or level.alternatives level.items

-- the state, if the next item is inside of at most 64 dashes, NOTs and parentheses
abbrev pub if_shallow : State → Option State
if_shallow s = if nat_lt 64 (depth s) then None else Some s

-- the state after a dash or a NOT, after which this may come
abbrev pub one_negation_more : Next → State → State
one_negation_more next s = record s { level = record s.level { negations = s.level.negations + 1 }; next = next }

-- ---- one symbol

-- the state after spaces; none after a dash
abbrev pub after_gap : State → Next → Option State
after_gap s touching = None
after_gap s _ = Some s

-- the state after an opening parenthesis: a new level begins
abbrev pub after_open : State → State
after_open s = record s { around = s.level ∷ s.around; level = no_level; next = first }

-- the state after a parenthesis that ended with these nodes: they are an item of the level around it
abbrev pub closed : List Node → Level → List Level → State → State
closed item level around s = after_item item (record s { around = around; level = level })

-- the state after a closing parenthesis; none if no item has ended before it, or no parenthesis is open
abbrev pub after_close : State → Next → List Level → Option State
after_close s ended (level ∷ around) = Some (closed (level_nodes s.level) level around s)
after_close s _ around = None

-- the state after OR: the current alternative ends; none if no item has ended before it
abbrev pub after_or : State → Next → Option State
after_or s ended =
    Some (record s { level = record { alternatives = level_nodes s.level; items = []; negations = 0 }; next = wanted })
after_or s _ = None

-- the state after AND; none if no item has ended before it
abbrev pub after_and : State → Next → Option State
after_and s ended = Some (record s { next = wanted })
after_and s _ = None

-- the state after a word that is this term; none if it is no term, or 128 terms came before it
abbrev pub after_term : State → Option Term → Option State
after_term s None = None
after_term s (Some t) =
    if nat_lt 127 s.terms then None else Some (after_item (node.Term t ∷ []) (record s { terms = s.terms + 1 }))

-- the state after a word: AND, OR, NOT or a term; none if it can't come there
abbrev pub after_word : State → List ℕ → Option State
after_word s text =
    if is_and text then after_and s s.next
    else (if is_or text then after_or s s.next
    else (if is_not text then if_shallow (one_negation_more wanted s)
    else after_term s (term_of text)))

-- the state after a symbol; none if it can't come there
abbrev pub after_symbol : State → Symbol → Option State
after_symbol s gap = after_gap s s.next
after_symbol s opens = if_shallow (after_open s)
after_symbol s closes = after_close s s.next s.around
after_symbol s dash = if_shallow (one_negation_more touching s)
after_symbol s sample = Some (after_item (node.Term (terms.Plain []) ∷ []) s)
after_symbol s (word text) = after_word s text

-- ---- symbols, and the end

-- the state after these symbols; none if one of them can't come there
abbrev pub after_symbols : State → List Symbol → Option State
after_symbols s [] = Some s
after_symbols s (symbol ∷ symbols) =
    option_and_then (λ (next : State). after_symbols next symbols) (after_symbol s symbol)

-- the nodes of what was read, if the text may end there: nothing was read, or an item has ended and no parenthesis is
-- open
abbrev pub at_end : Next → List Level → Level → Option (List Node)
at_end first [] level = Some []
at_end ended [] level = Some (level_nodes level)
at_end _ around level = None

-- the nodes of what was read up to this state, if the text may end there
abbrev pub nodes_read : State → Option (List Node)
nodes_read s = at_end s.next s.around s.level

-- ---- whole texts

-- these nodes, or the offset at which the text ends too early
abbrev pub ended_at : ℕ → Option (List Node) → Result (List Node) ℕ
ended_at offset None = Err offset
ended_at offset (Some nodes) = Ok nodes

-- what these runs come to from this state on, which begin at this offset in their text: the nodes of a search, or the
-- offset of the first run that can't come there
abbrev pub runs_read : List Run → ℕ → State → Result (List Node) ℕ
runs_read [] offset s = ended_at offset (nodes_read s)
runs_read (run ∷ runs) offset s =
    option_map_or (runs_read runs (offset + run_length run)) (after_symbols s (run_symbols run)) (Err offset)

-- what a text is: the nodes of the one search that it spells, or the offset at which it is bad
abbrev pub text_read : List ℕ → Result (List Node) ℕ
text_read text = if nat_lt most_bytes (length text) then Err most_bytes else runs_read (runs_of text) 0 start
