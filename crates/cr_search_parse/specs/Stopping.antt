-- SPDX-License-Identifier: Apache-2.0 OR MIT
-- What reading a text run by run comes to: the nodes of the state that its symbols lead to, or where it stops.
use Rattle.std.specs.declared.alloc.Global.{Global}
use Rattle.std.specs.Prelude.{◌≡◌, ◌⊎◌, ◌<◌, ℕ, ◌+◌, List, length, take, Vec, Some, None, Result, Ok, Err}
use Rattle.cr_base.specs.declared.search.Node.{Node}
use Rattle.cr_search_parse.specs.Grammar.{symbols_of}
use Rattle.cr_search_parse.specs.Reading.{State, start, after_symbols, runs_read, nodes_read}
use Rattle.cr_search_parse.specs.Runs.{Run, runs_of, runs_length}
use Rattle.cr_search_parse.specs.declared.parsing.ParseError.{ParseError}
use Rattle.cr_search_parse.specs.declared.parsing.ParseError.TheVariants as told
use Rattle.cr_search_parse.specs.declared.reader.Stop.{Stop}
use Rattle.cr_search_parse.specs.declared.reader.Stop.TheVariants as stop

-- these runs lead to this state
abbrev pub LeadTo : List Run → State → Type 0
LeadTo runs s = after_symbols start (symbols_of runs) ≡ Some s

-- reading stops before the end: at the run that leads to no state
pub record StopsBefore (runs : List Run) (offset : ℕ) : Type 0 where
  pub before : ℕ
  pub more : before < length runs
  pub there : offset ≡ runs_length (take before runs)
  pub state : State
  pub leads : LeadTo (take before runs) state
  pub stuck : after_symbols start (symbols_of (take (before + 1) runs)) ≡ None
  pub read : runs_read runs 0 start ≡ Err offset

-- reading stops at the end: the text may not end in the state to which these runs lead
pub record StopsShort (runs : List Run) (offset : ℕ) : Type 0 where
  pub there : offset ≡ runs_length runs
  pub state : State
  pub leads : LeadTo runs state
  pub short : nodes_read state ≡ None

-- reading stops at this offset
abbrev pub StopsAt : List Run → ℕ → Type 0
StopsAt runs offset = StopsBefore runs offset ⊎ StopsShort runs offset

-- runs give these nodes
abbrev pub Gives : List Run → List Node → Type 0
Gives runs nodes = (s : State) × LeadTo runs s × (nodes_read s ≡ Some nodes)

-- the error for a reader that stopped at this offset
abbrev pub stopped_at : Stop → ℕ → ParseError
stopped_at stop.Misplaced offset = told.BadQuery offset
stopped_at stop.OutOfMemory offset = told.OutOfMemory

-- the result is what reading these bytes comes to
abbrev pub Reads : Result (Vec Node Global) ParseError → List ℕ → Type 0
Reads (Ok nodes) text = Gives (runs_of text) nodes.items
Reads (Err (told.BadQuery offset)) text = StopsAt (runs_of text) offset
Reads (Err told.OutOfMemory) text = Unit {0}

-- these nodes were found, unless memory ran out
abbrev pub IsFound : Result (List Node) ParseError → List Node → Type 0
IsFound (Ok found) nodes = found ≡ nodes
IsFound (Err (told.BadQuery offset)) nodes = ⊥
IsFound (Err told.OutOfMemory) nodes = Unit {0}
