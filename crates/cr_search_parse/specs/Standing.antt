-- SPDX-License-Identifier: Apache-2.0 OR MIT
-- Which state of the automaton the code's reader has.
use Rattle.std.specs.declared.alloc.Global.{Global}
use Rattle.std.specs.Prelude.{◌≡◌, ◌≤◌, ℕ, ◌+◌, List, [], ◌∷◌, ◌++◌, length, replicate}
use Rattle.std.specs.Prelude.{Option, Some, None, Result, Ok, Err, Vec, if◌then◌else◌, ◌==◌}
use Rattle.cr_base.specs.declared.search.Node.{Node}
use Rattle.cr_base.specs.declared.search.Node.TheVariants as node
use Rattle.cr_search_parse.specs.Reading.{State, Level, Next, first, ended, wanted, touching, depth, levels_depth}
use Rattle.cr_search_parse.specs.declared.reader.Level.{Level as Counts}
use Rattle.cr_search_parse.specs.declared.reader.Next.{Next as Told}
use Rattle.cr_search_parse.specs.declared.reader.Next.TheVariants as told
use Rattle.cr_search_parse.specs.declared.reader.Reader.{Reader}
use Rattle.cr_search_parse.specs.declared.reader.Stop.{Stop}
use Rattle.cr_search_parse.specs.declared.reader.Stop.TheVariants as stop

-- what may come next, as the code tells it
abbrev pub next_told : Told → Next
next_told told.First = first
next_told told.Ended = ended
next_told told.Wanted = wanted
next_told told.Touching = touching

-- how many nodes a level has, of its alternatives and its items, and how many negations wait
abbrev pub counted : Level → Counts
counted level =
    record { alternatives = length level.alternatives; items = length level.items; negations = level.negations }

-- the counts of each level, the outermost first
abbrev pub all_counted : List Level → List Counts
all_counted [] = []
all_counted (level ∷ levels) = all_counted levels ++ (counted level ∷ [])

-- the nodes of all levels, the outermost first
abbrev pub nodes_of_levels : List Level → List Node
nodes_of_levels [] = []
nodes_of_levels (level ∷ levels) = nodes_of_levels levels ++ (level.alternatives ++ level.items)

-- the reader has this state: its nodes, its counts, what may come next and its terms are the state's
pub record Stands (r : Reader) (s : State) : Type 0 where
  pub nodes : r.nodes.items ≡ nodes_of_levels (s.level ∷ s.around)
  pub around : r.around.items ≡ all_counted s.around
  pub level : r.level ≡ counted s.level
  pub next : s.next ≡ next_told r.next
  pub outside : r.outside ≡ levels_depth s.around
  pub terms : r.terms ≡ s.terms
  pub shallow : depth s ≤ 64

-- the reader has some state
abbrev pub StandsForOne : Reader → Type 0
StandsForOne r = (s : State) × Stands r s

-- how many nodes the reader has at most in the end of what it has begun; it grows by at most two a symbol
abbrev pub weight : Reader → ℕ
weight r = length r.nodes.items + (r.outside + r.level.negations)

-- why a reader stopped: no state comes next, or memory ran out
abbrev pub Refuses : Stop → Option State → Type 0
Refuses stop.Misplaced after = after ≡ None
Refuses stop.OutOfMemory after = Unit {0}

-- the reader took what leads to this state, and has it; or it stopped as `Refuses` says
abbrev pub Takes : {A : Type 0} → Result A Stop → Reader → Option State → Type 0
Takes (Ok done) r after = (s : State) × (after ≡ Some s) × Stands r s
Takes (Err why) r after = Refuses why after

-- the reader ended with these nodes, or stopped as `Refuses` says
abbrev pub TakesNodes : Result (Vec Node Global) Stop → Option (List Node) → Type 0
TakesNodes (Ok nodes) read = read ≡ Some nodes.items
TakesNodes (Err stop.Misplaced) read = read ≡ None
TakesNodes (Err stop.OutOfMemory) read = Unit {0}

-- the operation that is written after the second operand, with its count of nodes; none if there is no first operand
abbrev pub operation_behind : ℕ → Node → List Node
operation_behind count operation = if count == 0 then [] else operation ∷ []

-- how many nodes two operands have with their operation; only those of the second, if there is no first
abbrev pub count_behind : ℕ → ℕ → ℕ
count_behind count second = if count == 0 then second else count + second + 1

-- the nodes that are written after an item of a level, which has this many nodes
abbrev pub behind_item : Counts → ℕ → List Node
behind_item level count =
    replicate level.negations node.Not ++ operation_behind level.items (node.And (count + level.negations))

-- the counts of the level after that item
abbrev pub counts_behind_item : Counts → ℕ → Counts
counts_behind_item level count =
    record {
      alternatives = level.alternatives;
      items = count_behind level.items (count + level.negations);
      negations = 0;
    }
