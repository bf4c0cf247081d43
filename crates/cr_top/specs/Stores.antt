-- SPDX-License-Identifier: Apache-2.0 OR MIT
-- What a run does with the rows of a store: it opens them as a history, or tells why they don't open, and
-- leaves the rows of the last history.
use Rattle.std.specs.Prelude.{◌≡◌, ◌≢◌, ◌≤◌, ◌⊎◌, ℕ, Bool, List, [], ◌++◌, Option, Some, None, IfSome, IsTrue}
use Rattle.cr_base.specs.declared.row.Row.{Row}
use Rattle.cr_base.specs.History.{History}
use Rattle.cr_base.specs.HistoryFacts.{number_of}
use Rattle.cr_base.specs.Lists.{listed}
use Rattle.cr_base.specs.Rows.{rows_of}
use Rattle.cr_ports.specs.Count.{Gains, Rises}
use Rattle.cr_ports.specs.Stopping.{OpensTo}
use Rattle.cr_ports.specs.Writing.{Outlet, Writes, BreaksOff}
use Rattle.cr_policy.specs.Legal.{Legal}
use Rattle.cr_policy.specs.View.{view}
use Rattle.cr_sights.specs.Lines.{lines_text}
use Rattle.cr_sights.specs.Walks.{StopsShort}
use Rattle.cr_book.specs.Opening.{IsBadAt}
use Rattle.cr_book.specs.Seen.{SeenBook}
use Rattle.cr_book.specs.Stopping.{AddsOne, Keepers, OpensAmid}
use Rattle.cr_session.specs.Replay.{JudgedWish, lost_count}
use Rattle.cr_session.specs.Stopping.{IsLostGroup, OpensBehind}
use Rattle.cr_session.specs.declared.serve.Ending.{Ending}
use Rattle.cr_session.specs.Serving.{ConnectionBytes, WholeBytes}
use Rattle.cr_top.specs.declared.exit.Exit.{Exit}
use Rattle.cr_top.specs.declared.exit.Exit.TheVariants as exits
use Rattle.cr_top.specs.Exits.{exit_of}
use Rattle.cr_top.specs.Runs.{Outside, world}

-- the rows at each path, where they are told there
abbrev pub RowsByPath : Type 0
RowsByPath = List ℕ → Option (List Row)

-- a shelf: the rows at each path, and its count of faults
pub record ShelfState : Type 0 where
  pub rows : RowsByPath
  pub faults : ℕ

-- what contracts see of a shelf: the rows at each path and its fault counter, by the members of its trait
abbrev pub state_of : {S : Type 0} → (S → RowsByPath) → (S → ℕ) → S → ShelfState
state_of rows faults shelf = record { rows = rows shelf; faults = faults shelf }

-- the rows at every path are as they were, where they were told
abbrev pub KeepsRows : ShelfState → ShelfState → Type 0
KeepsRows s s' = (path : List ℕ) → IfSome (s.rows path) (λ there. s'.rows path ≡ Some there)

-- the rows at every other path are as they were
abbrev pub KeepsOthers : List ℕ → ShelfState → ShelfState → Type 0
KeepsOthers path s s' = (other : List ℕ) → other ≢ path → s'.rows other ≡ s.rows other

-- ---- opening

-- The rows at the path are those of one legal history, the book's; its keeper tells them where the shelf does and has
-- counted no fault, and nothing changed.
pub record OpensStore {K : Type 0} (rows : K → Option (List Row)) (faults : K → ℕ) (path : List ℕ) (book : SeenBook K)
    (s s' : ShelfState) : Type 0 where
  pub legal : Legal book.log
  pub found : IfSome (s.rows path) (λ there. rows_of book.log ≡ there)
  pub only : IfSome (s.rows path) (λ there. (H : History) → Legal H → rows_of H ≡ there → H ≡ book.log)
  pub told : IfSome (s.rows path) (λ there. rows book.keeper ≡ Some there)
  pub still : rows book.keeper ≡ rows book.opened
  pub fresh : faults book.keeper ≡ 0
  pub same : s' ≡ s

-- A book was opened over a keeper that its shelf opened at this moment, and still has it: nothing had been tried with
-- it in vain, its rows, if it tells them, are the history's, and so are those that a stop leaves now.
pub record BeginsAt {K : Type 0} (keepers : Keepers K) (opened_at : ℕ) (book : SeenBook K) : Type 0 where
  pub at : opened_at ≡ keepers.moment book.opened
  pub still : book.keeper ≡ book.opened
  pub none : keepers.tried book.opened ≡ []
  pub first : IfSome (keepers.rows book.opened) (λ told. rows_of book.log ≡ told)
  pub between : (image : List ℕ) → keepers.left_since book.keeper (keepers.moment book.keeper) image
      → OpensTo keepers.opens (rows_of book.log) (keepers.tried book.keeper) image

-- the row of this number, of this kind, is the first bad one; so the rows are no legal history's
pub record IsBadStore (rows : List Row) (row kind : ℕ) : Type 0 where
  pub found : Row
  pub kind_is : kind ≡ found.kind
  pub bad : IsBadAt rows row found
  pub none : (H : History) → Legal H → rows_of H ≢ rows

-- why it doesn't open, by the exit: the shelf or its keeper failed, which was counted; a
-- row is bad; or memory runs out
abbrev pub IsWhyShut : List ℕ → Exit → ShelfState → ShelfState → Type 0
IsWhyShut path exits.KeeperFault s s' = Rises s.faults s'.faults
IsWhyShut path (exits.BadStore row kind) s s' = IfSome (s.rows path) (λ there. IsBadStore there row kind)
IsWhyShut path exits.OutOfMemory s s' = Unit {0}
IsWhyShut path _ s s' = ⊥

-- The rows at the path are as they were. If the shelf's keepers tell what a stop leaves and the shelf failed, it may
-- have left a file half made at the path, where there were no rows.
abbrev pub StaysThere : Bool → List ℕ → Exit → ShelfState → ShelfState → Type 0
StaysThere tells_stops path exit s s' =
    KeepsRows s s'
    ⊎ (IsTrue tells_stops × (exit ≡ exits.KeeperFault) × (s.rows path ≡ Some []) × KeepsOthers path s s')

-- It doesn't open, and the rows are as they were.
pub record StaysShut (tells_stops : Bool) (path : List ℕ) (exit : Exit) (s s' : ShelfState) : Type 0 where
  pub refused : IsWhyShut path exit s s'
  pub rows : StaysThere tells_stops path exit s s'
  pub count : s.faults ≤ s'.faults

-- ---- what a run leaves

-- Once its keeper was shut, the rows at the path, if they are told, are those of the history; or, if the keeper tells
-- what a stop leaves, these and then those of one group of which `IsLost` holds.
abbrev pub StandOrOneMore : Bool → List ℕ → History → (History → Type 0) → ShelfState → ShelfState → Type 0
StandOrOneMore tells_stops path history IsLost s s' =
    IfSome (s.rows path) (λ before. (s'.rows path ≡ Some (rows_of history))
    ⊎ (IsTrue tells_stops
    × ((group : History) × IsLost group × (s'.rows path ≡ Some (rows_of (history ++ group))))))

-- The group of a command or a bulk that is allowed on the history, over a shelf whose fault counter rose.
pub record IsGroupInVain (history : History) (s s' : ShelfState) (group : History) : Type 0 where
  pub adds : AddsOne history group
  pub counted : Rises s.faults s'.faults

-- `StandOrOneMore` with the group of one of these wishes, which was answered, on that history, that it wasn't kept.
abbrev pub StandOrOneLost : Bool → List ℕ → History → List JudgedWish → ShelfState → ShelfState → Type 0
StandOrOneLost tells_stops path history judged s s' =
    StandOrOneMore tells_stops path history (IsLostGroup judged history) s s'

-- The rows that a run leaves: at the path those of the history, or these and one group if the shelf's fault counter
-- rose (`StandOrOneMore` of `IsGroupInVain`); at each other path those that were there.
pub record LeavesRows (tells_stops : Bool) (path : List ℕ) (history : History) (s s' : ShelfState) : Type 0 where
  pub there : StandOrOneMore tells_stops path history (IsGroupInVain history s s') s s'
  pub others : KeepsOthers path s s'

-- Where the keepers tell what a stop of the machine may leave, what one since the store was opened
-- might have left at the path opens to the rows of the opening history, then of whole groups of the last one, and then
-- of one command or bulk more at most.
abbrev pub CrashKeepsGroups : Bool → (List ℕ → List Row → Type 0) → (List ℕ → Type 0) → History → History → Type 0
CrashKeepsGroups tells opens left opening history =
    IsTrue tells → (image : List ℕ) → left image → OpensAmid opens (Some (rows_of opening)) history image

-- `CrashKeepsGroups`, if these are the wishes of the run's one connection: what a stop might have left opens to the
-- rows of the opening history, then of the groups that some first of the wishes added, and then of at most one more
-- group, which one of the wishes drew there that was answered that it wasn't kept.
abbrev pub CrashKeepsWishes : Bool → (List ℕ → List Row → Type 0) → (List ℕ → Type 0) → History → List JudgedWish
    → Type 0
CrashKeepsWishes tells opens left opening judged =
    IsTrue tells → (image : List ℕ) → left image → OpensBehind opens opening judged image

-- What a run keeps at a path between these two states of a shelf, from its opening history to its last: the rows, where
-- they are told; and what a stop may leave, where the path's keepers tell that.
pub record KeepsStore (tells_stops : Bool) (opens : List ℕ → List Row → Type 0) (left : List ℕ → List ℕ → Type 0)
    (path : List ℕ) (opening history : History) (s s' : ShelfState) : Type 0 where
  pub kept : LeavesRows tells_stops path history s s'
  pub stops : CrashKeepsGroups tells_stops opens (left path) opening history

-- `KeepsStore` by the wishes of the run's one connection: a group after the rows is that of one of these wishes, which
-- was answered, on the last history, that it wasn't kept.
pub record KeepsWishesThere (tells_stops : Bool) (opens : List ℕ → List Row → Type 0) (left : List ℕ → List ℕ → Type 0)
    (path : List ℕ) (opening history : History) (judged : List JudgedWish) (s s' : ShelfState) : Type 0 where
  pub there : StandOrOneLost tells_stops path history judged s s'
  pub stops : CrashKeepsWishes tells_stops opens (left path) opening judged

-- what a run keeps of a store from its opening history to its last, between two states of a shelf: whatever the run;
-- by the wishes of its one connection; and what may follow the last history's rows, by the wishes of many connections
pub record Keeping : Type 1 where
  pub store : History → History → ShelfState → ShelfState → Type 0
  pub wishes : History → History → List JudgedWish → ShelfState → ShelfState → Type 0
  pub behind : History → List JudgedWish → ShelfState → ShelfState → Type 0

-- what a run keeps at each path, by whether the path's keepers tell what a stop may leave
abbrev pub keeping_of : (List ℕ → Bool) → (List ℕ → List Row → Type 0) → (List ℕ → List ℕ → Type 0) → List ℕ → Keeping
keeping_of tells_stops opens left path = record {
  store = KeepsStore (tells_stops path) opens left path;
  wishes = KeepsWishesThere (tells_stops path) opens left path;
  behind = StandOrOneLost (tells_stops path) path;
}

-- the rows of a history and no more, where they were told
abbrev pub LeavesExactly : List ℕ → History → ShelfState → ShelfState → Type 0
LeavesExactly path history s s' = IfSome (s.rows path) (λ before. s'.rows path ≡ Some (rows_of history))

-- ---- one connection over a store

-- From the history of the rows at the path on a connection was served to its ending, by which the exit is; the last
-- history is kept. The keeper counted so many faults, and the shelf's count rose by as many at least.
pub record ServesStore {I : Type 0} (keeps : Keeping) (path : List ℕ) (left : I → Option (List ℕ))
    (gives : I → I → List ℕ → Type 0) (exit : Exit) (o o' : Outside I) (s s' : ShelfState) : Type 0 where
  pub opening : History
  pub opens : Legal opening
  pub found : IfSome (s.rows path) (λ there. rows_of opening ≡ there)
  pub ending : Ending
  pub exit_is : exit ≡ exit_of ending
  pub history : History
  pub legal : Legal history
  pub faults : ℕ
  pub connection : ConnectionBytes left gives ending 0 [] (world o opening 0) (world o' history faults)
  pub whole : (b : List ℕ) → left o.input ≡ Some b
      → WholeBytes left ending b (world o opening 0) (world o' history faults)
  pub leaves : keeps.store opening history s s'
  pub wishes : keeps.wishes opening history (connection.answered ++ listed connection.failed) s s'
  pub counted : Gains s.faults faults s'.faults
  -- by as many at least as wishes were answered that they weren't kept, its last value aside
  pub lost : Gains s.faults (lost_count (connection.answered ++ listed connection.failed)) s'.faults
  -- where none was, the rows are those of the last history and no more
  pub exact : lost_count (connection.answered ++ listed connection.failed) ≡ 0 → LeavesExactly path history s s'

-- a store that doesn't open leaves input and output as they were
abbrev pub PipesStore : {I : Type 0} → Bool → Keeping → List ℕ → (I → Option (List ℕ)) → (I → I → List ℕ → Type 0)
    → Exit → Outside I → Outside I → ShelfState → ShelfState → Type 0
PipesStore tells_stops keeps path left gives exit o o' s s' =
    (StaysShut tells_stops path exit s s' × (o' ≡ o)) ⊎ ServesStore keeps path left gives exit o o' s s'

-- ---- a view of a store

-- What was told of a user's view of a history, by the exit: all its lines; a part of them, after which a write failed
-- or memory ran out; or that no user has registered the name.
abbrev pub TellsView : History → List ℕ → Exit → Outlet → Outlet → Type 0
TellsView H name exits.Done s s' =
    (user : ℕ) × (number_of name H ≡ Some user) × Writes (lines_text (view (Some user) H)) s s'
TellsView H name exits.WriteFault s s' =
    (user : ℕ) × (number_of name H ≡ Some user) × BreaksOff (lines_text (view (Some user) H)) s s'
TellsView H name exits.OutOfMemory s s' =
    (user : ℕ) × (number_of name H ≡ Some user) × StopsShort (lines_text (view (Some user) H)) s s'
TellsView H name exits.NoUser s s' = (number_of name H ≡ None) × (s' ≡ s)
TellsView H name _ s s' = ⊥

-- The view of the history of the rows at the path was told, and the rows are as they were.
pub record ViewsStore (path name : List ℕ) (exit : Exit) (o o' : Outlet) (s s' : ShelfState) : Type 0 where
  pub opening : History
  pub opens : Legal opening
  pub found : IfSome (s.rows path) (λ there. rows_of opening ≡ there)
  pub tells : TellsView opening name exit o o'
  pub rows : KeepsRows s s'
  pub count : s.faults ≤ s'.faults

-- a store that doesn't open leaves the output as it was
abbrev pub TellsStore : Bool → List ℕ → List ℕ → Exit → Outlet → Outlet → ShelfState → ShelfState → Type 0
TellsStore tells_stops path name exit o o' s s' =
    (StaysShut tells_stops path exit s s' × (o' ≡ o)) ⊎ ViewsStore path name exit o o' s s'

-- if nothing fails, a legal history's view is told whole, or no user there has the name
abbrev pub AnswersView : History → List ℕ → Exit → Outlet → Outlet → Type 0
AnswersView H name exit o o' = TellsView H name exit o o' × ((exit ≡ exits.Done) ⊎ (exit ≡ exits.NoUser))
