-- SPDX-License-Identifier: Apache-2.0 OR MIT
-- What a keeper over a disk keeps, and what the file that a stop leaves opens to.
use Rattle.std.specs.Prelude.{◌≡◌, ◌≢◌, ℕ, ◌+◌, ◌≤◌, ◌<◌, List, [], ◌∷◌, ◌++◌, length, take, drop, map, Result}
use Rattle.std.specs.Prelude.{Err, ⊤}
use Rattle.cr_base.specs.declared.row.Row.{Row}
use Rattle.cr_ports.specs.Count.{Rises}
use Rattle.cr_ports.specs.Stopping as stopping
use Rattle.cr_ports.specs.declared.source.ReadStep.{ReadStep}
use Rattle.cr_ports.specs.declared.source.ReadStep.TheVariants as reads
use Rattle.cr_journal.specs.Grammar.{AreSized, FitGroups, FitsGroup, IsJournalOf, IsTail, front, number, payload}
use Rattle.cr_journal.specs.Standing.{Stands}
use Rattle.cr_journal.specs.declared.state.Journal.{Journal}
use Rattle.cr_journal.specs.declared.opening.Gate.{Gate}
use Rattle.cr_journal.specs.declared.opening.Gate.TheVariants as gates
use Rattle.cr_journal.specs.declared.opening.OpenError.{OpenError}
use Rattle.cr_journal.specs.declared.opening.OpenError.TheVariants.{Failed}

-- the rows of groups, in order
abbrev pub rows_of : List (List Row) → List Row
rows_of [] = []
rows_of (group ∷ groups) = group ++ rows_of groups

-- the file opens to these rows
pub record Opens (file : List ℕ) (rows : List Row) : Type 0 where
  pub groups : List (List Row)
  pub journal : IsJournalOf groups file
  pub rows_are : rows_of groups ≡ rows

-- the file opens to these rows, or to these and one whole group of `tried`
abbrev pub OpensTo : List Row → List (List Row) → List ℕ → Type 0
OpensTo rows tried file = stopping.OpensTo Opens rows tried file

-- a keeper: its disk, its rows, and the group that may follow its gate, if one may
pub record Journaled (D : Type 0) : Type 0 where
  pub disk : D
  pub rows : List Row
  pub doubted : List (List Row)

-- ---- opening

-- the gates of these groups stand in front of this offset, and nothing else does
pub record IsAtGate (file : List ℕ) (gate : ℕ) (groups : List (List Row)) : Type 0 where
  pub fit : FitGroups groups
  pub sized : AreSized (map payload groups)
  pub size : gate ≡ length (front (map payload groups))
  pub before : take gate file ≡ front (map payload groups)

-- what is at a gate, with which these bytes begin
abbrev pub GateRead : Gate → List ℕ → Type 0
GateRead gates.Closed bytes = (value : ℕ) × (rest : List ℕ) × (value ≢ 1) × (bytes ≡ value ∷ rest)
GateRead (gates.Open len) bytes = (9 + len ≤ length bytes) × (bytes ≡ 1 ∷ (number len ++ drop 9 bytes))
GateRead gates.Cut bytes = (payloads : List (List ℕ)) → IsTail payloads bytes → ⊥

-- The count never falls; it rose where the disk failed, and nowhere else.
pub record OpenCause {T : Type 0} (before now : ℕ) (result : Result T OpenError) : Type 0 where
  pub later : before ≤ now
  pub failed : result ≡ Err Failed → Rises before now
  pub steady : result ≢ Err Failed → now ≡ before

-- a read after the first bytes of a buffer, `filled` of them, gave the next of these, or there were no more
abbrev pub ReadsOn : ReadStep → ℕ → List ℕ → List ℕ → List ℕ → Type 0
ReadsOn (reads.Got n) filled old new bytes =
    (0 < n) × (filled + n ≤ length old) × (take filled new ≡ take filled old)
    × (take n (drop filled new) ≡ take n (drop filled bytes))
    × (filled + n ≤ length bytes)
ReadsOn reads.End filled old new bytes = (take filled new ≡ take filled old) × (length bytes ≤ filled)
ReadsOn reads.Failed filled old new bytes = ⊤

-- ---- a keeper

-- The journal keeps the rows of these groups; if its gate is in doubt, this group may follow it.
pub record Keeps {D : Type 0} (seen : D → List ℕ) (may_leave : D → List ℕ → Type 0) (journal : Journal D)
    (rows : List Row) (doubt : List Row) : Type 0 where
  pub groups : List (List Row)
  pub fit : FitGroups groups
  pub rows_are : rows_of groups ≡ rows
  pub doubt_fits : FitsGroup doubt
  pub stands : Stands seen may_leave journal (map payload groups) (payload doubt)
