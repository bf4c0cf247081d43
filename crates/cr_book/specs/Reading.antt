-- SPDX-License-Identifier: Apache-2.0 OR MIT
-- What is true of rows that are being read, one after another.
use Rattle.std.specs.Prelude.{ℕ, ◌≡◌, ◌++◌, List, [], ◌∷◌, Option, Some, None}
use Rattle.std.specs.List.{AllByRecursion}
use Rattle.cr_base.specs.declared.entry.Entry.{Entry}
use Rattle.cr_base.specs.declared.entry.Entry.TheVariants.{Registered, Submitted, Conflict, Assigned}
use Rattle.cr_base.specs.declared.entry.Entry.TheVariants.{Unassigned, Tagged}
use Rattle.cr_base.specs.declared.entry.Stamped.{Stamped}
use Rattle.cr_base.specs.declared.resolved.ResolvedCommand.{ResolvedCommand}
use Rattle.cr_base.specs.declared.row.Row.{Row}
use Rattle.cr_base.specs.History.{History}
use Rattle.cr_base.specs.Resolving.{command_of}
use Rattle.cr_base.specs.Rows.{row_of, rows_of}
use Rattle.cr_base.specs.Tables.{Tables, tables_of, FitInTurn}
use Rattle.cr_log.specs.Given.{MayFollow}
use Rattle.cr_policy.specs.Legal.{Legal}
use Rattle.cr_ports.specs.declared.keeper.KeeperError.{KeeperError}
use Rattle.cr_ports.specs.declared.keeper.KeeperError.TheVariants as failures
use Rattle.cr_book.specs.declared.opening.OpenError.{OpenError}
use Rattle.cr_book.specs.declared.opening.OpenError.TheVariants as refusals
use Rattle.cr_book.specs.declared.reading.ReadError.{ReadError}
use Rattle.cr_book.specs.declared.reading.ReadError.TheVariants as errors
use Rattle.cr_beginnings.specs.Beginnings.{AreDue, HasMore}
use Rattle.cr_book.specs.Opening.{Continue, AreCutOff}

-- ---- entries that are tried

-- the entry is taken if and only if this holds
abbrev pub TakenIf : Type 0 → Stamped → Option Stamped → Type 0
TakenIf A next (Some s) = (s ≡ next) × A
TakenIf A next None = A → ⊥

-- the command of a row that draws such an entry; none where no row does
abbrev pub row_told : Entry → Option ResolvedCommand
row_told (Conflict paper user on) = command_of (Conflict paper user on)
row_told (Assigned paper user kind ordinal) = command_of (Assigned paper user kind ordinal)
row_told (Unassigned paper user ordinal) = command_of (Unassigned paper user ordinal)
row_told (Tagged paper tag on) = command_of (Tagged paper tag on)
row_told e = None

-- this holds, if rows of the same bulk may follow the entry: if it begins neither a registration nor a submission
abbrev pub IfRows : Entry → Type 0 → Type 0
IfRows (Registered user name digest) A = Unit {0}
IfRows (Submitted paper title abstract) A = Unit {0}
IfRows e A = A

-- ---- what is read

-- the last of the entries has this row
abbrev pub EndWith : History → Option Row → Type 0
EndWith begun last = (before : History) (s : Stamped) → begun ≡ before ++ s ∷ [] → last ≡ Some (row_of s)

-- the history of the whole groups is legal and the tables are its own; the entries after them are due, another follows
-- each, and the last has this row, or there is none
pub record IsReading (log : History) (tables : Tables) (begun : History) (end : Option Row) : Type 0 where
  pub legal : Legal log
  pub same : tables ≡ tables_of log
  pub due : AreDue log [] begun
  pub unfinished : AllByRecursion HasMore begun
  pub last : EndWith begun end
  pub none : end ≡ None → begun ≡ []
  pub some : begun ≡ [] → end ≡ None

-- the entries are a whole group, which an allowed command or bulk adds
pub record IsWholeGroup (log : History) (tables : Tables) (group : History) : Type 0 where
  pub legal : Legal (log ++ group)
  pub fits : FitInTurn tables group
  pub follows : MayFollow log group

-- a row after these is refused: they continue a legal history, and with the row they don't
abbrev pub IsRowRefused : List Row → Row → ReadError → Type 0
IsRowRefused before row (errors.Bad found) = (found ≡ row) × Continue before × (Continue (before ++ row ∷ []) → ⊥)
IsRowRefused before row errors.OutOfMemory = Unit {0}

-- what a keeper's error comes to where it told no row
abbrev pub untold : KeeperError → OpenError
untold failures.Failed = refusals.KeeperFault
untold failures.OutOfMemory = refusals.OutOfMemory

-- what a row that is refused in its place comes to
abbrev pub refusal : ℕ → ReadError → OpenError
refusal at (errors.Bad found) = refusals.BadStore at found
refusal at errors.OutOfMemory = refusals.OutOfMemory

-- all rows were read, and each group is whole
pub record IsWholeStore (log begun read : History) (tables : Tables) : Type 0 where
  pub none : begun ≡ []
  pub log_is : read ≡ log
  pub legal : Legal read
  pub same : tables ≡ tables_of read

-- all rows were read, of which this is the last, and more of its group should come
pub record IsCutStore (log begun : History) (last : Row) : Type 0 where
  pub before : List Row
  pub last_is : rows_of begun ≡ before ++ last ∷ []
  pub cut : AreCutOff (rows_of log ++ rows_of begun) last
