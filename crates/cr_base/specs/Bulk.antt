-- SPDX-License-Identifier: Apache-2.0 OR MIT
-- Bulk assignment: what a row asks for, and how the rows of a file are judged, each after those before it (the HotCRP
-- manual's bulk assignment files; their actions and columns here are the server's own).
use Rattle.std.specs.Prelude.{ℕ, Bool, true, false, not, ◌+◌, ◌≤◌, List, [], ◌∷◌, ◌++◌}
use Rattle.std.specs.Prelude.{map, length, Option, Some, None, Result, Ok, Err, if◌then◌else◌, codes}
use Rattle.std.specs.Str.{bytes_eq}
use Rattle.cr_base.specs.declared.bulk.Broken.{Broken}
use Rattle.cr_base.specs.declared.bulk.Broken.TheVariants as broken
use Rattle.cr_base.specs.declared.bulk.BulkRow.{BulkRow}
use Rattle.cr_base.specs.declared.bulk.RowCommand.{RowCommand}
use Rattle.cr_base.specs.declared.bulk.RowCommand.TheVariants as of_row
use Rattle.cr_base.specs.declared.command.Command.{Command}
use Rattle.cr_base.specs.declared.command.Command.TheVariants as commands
use Rattle.cr_base.specs.declared.entry.Entry.{Entry}
use Rattle.cr_base.specs.declared.entry.Entry.TheVariants.{Conflict, Assigned, Unassigned, Tagged}
use Rattle.cr_base.specs.declared.entry.Stamp.{Stamp}
use Rattle.cr_base.specs.declared.entry.Stamped.{Stamped}
use Rattle.cr_base.specs.declared.reply.AccountLine.{AccountLine}
use Rattle.cr_base.specs.declared.reply.Receipt.TheVariants as receipts
use Rattle.cr_base.specs.declared.reply.Rule.{Rule}
use Rattle.cr_base.specs.declared.reply.Rule.TheVariants as rules
use Rattle.cr_base.specs.declared.resolved.ResolvedCommand.{ResolvedCommand}
use Rattle.cr_base.specs.declared.resolved.ResolvedCommand.TheVariants as resolved
use Rattle.cr_base.specs.declared.resolved.ResolvedRow.{ResolvedRow}
use Rattle.cr_base.specs.declared.resolved.ResolvedRow.TheVariants as by_number
use Rattle.cr_base.specs.declared.standing.Standing.{Standing}
use Rattle.cr_base.specs.declared.words.Kind.{Kind}
use Rattle.cr_base.specs.declared.words.Kind.TheVariants.{Primary, Secondary, Pc}
use Rattle.cr_base.specs.Calls.{BulkCall}
use Rattle.cr_base.specs.Checks.{Check, ◌breaks◌, judged}
use Rattle.cr_base.specs.Drawn.{Drawn, grouped}
use Rattle.cr_base.specs.History.{History}
use Rattle.cr_base.specs.Judging.{judge_resolved}
use Rattle.cr_base.specs.Lists.{is_number}
use Rattle.cr_base.specs.Resolving.{resolve}
use Rattle.cr_base.specs.Sources.{Facts, Shown, user_among, facts_of_tables, shown_in_tables}
use Rattle.cr_base.specs.Parse.{parse_paper, parse_name}
use Rattle.cr_base.specs.Phases.{committee_works}
use Rattle.cr_base.specs.Tables.{Tables, tables_from}
use Rattle.cr_base.specs.TagTexts.{is_tag}
use Rattle.cr_base.specs.Words.{is_chair}

-- ---- what a row asks for

-- what a row does, by the word in its column `action`
pub data Action : Type 0 where
  assigns : Kind → Action
  unassigns : Action
  turns_conflict : Bool → Action
  turns_tag : Bool → Action

-- the words, in the order in which the server's documents list them
abbrev pub action_of : List ℕ → Option Action
action_of word =
    if bytes_eq word (codes "primary") then Some (assigns Primary)
    else (if bytes_eq word (codes "secondary") then Some (assigns Secondary)
    else (if bytes_eq word (codes "pcreview") then Some (assigns Pc)
    else (if bytes_eq word (codes "clearreview") then Some unassigns
    else (if bytes_eq word (codes "conflict") then Some (turns_conflict true)
    else (if bytes_eq word (codes "clearconflict") then Some (turns_conflict false)
    else (if bytes_eq word (codes "tag") then Some (turns_tag true)
    else (if bytes_eq word (codes "cleartag") then Some (turns_tag false)
    else None)))))))

-- the command of a row with this action: a tag's row reads the column `tag`, all others `user`
abbrev pub command_by : Action → BulkRow → Result Command Rule
command_by (assigns kind) row = Ok (commands.Assign (parse_paper row.paper) (parse_name row.user) kind)
command_by unassigns row = Ok (commands.Unassign (parse_paper row.paper) (parse_name row.user))
command_by (turns_conflict on) row = Ok (commands.SetConflict (parse_paper row.paper) (parse_name row.user) on)
command_by (turns_tag on) row =
    if is_tag row.tag then Ok (commands.Tag (parse_paper row.paper) row.tag on) else Err rules.BadTag

-- the command that a row with this action tells; `BadAction` if it has none, and `BadTag` if its tag is not valid
abbrev pub command_told_by : Option Action → BulkRow → Result Command Rule
command_told_by None row = Err rules.BadAction
command_told_by (Some action) row = command_by action row

-- the command that a row tells, or why it tells none
unfoldable pub row_command : BulkRow → Result Command Rule
row_command row = command_told_by (action_of row.action) row

-- a row's command, among all commands
abbrev pub command_of_row : RowCommand → Command
command_of_row (of_row.Conflict paper name on) = commands.SetConflict paper name on
command_of_row (of_row.Assign paper name kind) = commands.Assign paper name kind
command_of_row (of_row.Unassign paper name) = commands.Unassign paper name
command_of_row (of_row.Tag paper tag on) = commands.Tag paper tag on

-- the resolved command of a row whose user is told by number
abbrev pub resolved_of_row : ResolvedRow → ResolvedCommand
resolved_of_row (by_number.Conflict paper user on) = resolved.SetConflict paper user on
resolved_of_row (by_number.Assign paper user kind) = resolved.Assign paper user kind
resolved_of_row (by_number.Unassign paper user) = resolved.Unassign paper user
resolved_of_row (by_number.Tag paper tag on) = resolved.Tag paper tag on

-- a row's command with the user that it names looked up among the accounts
abbrev pub resolve_row : List AccountLine → RowCommand → ResolvedRow
resolve_row accounts (of_row.Conflict paper name on) = by_number.Conflict paper (user_among accounts name) on
resolve_row accounts (of_row.Assign paper name kind) = by_number.Assign paper (user_among accounts name) kind
resolve_row accounts (of_row.Unassign paper name) = by_number.Unassign paper (user_among accounts name)
resolve_row accounts (of_row.Tag paper tag on) = by_number.Tag paper tag on

-- the command is one that a row may tell
abbrev pub IsRowCommand : Command → Type 0
IsRowCommand (commands.SetConflict paper name on) = Unit {0}
IsRowCommand (commands.Assign paper name kind) = Unit {0}
IsRowCommand (commands.Unassign paper name) = Unit {0}
IsRowCommand (commands.Tag paper tag on) = Unit {0}
IsRowCommand command = ⊥

-- the entry is of a kind that a row draws: it changes ties, seats or tags
abbrev pub IsRowEntry : Entry → Type 0
IsRowEntry (Conflict paper user on) = Unit {0}
IsRowEntry (Assigned paper user kind ordinal) = Unit {0}
IsRowEntry (Unassigned paper user ordinal) = Unit {0}
IsRowEntry (Tagged paper tag on) = Unit {0}
IsRowEntry entry = ⊥

-- ---- one row

-- the command turns a conflict of the caller's own on or off, which a bulk may not: so no row changes with which
-- papers its bulk's caller is in conflict
abbrev pub turns_own_conflict : ℕ → ResolvedCommand → Bool
turns_own_conflict user (resolved.SetConflict paper target on) = is_number target user
turns_own_conflict user _ = false

-- what the resolved command of a row draws, under the stamp of its bulk
abbrev pub row_resolved_by : Facts → Shown → Stamp → ResolvedCommand → Result Drawn Rule
row_resolved_by facts shown stamp command =
    if turns_own_conflict stamp.maker command then Err rules.BulkSelf else judge_resolved facts shown stamp command

-- what a row's command draws: what its resolution does
abbrev pub row_judged_by : Facts → Shown → Stamp → Command → Result Drawn Rule
row_judged_by facts shown stamp command = row_resolved_by facts shown stamp (resolve facts.accounts command)

-- the judgement of what a row tells under this stamp: its command's, or the rule that it breaks by itself
abbrev pub row_told_judged : Facts → Shown → Stamp → Result Command Rule → Result Drawn Rule
row_told_judged facts shown stamp (Err rule) = Err rule
row_told_judged facts shown stamp (Ok command) = row_judged_by facts shown stamp command

-- what a row draws: BadAction, BadTag, BulkSelf, then the rules of its command
abbrev pub row_judged : Facts → Shown → Stamp → BulkRow → Result Drawn Rule
row_judged facts shown stamp row = row_told_judged facts shown stamp (row_command row)

-- ---- all rows

-- what rows are judged on: which facts it gives, and what it is after more entries of the caller's
pub record Basis (S : Type 0) : Type 0 where
  pub facts : S → Facts
  pub shown : S → Shown
  pub behind : S → History → S

-- the entries, without their stamps
abbrev pub entries_of : History → List Entry
entries_of group = map (λ (e : Stamped). e.entry) group

-- what was added before, followed by what the further rows add
abbrev pub and_rows : List Entry → Result (List Entry) Broken → Result (List Entry) Broken
and_rows entries (Ok more) = Ok (entries ++ more)
and_rows entries (Err refusal) = Err refusal

-- what a row adds and then what those after it do; or that the row of this number breaks this rule
abbrev pub and_behind : ℕ → Result Drawn Rule → (History → Result (List Entry) Broken) → Result (List Entry) Broken
and_behind n (Err rule) behind = Err (broken.Row n rule)
and_behind n (Ok drawn) behind = and_rows (entries_of drawn.group) (behind drawn.group)

-- the entries that the rows add, each judged after those before it; or the first row that breaks a rule. The first of
-- the rows has this number.
abbrev pub rows_judged : {S : Type 0} → Basis S → Stamp → S → ℕ → List BulkRow → Result (List Entry) Broken
rows_judged basis stamp s n [] = Ok []
rows_judged basis stamp s n (row ∷ rows) =
    and_behind n (row_judged (basis.facts s) (basis.shown s) stamp row)
    (λ group. rows_judged basis stamp (basis.behind s group) (n + 1) rows)

-- ---- the bulk

-- only chairs send bulks, from the bidding to the discussion
abbrev pub bulk_checks : Standing → List Check
bulk_checks by =
    not (is_chair by.role) breaks rules.NotChair
    ∷ not (committee_works by.phase) breaks rules.WrongPhase
    ∷ []

-- the group of a bulk's entries, one for each of so many rows
abbrev pub bulk_drawn : Stamp → ℕ → List Entry → Drawn
bulk_drawn stamp count entries = record { group = grouped stamp entries; receipt = receipts.Rows count }

-- what a bulk draws whose rows add these entries: they are one group, and the receipt counts the rows
abbrev pub bulk_of_rows : Stamp → ℕ → Result (List Entry) Broken → Result Drawn Broken
bulk_of_rows stamp count (Ok entries) = Ok (bulk_drawn stamp count entries)
bulk_of_rows stamp count (Err refusal) = Err refusal

-- the judgement of a bulk, by what its rules as a whole give: its rows', or the broken rule
abbrev pub bulk_behind : {S : Type 0} → Basis S → S → BulkCall → Result (Unit {0}) Rule → Result Drawn Broken
bulk_behind basis s bulk (Err rule) = Err (broken.Rule rule)
bulk_behind basis s bulk (Ok done) =
    bulk_of_rows bulk.stamp (length bulk.rows) (rows_judged basis bulk.stamp s 1 bulk.rows)

-- what a bulk adds and its receipt, or the first rule that it breaks as a whole, or the first row that breaks one
abbrev pub bulk_judged : {S : Type 0} → Basis S → S → BulkCall → Result Drawn Broken
bulk_judged basis s bulk = bulk_behind basis s bulk (judged (bulk_checks ((basis.facts s).standing None)) tt)

-- by the tables
abbrev pub tables_basis : ℕ → Basis Tables
tables_basis user = record {
  facts = λ t. facts_of_tables t (Some user);
  shown = λ t. shown_in_tables t;
  behind = λ t group. tables_from t group;
}

-- the judgement of a bulk by checks on the tables
abbrev pub bulk_by_role : Tables → BulkCall → Result Drawn Broken
bulk_by_role t bulk = bulk_judged (tables_basis bulk.stamp.maker) t bulk

-- ---- the bounds of a bulk

-- a bulk has at most 512 rows
abbrev pub IsBoundedBulk : List BulkRow → Type 0
IsBoundedBulk rows = length rows ≤ 512
