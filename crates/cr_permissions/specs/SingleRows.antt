-- SPDX-License-Identifier: Apache-2.0 OR MIT
-- A bulk does what its rows' commands do, given one after another. The bulk has one number; its rows' commands have
-- none.
use Rattle.std.specs.Prelude.{ℕ, false, ◌≡◌, ◌+◌, List, [], ◌∷◌, ◌++◌, length, map, Some, Result, Ok, Err}
use Rattle.std.specs.List.{flat_map}
use Rattle.cr_base.specs.declared.bulk.Broken.TheVariants as broken
use Rattle.cr_base.specs.declared.bulk.BulkRow.{BulkRow}
use Rattle.cr_base.specs.declared.command.Call.{Call}
use Rattle.cr_base.specs.declared.command.Command.{Command}
use Rattle.cr_base.specs.declared.entry.Stamp.{Stamp}
use Rattle.cr_base.specs.declared.entry.Stamped.{Stamped}
use Rattle.cr_base.specs.declared.reply.Receipt.TheVariants as receipts
use Rattle.cr_base.specs.declared.reply.Rule.{Rule}
use Rattle.cr_base.specs.Bulk.{row_command}
use Rattle.cr_base.specs.Calls.{BulkCall, call_by}
use Rattle.cr_base.specs.Drawn.{Drawn, stamped}
use Rattle.cr_base.specs.History.{History}
use Rattle.cr_policy.specs.Judge.{judge, judge_row, judge_bulk}
use Rattle.cr_policy.specs.Legal.{unnumbered, IsAllowed, step, IsBulkAllowed, Legal}
use Rattle.cr_policy.specs.View.{view}

-- ---- the commands of rows

-- the call of the command that a row asks for, under this stamp; none if it asks for none
abbrev pub call_told : Stamp → Result Command Rule → List Call
call_told stamp (Ok command) = call_by stamp command ∷ []
call_told stamp (Err rule) = []

-- the calls of the commands that the rows ask for, in order, under this stamp
abbrev pub row_calls : Stamp → List BulkRow → List Call
row_calls stamp rows = flat_map (λ (row : BulkRow). call_told stamp (row_command row)) rows

-- the call is allowed, and no rule is broken
pub record IsAccepted (H : History) (call : Call) : Type 0 where
  pub allowed : IsAllowed H call
  pub drawn : Drawn
  pub accepted : judge (view call.caller H) call ≡ Ok drawn

-- each call is accepted on the history to which those before it lead, and all lead from the first history to the last
abbrev pub AcceptedInTurn : History → List Call → History → Type 0
AcceptedInTurn from [] to = from ≡ to
AcceptedInTurn from (call ∷ more) to = IsAccepted from call × AcceptedInTurn (step from call) more to

-- each of the rows asks for a command, and these are accepted one after another and lead from the first history to the
-- last
pub record LeadSingly (from : History) (stamp : Stamp) (rows : List BulkRow) (to : History) : Type 0 where
  pub commands : length (row_calls stamp rows) ≡ length rows
  pub accepted : AcceptedInTurn from (row_calls stamp rows) to

-- ---- the bulk

-- the history without the marks that others follow and without the numbers of its commands
abbrev pub unmarked : History → History
unmarked H = map (λ (e : Stamped). stamped (unnumbered e.stamp) false e.entry) H

-- what the bulk adds is, without marks and numbers, what its rows' commands add one after another, at its timestamp;
-- and its receipt counts the rows
pub record IsItsRows (H : History) (bulk : BulkCall) (drawn : Drawn) : Type 0 where
  pub singly : History
  pub leads : LeadSingly H (unnumbered bulk.stamp) bulk.rows singly
  pub same : unmarked (H ++ drawn.group) ≡ unmarked singly
  pub receipt : drawn.receipt ≡ receipts.Rows (length bulk.rows)

-- the bulk's row of this number, from 1, breaks this rule after the rows before it, whose commands are accepted one
-- after another
pub record IsFirstBroken (H : History) (bulk : BulkCall) (n : ℕ) (rule : Rule) : Type 0 where
  pub before : List BulkRow
  pub row : BulkRow
  pub after : List BulkRow
  pub rows : bulk.rows ≡ before ++ row ∷ after
  pub number : n ≡ length before + 1
  pub singly : History
  pub leads : LeadSingly H (unnumbered bulk.stamp) before singly
  pub breaks : judge_row (view (Some bulk.stamp.maker) singly) (unnumbered bulk.stamp) row ≡ Err rule

-- BulkIsItsRows: on a legal history an accepted bulk does what its rows' commands do one after another; and if a bulk
-- is refused for a row, that row is the first that breaks a rule after those before it
pub record BulkIsItsRows : Type 0 where
  pub accepted : (H : History) (bulk : BulkCall) (drawn : Drawn) → Legal H → IsBulkAllowed H bulk
      → judge_bulk (view (Some bulk.stamp.maker) H) bulk ≡ Ok drawn → IsItsRows H bulk drawn
  pub refused : (H : History) (bulk : BulkCall) (n : ℕ) (rule : Rule) → Legal H → IsBulkAllowed H bulk
      → judge_bulk (view (Some bulk.stamp.maker) H) bulk ≡ Err (broken.Row n rule)
      → IsFirstBroken H bulk n rule
