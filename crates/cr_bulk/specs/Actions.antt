-- SPDX-License-Identifier: Apache-2.0 OR MIT
-- What a row does (the HotCRP manual's bulk assignment), as the program has it, and the command of a tag's row.
use Rattle.std.specs.Prelude.{Bool, Result, Ok, Err}
use Rattle.cr_base.specs.Bulk as bulk
use Rattle.cr_base.specs.declared.bulk.BulkRow.{BulkRow}
use Rattle.cr_base.specs.declared.bulk.RowCommand.{RowCommand}
use Rattle.cr_base.specs.declared.command.Command.{Command}
use Rattle.cr_base.specs.declared.reply.Rule.{Rule}
use Rattle.cr_bulk.specs.declared.action.Action.{Action}
use Rattle.cr_bulk.specs.declared.action.Action.TheVariants.{Assign, Unassign, TurnConflict, TurnTag}

-- the same action in the definition
abbrev pub seen : Action → bulk.Action
seen (Assign kind) = bulk.assigns kind
seen Unassign = bulk.unassigns
seen (TurnConflict on) = bulk.turns_conflict on
seen (TurnTag on) = bulk.turns_tag on

-- the command of a row that turns a tag on or off
abbrev pub tag_command : BulkRow → Bool → Result Command Rule
tag_command row on = bulk.command_by (bulk.turns_tag on) row

-- what a row tells, among all commands; or why it tells none
abbrev pub command_or_rule : Result RowCommand Rule → Result Command Rule
command_or_rule (Ok command) = Ok (bulk.command_of_row command)
command_or_rule (Err rule) = Err rule
