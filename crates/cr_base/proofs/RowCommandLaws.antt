-- SPDX-License-Identifier: Apache-2.0 OR MIT
-- What a row of a bulk asks for is one of the commands that a row may tell.
use Rattle.cr_base.specs.declared.bulk.RowCommand.{RowCommand}
use Rattle.cr_base.specs.declared.bulk.RowCommand.TheVariants.{Conflict, Assign, Unassign, Tag}
use Rattle.cr_base.specs.Bulk.{command_of_row, IsRowCommand}

pub of-row : (command : RowCommand) → IsRowCommand (command_of_row command)
of-row (Conflict paper name on) = tt
of-row (Assign paper name kind) = tt
of-row (Unassign paper name) = tt
of-row (Tag paper tag on) = tt
