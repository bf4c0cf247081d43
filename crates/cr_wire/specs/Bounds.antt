-- SPDX-License-Identifier: Apache-2.0 OR MIT
-- The bounds on what is wished: a command is within the bounds on commands, a bulk within those on bulks, and the key
-- of either within those on keys.
use Rattle.std.specs.Prelude.{◌≡◌, Bool, true, false, Option, None}
use Rattle.cr_base.specs.Bulk.{IsBoundedBulk}
use Rattle.cr_base.specs.Bounds.{IsBoundedCommand}
use Rattle.cr_base.specs.Keys.{IsKeyOrNone}
use Rattle.cr_base.specs.Logins.{command_wants_login}
use Rattle.cr_base.specs.declared.retry.RetryKey.{RetryKey}
use Rattle.cr_wire.specs.declared.what.What.{What}
use Rattle.cr_wire.specs.declared.what.What.TheVariants.{NoRoute, WrongMethod, BadNumber, BadBody, BadQuery}
use Rattle.cr_wire.specs.declared.what.What.TheVariants.{Command, Query, Bulk}

-- a key is within its bounds; there is none if authentication isn't required, since only users give any
abbrev pub IsKeyFor : Bool → Option RetryKey → Type 0
IsKeyFor false key = key ≡ None
IsKeyFor true key = IsKeyOrNone key

-- what is wished is within its bounds
abbrev pub IsBoundedWhat : What → Type 0
IsBoundedWhat NoRoute = Unit {0}
IsBoundedWhat (WrongMethod resource) = Unit {0}
IsBoundedWhat (BadNumber ask) = Unit {0}
IsBoundedWhat (BadBody ask) = Unit {0}
IsBoundedWhat (BadQuery ask offset) = Unit {0}
IsBoundedWhat (Command key command) = IsBoundedCommand command × IsKeyFor (command_wants_login command) key
IsBoundedWhat (Query query) = Unit {0}
IsBoundedWhat (Bulk key rows) = IsBoundedBulk rows × IsKeyOrNone key
