-- SPDX-License-Identifier: Apache-2.0 OR MIT
-- Calls: who asks for what, when, and by which number, and the stamp under which the entries that it adds are kept.
-- Timestamps are in seconds (Moments).
use Rattle.std.specs.Prelude.{ℕ, List, Option, Some, unwrap_or}
use Rattle.cr_base.specs.declared.bulk.BulkRow.{BulkRow}
use Rattle.cr_base.specs.declared.command.Call.{Call}
use Rattle.cr_base.specs.declared.command.Command.{Command}
use Rattle.cr_base.specs.declared.entry.Stamp.{Stamp}
use Rattle.cr_base.specs.declared.resolved.ResolvedCall.{ResolvedCall}
use Rattle.cr_base.specs.declared.resolved.ResolvedCommand.{ResolvedCommand}
use Rattle.cr_base.specs.declared.retry.RetryKey.{RetryKey}

-- the stamp of what a user's request at this timestamp adds, by a command with this number, or none
abbrev pub stamp_by : ℕ → ℕ → Option RetryKey → Stamp
stamp_by user at key = record { maker = user; at = at; key = key }

-- the actor of the entries of a caller's command; 0 for an unauthenticated caller, who adds nothing but a registration
abbrev pub maker_of : Option ℕ → ℕ
maker_of caller = unwrap_or caller 0

-- the stamp of a call's entries: their actor is the caller, except of a registration, whose actor is the new user
abbrev pub stamp_of : Call → Stamp
stamp_of call = stamp_by (maker_of call.caller) call.at call.key

-- the command of this caller, who may be unauthenticated, at this timestamp, with this number
abbrev pub call_of : Option ℕ → ℕ → Option RetryKey → Command → Call
call_of caller at key command = record { caller = caller; at = at; key = key; command = command }

-- the command of the user whose stamp this is
abbrev pub call_by : Stamp → Command → Call
call_by stamp command = call_of (Some stamp.maker) stamp.at stamp.key command

-- the resolved command that the stamp's user gives, as a call
abbrev pub resolved_by : Stamp → ResolvedCommand → ResolvedCall
resolved_by stamp command = record { caller = Some stamp.maker; at = stamp.at; key = stamp.key; command = command }

-- the rows of a bulk, and the stamp of the user who gives it
pub record BulkCall : Type 0 where
  pub stamp : Stamp
  pub rows : List BulkRow

-- the bulk of this user at this timestamp, with this number
abbrev pub bulk_by : ℕ → ℕ → Option RetryKey → List BulkRow → BulkCall
bulk_by user at key rows = record { stamp = stamp_by user at key; rows = rows }
