-- SPDX-License-Identifier: Apache-2.0 OR MIT
-- Legal: which histories come of commands and bulks.
use Rattle.std.specs.Prelude.{ℕ, Bool, true, false, ◌≡◌, List, [], ◌∷◌, ◌++◌}
use Rattle.std.specs.Prelude.{Option, Some, None, Result, Ok, Err, IsFalse}
use Rattle.cr_base.specs.declared.command.Call.{Call}
use Rattle.cr_base.specs.declared.command.Command.{Command}
use Rattle.cr_base.specs.declared.entry.Stamp.{Stamp}
use Rattle.cr_base.specs.declared.retry.RetryKey.{RetryKey}
use Rattle.cr_base.specs.History.{History}
use Rattle.cr_base.specs.Calls.{BulkCall, stamp_by}
use Rattle.cr_base.specs.Drawn.{Drawn}
use Rattle.cr_base.specs.Logins.{command_wants_login}
use Rattle.cr_base.specs.Bounds.{IsBoundedCommand}
use Rattle.cr_base.specs.Bulk.{IsBoundedBulk}
use Rattle.cr_base.specs.Keys.{IsRetryKey, IsKeyOrNone, IsUnused}
use Rattle.cr_base.specs.Moments.{IsMoment}
use Rattle.cr_history.specs.Invariants.{IsRegistered}
use Rattle.cr_policy.specs.View.{view}
use Rattle.cr_policy.specs.Judge.{judge, judge_bulk}

-- ---- who calls

-- the caller is a user who has registered, or is unauthenticated and `login`, which says whether authentication is
-- required, is false
abbrev pub MayAsk : History → Bool → Option ℕ → Type 0
MayAsk H login None = IsFalse login
MayAsk H login (Some user) = IsRegistered H user

-- the caller is a user who has registered
abbrev pub IsUser : History → Option ℕ → Type 0
IsUser H None = ⊥
IsUser H (Some user) = IsRegistered H user

-- if authentication is required (the `Bool`), the caller is a user who has registered; else the caller is
-- unauthenticated
abbrev pub CallsAs : History → Bool → Option ℕ → Type 0
CallsAs H false caller = caller ≡ None
CallsAs H true caller = IsUser H caller

-- the caller may be a command's: of a registration an unauthenticated one, of every other command a user who has
-- registered
abbrev pub IsCaller : History → Option ℕ → Command → Type 0
IsCaller H caller command = CallsAs H (command_wants_login command) caller

-- ---- one call

-- the caller may give this number: within its bounds, and only a user; a command may have none, and a registration has
-- none
abbrev pub IsKeyOf : Option ℕ → Option RetryKey → Type 0
IsKeyOf caller None = Unit {0}
IsKeyOf None (Some key) = ⊥
IsKeyOf (Some user) (Some key) = IsRetryKey key

-- the number is new: the caller has made no entry by a command of that number; having none is new
abbrev pub IsNewKey : History → Option ℕ → Option RetryKey → Type 0
IsNewKey H caller None = Unit {0}
IsNewKey H None (Some key) = ⊥
IsNewKey H (Some user) (Some key) = IsUnused H user key.number

-- the stamp of a command without a number, which is always new
abbrev pub unnumbered : Stamp → Stamp
unnumbered stamp = stamp_by stamp.maker stamp.at None

-- the call may be given: the caller may give the command, and its parts, its timestamp and its number are within the
-- bounds
pub record IsGiven (H : History) (call : Call) : Type 0 where
  pub caller : IsCaller H call.caller call.command
  pub bounded : IsBoundedCommand call.command
  pub moment : IsMoment call.at
  pub key : IsKeyOf call.caller call.key

-- the call may be given (`IsGiven`), and its number is new
pub record IsAllowed (H : History) (call : Call) : Type 0 where
  pub given : IsGiven H call
  pub unused : IsNewKey H call.caller call.key

-- the history followed by the group that is drawn; the history itself if a rule is broken
abbrev pub followed_by : {E : Type 0} → History → Result Drawn E → History
followed_by H (Ok drawn) = H ++ drawn.group
followed_by H (Err refusal) = H

-- Step: the history after the call, by what Judge gives on the caller's view
abbrev pub step : History → Call → History
step H call = followed_by H (judge (view call.caller H) call)

-- ---- one bulk

-- the bulk may be given: its caller is a user who has registered, it has no more rows than a bulk may have, and its
-- timestamp and number are within the bounds
pub record IsBulkGiven (H : History) (bulk : BulkCall) : Type 0 where
  pub caller : IsRegistered H bulk.stamp.maker
  pub bounded : IsBoundedBulk bulk.rows
  pub moment : IsMoment bulk.stamp.at
  pub key : IsKeyOrNone bulk.stamp.key

-- the bulk may be given (`IsBulkGiven`), and its number is new
pub record IsBulkAllowed (H : History) (bulk : BulkCall) : Type 0 where
  pub given : IsBulkGiven H bulk
  pub unused : IsNewKey H (Some bulk.stamp.maker) bulk.stamp.key

-- Step of a bulk: the history after it, by what Judge gives on the caller's view
abbrev pub bulk_step : History → BulkCall → History
bulk_step H bulk = followed_by H (judge_bulk (view (Some bulk.stamp.maker) H) bulk)

-- ---- many calls

-- what leads from one history to the next: a command or a bulk
pub data Move : Type 0 where
  calls : Call → Move
  bulks : BulkCall → Move

-- the move is allowed on this history
abbrev pub IsMoveAllowed : History → Move → Type 0
IsMoveAllowed H (calls call) = IsAllowed H call
IsMoveAllowed H (bulks bulk) = IsBulkAllowed H bulk

-- the history after the move
abbrev pub moved : History → Move → History
moved H (calls call) = step H call
moved H (bulks bulk) = bulk_step H bulk

-- each move is allowed on the history to which those before it lead, and all lead from the first history to the last
abbrev pub LeadsTo : History → List Move → History → Type 0
LeadsTo from [] to = from ≡ to
LeadsTo from (move ∷ moves) to = IsMoveAllowed from move × LeadsTo (moved from move) moves to

-- Legal: allowed moves lead from the empty history to this one
abbrev pub Legal : History → Type 0
Legal H = (moves : List Move) × LeadsTo [] moves H
