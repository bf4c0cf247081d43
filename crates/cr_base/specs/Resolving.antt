-- SPDX-License-Identifier: Apache-2.0 OR MIT
-- Which users a command names: each user told by a name is the number of that name among the accounts, or there is no
-- such user. Besides, the command whose group begins with an entry, which tells users by number already.
use Rattle.std.specs.Prelude.{ℕ, Bool, true, false, List, [], Option, Some, None, is_none, if◌then◌else◌}
use Rattle.std.specs.List.{flat_map, list_any}
use Rattle.cr_base.specs.declared.command.Call.{Call}
use Rattle.cr_base.specs.declared.command.Command.{Command}
use Rattle.cr_base.specs.declared.command.Command.TheVariants as commands
use Rattle.cr_base.specs.declared.entry.Entry.{Entry}
use Rattle.cr_base.specs.declared.entry.Entry.TheVariants as entries
use Rattle.cr_base.specs.declared.reply.AccountLine.{AccountLine}
use Rattle.cr_base.specs.declared.resolved.ResolvedCall.{ResolvedCall}
use Rattle.cr_base.specs.declared.resolved.ResolvedCommand.{ResolvedCommand}
use Rattle.cr_base.specs.declared.resolved.ResolvedCommand.TheVariants as resolved
use Rattle.cr_base.specs.Lists.{listed}
use Rattle.cr_base.specs.Sources.{user_among, users_among}

-- ---- by names

-- the users found; `None` if one wasn't
abbrev pub all_found : List (Option ℕ) → Option (List ℕ)
all_found users = if list_any is_none users then None else Some (flat_map listed users)

-- the command with each user that it names looked up among the accounts
abbrev pub resolve : List AccountLine → Command → ResolvedCommand
resolve accounts (commands.Register name digest) = resolved.Register name digest
resolve accounts (commands.SetPhase phase) = resolved.SetPhase phase
resolve accounts (commands.Submit title abstract authors) =
    resolved.Submit title abstract (all_found (users_among accounts authors))
resolve accounts (commands.Revise paper title abstract) = resolved.Revise paper title abstract
resolve accounts (commands.Upload paper content) = resolved.Upload paper content
resolve accounts (commands.Withdraw paper) = resolved.Withdraw paper
resolve accounts (commands.Name name role) = resolved.Name (user_among accounts name) role
resolve accounts (commands.SetMode mode) = resolved.SetMode mode
resolve accounts (commands.SetConflict paper name on) = resolved.SetConflict paper (user_among accounts name) on
resolve accounts (commands.Bid paper value) = resolved.Bid paper value
resolve accounts (commands.Assign paper name kind) = resolved.Assign paper (user_among accounts name) kind
resolve accounts (commands.Unassign paper name) = resolved.Unassign paper (user_among accounts name)
resolve accounts (commands.Review paper form) = resolved.Review paper form
resolve accounts (commands.Respond paper text) = resolved.Respond paper text
resolve accounts (commands.Comment paper text) = resolved.Comment paper text
resolve accounts (commands.Tag paper tag on) = resolved.Tag paper tag on
resolve accounts (commands.Decide paper decision) = resolved.Decide paper decision
resolve accounts (commands.SetDeadline phase until) = resolved.SetDeadline phase until
resolve accounts (commands.Dismiss name) = resolved.Dismiss (user_among accounts name)
resolve accounts (commands.Invite paper name) = resolved.Invite paper (user_among accounts name)
resolve accounts (commands.Uninvite paper name) = resolved.Uninvite paper (user_among accounts name)

-- the call with each user that its command names looked up among the accounts
abbrev pub resolve_call : List AccountLine → Call → ResolvedCall
resolve_call accounts call = record {
  caller = call.caller;
  at = call.at;
  key = call.key;
  command = resolve accounts call.command;
}

-- the command requires authentication: it isn't a registration
abbrev pub resolved_wants_login : ResolvedCommand → Bool
resolved_wants_login (resolved.Register name digest) = false
resolved_wants_login command = true

-- ---- by entries

-- the command whose group begins with the entry, of a submission without its co-authors; `None` if the entry begins no
-- command's group: a co-author
abbrev pub command_of : Entry → Option ResolvedCommand
command_of (entries.Registered user name digest) = Some (resolved.Register name digest)
command_of (entries.Named user role) = Some (resolved.Name (Some user) role)
command_of (entries.PhaseSet phase) = Some (resolved.SetPhase phase)
command_of (entries.ModeSet mode) = Some (resolved.SetMode mode)
command_of (entries.Submitted paper title abstract) = Some (resolved.Submit title abstract (Some []))
command_of (entries.Coauthor paper user) = None
command_of (entries.Revised paper title abstract) = Some (resolved.Revise (Some paper) title abstract)
command_of (entries.Uploaded paper version content) = Some (resolved.Upload (Some paper) content)
command_of (entries.Withdrawn paper) = Some (resolved.Withdraw (Some paper))
command_of (entries.Conflict paper user on) = Some (resolved.SetConflict (Some paper) (Some user) on)
command_of (entries.Bid paper value) = Some (resolved.Bid (Some paper) value)
command_of (entries.Assigned paper user kind ordinal) = Some (resolved.Assign (Some paper) (Some user) kind)
command_of (entries.Unassigned paper user ordinal) = Some (resolved.Unassign (Some paper) (Some user))
command_of (entries.Reviewed paper ordinal version form) = Some (resolved.Review (Some paper) form)
command_of (entries.Commented paper n ordinal text) = Some (resolved.Comment (Some paper) text)
command_of (entries.Tagged paper tag on) = Some (resolved.Tag (Some paper) tag on)
command_of (entries.Decided paper decision) = Some (resolved.Decide (Some paper) decision)
command_of (entries.DeadlineSet phase until) = Some (resolved.SetDeadline phase until)
command_of (entries.Dismissed user) = Some (resolved.Dismiss (Some user))
command_of (entries.Invited paper user) = Some (resolved.Invite (Some paper) (Some user))
command_of (entries.Uninvited paper user) = Some (resolved.Uninvite (Some paper) (Some user))
command_of (entries.Responded paper text) = Some (resolved.Respond (Some paper) text)

-- the numbers of an entry that its command doesn't give but that are drawn: of a user or a paper, a version, a label's
-- ordinal or a comment's number; and, of a review and a comment, an ordinal besides
pub record Numbers : Type 0 where
  pub number : ℕ
  pub ordinal : Option ℕ

-- one drawn number, without an ordinal besides
abbrev pub numbers : ℕ → Numbers
numbers n = record { number = n; ordinal = None }

-- the numbers of an entry that are drawn
abbrev pub drawn_numbers : Entry → Numbers
drawn_numbers (entries.Registered user name digest) = numbers user
drawn_numbers (entries.Submitted paper title abstract) = numbers paper
drawn_numbers (entries.Uploaded paper version content) = numbers version
drawn_numbers (entries.Assigned paper user kind ordinal) = numbers ordinal
drawn_numbers (entries.Unassigned paper user ordinal) = numbers ordinal
drawn_numbers (entries.Reviewed paper ordinal version form) = record { number = version; ordinal = Some ordinal }
drawn_numbers (entries.Commented paper n ordinal text) = record { number = n; ordinal = ordinal }
drawn_numbers _ = numbers 0
