-- SPDX-License-Identifier: Apache-2.0 OR MIT
-- Which callers may give which commands here, and what a command may name.
use Rattle.std.specs.Prelude.{◌≤◌, length, IsSome}
use Rattle.cr_base.specs.declared.resolved.ResolvedCall.{ResolvedCall}
use Rattle.cr_base.specs.declared.command.Command.{Command}
use Rattle.cr_base.specs.declared.command.Command.TheVariants.{Submit, Name, SetConflict, Assign, Unassign, Dismiss}
use Rattle.cr_base.specs.declared.command.Command.TheVariants.{Invite, Uninvite}
use Rattle.cr_base.specs.Logins.{IfWanted}
use Rattle.cr_base.specs.Resolving.{resolved_wants_login}

-- a call has a caller, if its command requires authentication
abbrev pub HasCaller : ResolvedCall → Type 0
HasCaller call = IfWanted (resolved_wants_login call.command) (IsSome call.caller)

-- a submission names at most as many co-authors as an effect has places for
abbrev pub HasFewAuthors : Command → Type 0
HasFewAuthors (Submit title abstract authors) = length authors ≤ 19
HasFewAuthors _ = Unit {0}

-- the command names one user
abbrev pub NamesUser : Command → Type 0
NamesUser (Name user role) = Unit {0}
NamesUser (SetConflict paper user on) = Unit {0}
NamesUser (Assign paper user kind) = Unit {0}
NamesUser (Unassign paper user) = Unit {0}
NamesUser (Dismiss user) = Unit {0}
NamesUser (Invite paper user) = Unit {0}
NamesUser (Uninvite paper user) = Unit {0}
NamesUser _ = ⊥
