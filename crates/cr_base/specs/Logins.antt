-- SPDX-License-Identifier: Apache-2.0 OR MIT
-- What a command or a query asks for, and so whether a login is wanted for it (Traits).
use Rattle.std.specs.Prelude.{Bool, true, false}
use Rattle.cr_base.specs.declared.ask.Ask.{Ask}
use Rattle.cr_base.specs.declared.ask.Ask.TheVariants as asks
use Rattle.cr_base.specs.declared.ask.Question.TheVariants as questions
use Rattle.cr_base.specs.declared.ask.Task.{Task}
use Rattle.cr_base.specs.declared.ask.Task.TheVariants as tasks
use Rattle.cr_base.specs.declared.command.Command.{Command}
use Rattle.cr_base.specs.declared.command.Command.TheVariants as commands
use Rattle.cr_base.specs.declared.command.Query.{Query}
use Rattle.cr_base.specs.declared.command.Query.TheVariants as queries
use Rattle.cr_base.specs.Reports.{report_kind}
use Rattle.cr_base.specs.Traits.{ask_wants_login}

-- what a command asks to change
abbrev pub task_of : Command → Task
task_of (commands.Register name digest) = tasks.Register
task_of (commands.SetPhase phase) = tasks.SetPhase
task_of (commands.Submit title abstract authors) = tasks.Submit
task_of (commands.Revise paper title abstract) = tasks.Revise
task_of (commands.Upload paper content) = tasks.Upload
task_of (commands.Withdraw paper) = tasks.Withdraw
task_of (commands.Name user role) = tasks.Name
task_of (commands.SetMode mode) = tasks.SetMode
task_of (commands.SetConflict paper user on) = tasks.SetConflict
task_of (commands.Bid paper value) = tasks.Bid
task_of (commands.Assign paper user kind) = tasks.Assign
task_of (commands.Unassign paper user) = tasks.Unassign
task_of (commands.Review paper form) = tasks.Review
task_of (commands.Comment paper text) = tasks.Comment
task_of (commands.Tag paper tag true) = tasks.Tag
task_of (commands.Tag paper tag false) = tasks.Untag
task_of (commands.Decide paper decision) = tasks.Decide
task_of (commands.SetDeadline phase until) = tasks.SetDeadline
task_of (commands.Dismiss user) = tasks.Dismiss
task_of (commands.Invite paper user) = tasks.Invite
task_of (commands.Uninvite paper user) = tasks.Uninvite
task_of (commands.Respond paper text) = tasks.Respond

-- the request by which a command is given, and by which a query is asked
abbrev pub command_ask : Command → Ask
command_ask command = asks.Give (task_of command)

-- what a request for this query asks for
abbrev pub query_ask : Query → Ask
query_ask queries.Me = asks.Tell questions.Me
query_ask queries.Accounts = asks.Tell questions.Accounts
query_ask queries.Phase = asks.Tell questions.Phase
query_ask queries.Deadlines = asks.Tell questions.Deadlines
query_ask queries.AcceptedPapers = asks.Tell questions.AcceptedPapers
query_ask (queries.Page paper) = asks.Tell questions.Page
query_ask (queries.Content paper) = asks.Tell questions.Content
query_ask (queries.Version paper version) = asks.Tell questions.Version
query_ask (queries.Reviews paper) = asks.Tell questions.Reviews
query_ask (queries.Comments paper) = asks.Tell questions.Comments
query_ask (queries.Response paper) = asks.Tell questions.Response
query_ask (queries.Search search only_count) = asks.Tell questions.Search
query_ask (queries.Report report) = asks.Report (report_kind report)
query_ask (queries.Plan per_paper load) = asks.Tell questions.Plan

-- each wants the login that its request does
abbrev pub command_wants_login : Command → Bool
command_wants_login command = ask_wants_login (command_ask command)

-- a query requires authentication
abbrev pub query_wants_login : Query → Bool
query_wants_login query = ask_wants_login (query_ask query)

-- this holds if authentication is required (the `Bool`)
abbrev pub IfWanted : Bool → Type 0 → Type 0
IfWanted false A = Unit {0}
IfWanted true A = A
