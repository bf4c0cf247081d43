-- SPDX-License-Identifier: Apache-2.0 OR MIT
-- What a request wishes, by its method, its target, its number and its body or its query string. Which of these are
-- read, its traits tell (`Traits` of cr_base).
use Rattle.std.specs.Prelude.{ℕ, List, Bool, true, false, IsTrue, Option, Some, None}
use Rattle.std.specs.Prelude.{Result, Ok, Err, option_and_then, option_map, if◌then◌else◌}
use Rattle.std.specs.Option.{option_map_or}
use Rattle.std.specs.Str.{is_utf8}
use Rattle.cr_base.specs.Reports.{report_on}
use Rattle.cr_base.specs.Traits.{looks_behind, task_traits, traits_of}
use Rattle.cr_base.specs.declared.ask.Ask.{Ask}
use Rattle.cr_base.specs.declared.ask.Ask.TheVariants as asks
use Rattle.cr_base.specs.declared.ask.Carrier.{Carrier}
use Rattle.cr_base.specs.declared.ask.Carrier.TheVariants.{Json, Content}
use Rattle.cr_base.specs.declared.ask.Question.{Question}
use Rattle.cr_base.specs.declared.ask.Question.TheVariants as questions
use Rattle.cr_base.specs.declared.ask.Task.{Task}
use Rattle.cr_base.specs.declared.ask.Task.TheVariants as tasks
use Rattle.cr_base.specs.declared.bulk.BulkRow.{BulkRow}
use Rattle.cr_base.specs.declared.command.Command.{Command}
use Rattle.cr_base.specs.declared.command.Command.TheVariants as commands
use Rattle.cr_base.specs.declared.command.Query.TheVariants as queries
use Rattle.cr_base.specs.declared.retry.RetryKey.{RetryKey}
use Rattle.cr_bodies.specs.Bodies.{command_read}
use Rattle.cr_bulk.specs.Rows.{parse_rows}
use Rattle.cr_http.specs.Requests.{RequestText}
use Rattle.cr_routes.specs.Asks.{ask_at}
use Rattle.cr_routes.specs.Parts.{FoundPath, found_at}
use Rattle.cr_routes.specs.Methods.{method_of}
use Rattle.cr_wire.specs.Caller.{ask_of}
use Rattle.cr_wire.specs.Number.{key_of, number_for, request_of}
use Rattle.cr_wire.specs.Paper.{member_of, paper_of, tag_of, user_of, version_of}
use Rattle.cr_wire.specs.Query.{search_in, plan_in}
use Rattle.cr_wire.specs.Target.{path_of, query_of}
use Rattle.cr_wire.specs.declared.numbered.Numbered.{Numbered}
use Rattle.cr_wire.specs.declared.number.BadCommandNumber.{BadCommandNumber}
use Rattle.cr_wire.specs.declared.what.What.{What}
use Rattle.cr_wire.specs.declared.what.What.TheVariants.{NoRoute, WrongMethod, BadNumber, BadBody}
use Rattle.cr_wire.specs.declared.what.What.TheVariants.{Command as Commands, Query as Queries, Bulk}

-- what a path is found to be; `None` if it isn't UTF-8, or no resource has it
abbrev pub find_at : List ℕ → Option FoundPath
find_at path = if is_utf8 path then found_at path else None

-- the command that turns the tag of a path on or off; `None` if the path tells no valid tag
abbrev pub tagged : FoundPath → Bool → Option Command
tagged found on = option_map (λ tag. commands.Tag (paper_of found) tag on) (tag_of found)

-- the command that a path tells without a body; `None` if it tells none
abbrev pub command_at : Task → FoundPath → Option Command
command_at tasks.Withdraw found = Some (commands.Withdraw (paper_of found))
command_at tasks.Dismiss found = Some (commands.Dismiss (member_of found))
command_at tasks.Unassign found = Some (commands.Unassign (paper_of found) (user_of found))
command_at tasks.Uninvite found = Some (commands.Uninvite (paper_of found) (user_of found))
command_at tasks.Tag found = tagged found true
command_at tasks.Untag found = tagged found false
command_at task found = None

-- the command that a request tells, by what carries the rest of it: the path only, a JSON value, or bytes, as an
-- upload's content is
abbrev pub command_carried : Carrier → Task → FoundPath → List ℕ → Option Command
command_carried Json task found body = command_read task (paper_of found) body
command_carried Content task found body = Some (commands.Upload (paper_of found) body)
command_carried carrier task found body = command_at task found

-- the command that a request for this task tells, by its path and its body
abbrev pub command_told : Task → FoundPath → List ℕ → Option Command
command_told task found body = command_carried (task_traits task).carrier task found body

-- the wish of a command with this key; a bad body if the request tells none, also if a text is no valid tag
abbrev pub command_of : Task → Option RetryKey → Option Command → What
command_of task key None = BadBody (asks.Give task)
command_of task key (Some command) = Commands key command

-- the wish of a question, by its path and its query string
abbrev pub questioned : Question → FoundPath → List ℕ → What
questioned questions.Me found query = Queries queries.Me
questioned questions.Accounts found query = Queries queries.Accounts
questioned questions.Phase found query = Queries queries.Phase
questioned questions.Deadlines found query = Queries queries.Deadlines
questioned questions.AcceptedPapers found query = Queries queries.AcceptedPapers
questioned questions.Page found query = Queries (queries.Page (paper_of found))
questioned questions.Content found query = Queries (queries.Content (paper_of found))
questioned questions.Version found query = Queries (queries.Version (paper_of found) (version_of found))
questioned questions.Reviews found query = Queries (queries.Reviews (paper_of found))
questioned questions.Comments found query = Queries (queries.Comments (paper_of found))
questioned questions.Response found query = Queries (queries.Response (paper_of found))
questioned questions.Search found query = search_in query
questioned questions.Plan found query = plan_in query

-- the wish of a bulk with this key; a bad body if the body spells no rows
abbrev pub bulk_of : Option RetryKey → Option (List BulkRow) → What
bulk_of key None = BadBody asks.Bulk
bulk_of key (Some rows) = Bulk key rows

-- the wish of a request for this, with its path, its key, its query string and its body
abbrev pub asked : Ask → FoundPath → Option RetryKey → List ℕ → List ℕ → What
asked (asks.Give task) found key query body = command_of task key (command_told task found body)
asked (asks.Tell question) found key query body = questioned question found query
asked (asks.Report kind) found key query body = Queries (queries.Report (report_on kind (paper_of found)))
asked asks.Bulk found key query body = bulk_of key (parse_rows body)

-- the wish of a request for this that gives its command this number, or none
abbrev pub asked_with : Ask → FoundPath → Option ℕ → RequestText → What
asked_with ask found number r = asked ask found (key_of number r) (query_of r.head.target) r.body

-- the wish of a request for this, as the program has it
abbrev pub asked_by : Ask → FoundPath → Numbered → What
asked_by ask found n = asked_with ask found n.number (request_of n)

-- the wish of a request for this, by what it tells of its number; if that is bad, its body isn't read
abbrev pub with_number : Ask → FoundPath → Result (Option ℕ) BadCommandNumber → RequestText → What
with_number ask found (Err bad) r = BadNumber ask
with_number ask found (Ok number) r = asked_with ask found number r

-- the wish of a request on this path, by what its method asks for there; a wrong method if the path doesn't have it
abbrev pub with_ask : FoundPath → Option Ask → RequestText → What
with_ask found None r = WrongMethod found.resource
with_ask found (Some ask) r = with_number ask found (number_for ask r.head.fields) r

-- the wish of a request, by what its path is found to be; no route if there is no such path
abbrev pub with_found : Option FoundPath → RequestText → What
with_found None r = NoRoute
with_found (Some found) r = with_ask found (option_and_then (ask_at found.resource) (method_of r.head.method)) r

-- the wish of a request
abbrev pub what_of : RequestText → What
what_of r = with_found (find_at (path_of r.head.target)) r

-- a wish in which the body or the query string was read, which is what takes memory; if the number is bad, neither is
abbrev pub looks_behind_path : What → Bool
looks_behind_path (BadNumber ask) = false
looks_behind_path what = option_map_or (λ ask. looks_behind (traits_of ask).carrier) (ask_of what) false

-- `looks_behind_path` holds of the wish
abbrev pub LooksBehindPath : What → Type 0
LooksBehindPath what = IsTrue (looks_behind_path what)
