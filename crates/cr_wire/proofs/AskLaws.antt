-- SPDX-License-Identifier: Apache-2.0 OR MIT
-- What a wish asks for is what its request does, whatever the body and the number tell.
use Rattle.std.proofs.Common.{◌≡◌, ℕ, List, Bool, true, false, Option, Some, None, option_map, Result, Ok, Err, IsTrue}
use Rattle.std.proofs.Common.{refl, ap, subst, sym}
use Rattle.std.specs.Prelude.{codes}
use Rattle.cr_base.specs.Logins.{command_wants_login, task_of}
use Rattle.cr_base.specs.Reports.{report_on}
use Rattle.cr_base.specs.Traits.{ask_wants_login, looks_behind, question_traits, task_traits}
use Rattle.cr_base.specs.declared.ask.Ask.{Ask}
use Rattle.cr_base.specs.declared.ask.Ask.TheVariants as asks
use Rattle.cr_base.specs.declared.ask.Question.{Question}
use Rattle.cr_base.specs.declared.ask.Question.TheVariants as questions
use Rattle.cr_base.specs.declared.ask.Task.{Task}
use Rattle.cr_base.specs.declared.ask.Task.TheVariants as tasks
use Rattle.cr_base.specs.declared.bulk.BulkRow.{BulkRow}
use Rattle.cr_base.specs.declared.command.Command.{Command}
use Rattle.cr_base.specs.declared.command.Command.TheVariants as commands
use Rattle.cr_base.specs.declared.command.Query.TheVariants as queries
use Rattle.cr_base.specs.declared.report.ReportKind.{ReportKind}
use Rattle.cr_base.specs.declared.report.ReportKind.TheVariants as kinds
use Rattle.cr_base.specs.declared.retry.RetryKey.{RetryKey}
use Rattle.cr_base.specs.declared.search.Node.{Node}
use Rattle.cr_bodies.specs.Bodies.{command_in, command_read}
use Rattle.cr_bodies.specs.Field.{◌>>=◌, abstract_under, bid_under, comment_under, decision_under, digest_under}
use Rattle.cr_bodies.specs.Field.{flag_under, grade_under, kind_under, mode_under, name_under, names_under, phase_under}
use Rattle.cr_bodies.specs.Field.{review_text_under, role_under, title_under, user_under}
use Rattle.cr_bodies.specs.Json.{json_of}
use Rattle.cr_bodies.specs.Until.{deadline_phase_under, until_under}
use Rattle.cr_bulk.specs.Rows.{parse_rows}
use Rattle.cr_http.specs.Requests.{RequestText}
use Rattle.cr_routes.specs.Parts.{FoundPath}
use Rattle.cr_wire.specs.Asked.{LooksBehindPath, asked, bulk_of, command_of, command_told, questioned, with_number}
use Rattle.cr_wire.specs.Bounds.{IsKeyFor}
use Rattle.cr_wire.specs.Caller.{ask_of}
use Rattle.cr_wire.specs.Number.{key_of}
use Rattle.cr_wire.specs.Paper.{paper_of, tag_of}
use Rattle.cr_wire.specs.Query.{asks_count, search_read, search_text, searched, number_in, planned}
use Rattle.cr_wire.specs.Target.{query_of}
use Rattle.cr_wire.specs.declared.number.BadCommandNumber.{BadCommandNumber}
use Rattle.cr_wire.specs.declared.what.What.TheVariants as whats

-- the command that is told, if any is, is given by this request
abbrev GivenBy : Task → Option Command → Type 0
GivenBy task None = Unit {0}
GivenBy task (Some command) = task_of command ≡ task

-- what is made of a value that may be there
of_each : {A : Type 0} (task : Task) (found : Option A) (made : A → Option Command)
    → ((x : A) → GivenBy task (made x)) → GivenBy task (found >>= made)
of_each task None made each = tt
of_each task (Some x) made each = each x

-- so a body tells
told_by_body : (task : Task) (paper : Option ℕ) (body : List ℕ) → GivenBy task (command_read task paper body)
told_by_body tasks.Register paper body =
    of_each tasks.Register (json_of body) (command_in tasks.Register paper) (λ d.
    of_each tasks.Register (name_under (codes "name") d) _ (λ name.
    of_each tasks.Register (digest_under (codes "secret") d) _ (λ digest. refl)))
told_by_body tasks.Name paper body =
    of_each tasks.Name (json_of body) (command_in tasks.Name paper) (λ d.
    of_each tasks.Name (user_under (codes "name") d) _ (λ user.
    of_each tasks.Name (role_under (codes "role") d) _ (λ role. refl)))
told_by_body tasks.SetMode paper body =
    of_each tasks.SetMode (json_of body) (command_in tasks.SetMode paper) (λ d.
    of_each tasks.SetMode (mode_under (codes "mode") d) _ (λ mode. refl))
told_by_body tasks.SetPhase paper body =
    of_each tasks.SetPhase (json_of body) (command_in tasks.SetPhase paper) (λ d.
    of_each tasks.SetPhase (phase_under (codes "phase") d) _ (λ phase. refl))
told_by_body tasks.SetDeadline paper body =
    of_each tasks.SetDeadline (json_of body) (command_in tasks.SetDeadline paper) (λ d.
    of_each tasks.SetDeadline (deadline_phase_under (codes "phase") d) _ (λ phase.
    of_each tasks.SetDeadline (until_under (codes "until") d) _ (λ until. refl)))
told_by_body tasks.Submit paper body =
    of_each tasks.Submit (json_of body) (command_in tasks.Submit paper) (λ d.
    of_each tasks.Submit (title_under (codes "title") d) _ (λ title.
    of_each tasks.Submit (abstract_under (codes "abstract") d) _ (λ abstract.
    of_each tasks.Submit (names_under (codes "authors") d) _ (λ authors. refl))))
told_by_body tasks.Revise paper body =
    of_each tasks.Revise (json_of body) (command_in tasks.Revise paper) (λ d.
    of_each tasks.Revise (title_under (codes "title") d) _ (λ title.
    of_each tasks.Revise (abstract_under (codes "abstract") d) _ (λ abstract. refl)))
told_by_body tasks.SetConflict paper body =
    of_each tasks.SetConflict (json_of body) (command_in tasks.SetConflict paper) (λ d.
    of_each tasks.SetConflict (flag_under (codes "on") d) _ (λ on.
    of_each tasks.SetConflict (user_under (codes "user") d) _ (λ user. refl)))
told_by_body tasks.Bid paper body =
    of_each tasks.Bid (json_of body) (command_in tasks.Bid paper) (λ d.
    of_each tasks.Bid (bid_under (codes "bid") d) _ (λ bid. refl))
told_by_body tasks.Assign paper body =
    of_each tasks.Assign (json_of body) (command_in tasks.Assign paper) (λ d.
    of_each tasks.Assign (kind_under (codes "kind") d) _ (λ kind.
    of_each tasks.Assign (user_under (codes "user") d) _ (λ user. refl)))
told_by_body tasks.Invite paper body =
    of_each tasks.Invite (json_of body) (command_in tasks.Invite paper) (λ d.
    of_each tasks.Invite (user_under (codes "user") d) _ (λ user. refl))
told_by_body tasks.Review paper body =
    of_each tasks.Review (json_of body) (command_in tasks.Review paper) (λ d.
    of_each tasks.Review (grade_under (codes "score") d) _ (λ score.
    of_each tasks.Review (grade_under (codes "confidence") d) _ (λ confidence.
    of_each tasks.Review (review_text_under (codes "to_authors") d) _ (λ to_authors.
    of_each tasks.Review (review_text_under (codes "to_pc") d) _ (λ to_pc. refl)))))
told_by_body tasks.Respond paper body =
    of_each tasks.Respond (json_of body) (command_in tasks.Respond paper) (λ d.
    of_each tasks.Respond (comment_under (codes "text") d) _ (λ text. refl))
told_by_body tasks.Comment paper body =
    of_each tasks.Comment (json_of body) (command_in tasks.Comment paper) (λ d.
    of_each tasks.Comment (comment_under (codes "text") d) _ (λ text. refl))
told_by_body tasks.Decide paper body =
    of_each tasks.Decide (json_of body) (command_in tasks.Decide paper) (λ d.
    of_each tasks.Decide (decision_under (codes "decision") d) _ (λ decision. refl))
told_by_body task paper body = of_each task (json_of body) (command_in task paper) (λ d. tt)

-- so a path tells of a tag
told_tag : (task : Task) (made : List ℕ → Command) → ((tag : List ℕ) → task_of (made tag) ≡ task)
    → (tag : Option (List ℕ)) → GivenBy task (option_map made tag)
told_tag task made each None = tt
told_tag task made each (Some tag) = each tag

given : (task : Task) (found : FoundPath) (body : List ℕ) → GivenBy task (command_told task found body)
given tasks.Withdraw found body = refl
given tasks.Dismiss found body = refl
given tasks.Unassign found body = refl
given tasks.Uninvite found body = refl
given tasks.Tag found body =
    told_tag tasks.Tag (λ tag. commands.Tag (paper_of found) tag true) (λ tag. refl) (tag_of found)
given tasks.Untag found body =
    told_tag tasks.Untag (λ tag. commands.Tag (paper_of found) tag false) (λ tag. refl) (tag_of found)
given tasks.Upload found body = refl
given task found body = told_by_body task (paper_of found) body

asks_for : (task : Task) (key : Option RetryKey) (told : Option Command) → GivenBy task told
    → ask_of (command_of task key told) ≡ Some (asks.Give task)
asks_for task key None given = refl
asks_for task key (Some command) given = ap (λ (t : Task). Some (asks.Give t)) given

-- so is what a query string tells
by_query : (only_count : Bool) (read : Result (List Node) ℕ)
    → ask_of (searched only_count read) ≡ Some (asks.Tell questions.Search)
by_query only_count (Err offset) = refl
by_query only_count (Ok nodes) = refl

by_numbers : (per_paper load : Option ℕ) → ask_of (planned per_paper load) ≡ Some (asks.Tell questions.Plan)
by_numbers None load = refl
by_numbers (Some per_paper) None = refl
by_numbers (Some per_paper) (Some load) = refl

by_question : (question : Question) (found : FoundPath) (query : List ℕ)
    → ask_of (questioned question found query) ≡ Some (asks.Tell question)
by_question questions.Search found query = by_query (asks_count query) (search_read (search_text query))
by_question questions.Plan found query =
    by_numbers (number_in (codes "per_paper") 26 query) (number_in (codes "load") 512 query)
by_question question found query = refl

by_kind : (kind : ReportKind) (paper : Option ℕ)
    → ask_of (whats.Query (queries.Report (report_on kind paper))) ≡ Some (asks.Report kind)
by_kind kinds.Letter paper = refl
by_kind kind paper = refl

-- and what the rows of a bulk are
by_rows : (key : Option RetryKey) (rows : Option (List BulkRow)) → ask_of (bulk_of key rows) ≡ Some asks.Bulk
by_rows key None = refl
by_rows key (Some rows) = refl

ask_by_ask : (ask : Ask) (found : FoundPath) (key : Option RetryKey) (query body : List ℕ)
    → ask_of (asked ask found key query body) ≡ Some ask
ask_by_ask (asks.Give task) found key query body =
    asks_for task key (command_told task found body) (given task found body)
ask_by_ask (asks.Tell question) found key query body = by_question question found query
ask_by_ask (asks.Report kind) found key query body = by_kind kind (paper_of found)
ask_by_ask asks.Bulk found key query body = by_rows key (parse_rows body)

-- and none of it changes by what the number is told to be
pub ask_by_number : (ask : Ask) (found : FoundPath) (told : Result (Option ℕ) BadCommandNumber) (r : RequestText)
    → ask_of (with_number ask found told r) ≡ Some ask
ask_by_number ask found (Err bad) r = refl
ask_by_number ask found (Ok number) r = ask_by_ask ask found (key_of number r) (query_of r.head.target) r.body

-- a command that a body carries looks at it, whatever it tells
pub looked : (task : Task) (found : FoundPath) (key : Option RetryKey) (body : List ℕ)
    → IsTrue (looks_behind (task_traits task).carrier)
    → LooksBehindPath (command_of task key (command_told task found body))
looked task found key body behind = by (command_told task found body) (given task found body)
  where
    by : (told : Option Command) → GivenBy task told → LooksBehindPath (command_of task key told)
    by None given = behind
    by (Some command) given = subst (λ (t : Task). IsTrue (looks_behind (task_traits t).carrier)) (sym given) behind

-- so does a question that the query string carries
pub looked_query : (question : Question) (found : FoundPath) (query : List ℕ)
    → IsTrue (looks_behind (question_traits question).carrier) → LooksBehindPath (questioned question found query)
looked_query questions.Search found query behind =
    searching (asks_count query) (search_read (search_text query))
  where
    searching : (only_count : Bool) (read : Result (List Node) ℕ) → LooksBehindPath (searched only_count read)
    searching only_count (Err offset) = refl
    searching only_count (Ok nodes) = refl
looked_query questions.Plan found query behind =
    planning (number_in (codes "per_paper") 26 query) (number_in (codes "load") 512 query)
  where
    planning : (per_paper load : Option ℕ) → LooksBehindPath (planned per_paper load)
    planning None load = refl
    planning (Some per_paper) None = refl
    planning (Some per_paper) (Some load) = refl
looked_query question found query behind = behind

-- and so does a bulk
pub looked_rows : (key : Option RetryKey) (rows : Option (List BulkRow)) → LooksBehindPath (bulk_of key rows)
looked_rows key None = refl
looked_rows key (Some rows) = refl

-- a key that is one of this request's is one of the command's that it gives
pub key-given : (task : Task) (found : FoundPath) (body : List ℕ) (command : Command) (key : Option RetryKey)
    → command_told task found body ≡ Some command
    → IsKeyFor (ask_wants_login (asks.Give task)) key → IsKeyFor (command_wants_login command) key
key-given task found body command key told fits =
    let by : GivenBy task (Some command) =
    subst (λ (t : Option Command). GivenBy task t) told (given task found body) in
    subst (λ (t : Task). IsKeyFor (ask_wants_login (asks.Give t)) key) (sym by) fits
