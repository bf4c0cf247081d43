-- SPDX-License-Identifier: Apache-2.0 OR MIT
-- What is so of every request for one thing: one table, a line for each thing that can be asked for.
use Rattle.std.specs.Prelude.{Bool, true, false, ◌&&◌}
use Rattle.cr_base.specs.declared.ask.Ask.{Ask}
use Rattle.cr_base.specs.declared.ask.Ask.TheVariants.{Give, Tell, Report, Bulk}
use Rattle.cr_base.specs.declared.ask.Carrier.{Carrier}
use Rattle.cr_base.specs.declared.ask.Carrier.TheVariants.{Path, Json, Content, Rows, QueryString}
use Rattle.cr_base.specs.declared.ask.Question.{Question}
use Rattle.cr_base.specs.declared.ask.Question.TheVariants as questions
use Rattle.cr_base.specs.declared.ask.Task.{Task}
use Rattle.cr_base.specs.declared.ask.Task.TheVariants as tasks
use Rattle.cr_base.specs.declared.ask.Traits.{Traits}

-- whether a login is wanted, whether something changes, and what carries the rest of the request beside its path
abbrev pub traits : Bool → Bool → Carrier → Traits
traits wants_login changes carrier =
    record { wants_login = wants_login; changes = changes; carrier = carrier }

-- what is true of every request for a command: a registration requires no authentication, every other command does
abbrev pub task_traits : Task → Traits
task_traits tasks.Register = traits false true Json
task_traits tasks.Name = traits true true Json
task_traits tasks.Dismiss = traits true true Path
task_traits tasks.SetMode = traits true true Json
task_traits tasks.SetPhase = traits true true Json
task_traits tasks.SetDeadline = traits true true Json
task_traits tasks.Submit = traits true true Json
task_traits tasks.Revise = traits true true Json
task_traits tasks.Withdraw = traits true true Path
task_traits tasks.Upload = traits true true Content
task_traits tasks.SetConflict = traits true true Json
task_traits tasks.Bid = traits true true Json
task_traits tasks.Assign = traits true true Json
task_traits tasks.Unassign = traits true true Path
task_traits tasks.Invite = traits true true Json
task_traits tasks.Uninvite = traits true true Path
task_traits tasks.Review = traits true true Json
task_traits tasks.Comment = traits true true Json
task_traits tasks.Respond = traits true true Json
task_traits tasks.Tag = traits true true Path
task_traits tasks.Untag = traits true true Path
task_traits tasks.Decide = traits true true Json

-- what is true of every request for a query: the accounts, the conference, its deadlines and the accepted papers
-- require no authentication, all else does, except what is published (`login_wanted` in Answering)
abbrev pub question_traits : Question → Traits
question_traits questions.Me = traits true false Path
question_traits questions.Accounts = traits false false Path
question_traits questions.Phase = traits false false Path
question_traits questions.Deadlines = traits false false Path
question_traits questions.AcceptedPapers = traits false false Path
question_traits questions.Page = traits true false Path
question_traits questions.Content = traits true false Path
question_traits questions.Version = traits true false Path
question_traits questions.Reviews = traits true false Path
question_traits questions.Comments = traits true false Path
question_traits questions.Response = traits true false Path
question_traits questions.Search = traits true false QueryString
question_traits questions.Plan = traits true false QueryString

-- what is true of every request for this
abbrev pub traits_of : Ask → Traits
traits_of (Give task) = task_traits task
traits_of (Tell question) = question_traits question
traits_of (Report kind) = traits true false Path
traits_of Bulk = traits true true Rows

-- ---- what follows from them

-- a request for this requires authentication. It then reads the field Authorization, also if what is published requires
-- none: users may be told more of a published paper.
abbrev pub ask_wants_login : Ask → Bool
ask_wants_login ask = (traits_of ask).wants_login

-- whether it reads the field Command-Number: commands but a registration do, and bulks
abbrev pub ask_reads_number : Ask → Bool
ask_reads_number ask = (traits_of ask).changes && (traits_of ask).wants_login

-- what follows the path is read: a body or a query string
abbrev pub looks_behind : Carrier → Bool
looks_behind Path = false
looks_behind Json = true
looks_behind Content = true
looks_behind Rows = true
looks_behind QueryString = true
