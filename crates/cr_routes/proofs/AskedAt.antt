-- SPDX-License-Identifier: Apache-2.0 OR MIT
-- All that can be asked for is asked by some method at some path.
use Rattle.std.proofs.Common.{refl}
use Rattle.cr_base.specs.declared.ask.Ask.{Ask}
use Rattle.cr_base.specs.declared.ask.Ask.TheVariants as asks
use Rattle.cr_base.specs.declared.ask.Question.TheVariants as questions
use Rattle.cr_base.specs.declared.ask.Task.TheVariants as tasks
use Rattle.cr_routes.specs.Asks.{HasRoute}
use Rattle.cr_routes.specs.declared.method.Method.TheVariants.{Get, Post, Put, Delete}
use Rattle.cr_routes.specs.declared.resource.Resource.TheVariants as at

pub has_route : (ask : Ask) → HasRoute ask
has_route (asks.Give tasks.Register) = (at.Register, Post, refl)
has_route (asks.Give tasks.Name) = (at.Members, Post, refl)
has_route (asks.Give tasks.Dismiss) = (at.Member, Delete, refl)
has_route (asks.Give tasks.SetMode) = (at.Mode, Post, refl)
has_route (asks.Give tasks.SetPhase) = (at.Phase, Post, refl)
has_route (asks.Give tasks.SetDeadline) = (at.Deadlines, Post, refl)
has_route (asks.Give tasks.Submit) = (at.Papers, Post, refl)
has_route (asks.Give tasks.Revise) = (at.Paper, Put, refl)
has_route (asks.Give tasks.Withdraw) = (at.Paper, Delete, refl)
has_route (asks.Give tasks.Upload) = (at.Content, Put, refl)
has_route (asks.Give tasks.SetConflict) = (at.Conflicts, Post, refl)
has_route (asks.Give tasks.Bid) = (at.Bid, Put, refl)
has_route (asks.Give tasks.Assign) = (at.Reviewers, Post, refl)
has_route (asks.Give tasks.Unassign) = (at.Reviewer, Delete, refl)
has_route (asks.Give tasks.Invite) = (at.Externals, Post, refl)
has_route (asks.Give tasks.Uninvite) = (at.External, Delete, refl)
has_route (asks.Give tasks.Review) = (at.Review, Put, refl)
has_route (asks.Give tasks.Comment) = (at.Comments, Post, refl)
has_route (asks.Give tasks.Respond) = (at.Response, Put, refl)
has_route (asks.Give tasks.Tag) = (at.Tag, Put, refl)
has_route (asks.Give tasks.Untag) = (at.Tag, Delete, refl)
has_route (asks.Give tasks.Decide) = (at.Decision, Put, refl)
has_route (asks.Tell questions.Me) = (at.Me, Get, refl)
has_route (asks.Tell questions.Accounts) = (at.Accounts, Get, refl)
has_route (asks.Tell questions.Phase) = (at.Phase, Get, refl)
has_route (asks.Tell questions.Deadlines) = (at.Deadlines, Get, refl)
has_route (asks.Tell questions.AcceptedPapers) = (at.Accepted, Get, refl)
has_route (asks.Tell questions.Page) = (at.Paper, Get, refl)
has_route (asks.Tell questions.Content) = (at.Content, Get, refl)
has_route (asks.Tell questions.Version) = (at.Version, Get, refl)
has_route (asks.Tell questions.Reviews) = (at.Reviews, Get, refl)
has_route (asks.Tell questions.Comments) = (at.Comments, Get, refl)
has_route (asks.Tell questions.Response) = (at.Response, Get, refl)
has_route (asks.Tell questions.Search) = (at.Search, Get, refl)
has_route (asks.Tell questions.Plan) = (at.Plan, Get, refl)
has_route (asks.Report kind) = (at.Report kind, Get, refl)
has_route asks.Bulk = (at.Bulk, Post, refl)
