-- SPDX-License-Identifier: Apache-2.0 OR MIT
-- What a method at a path asks for, and the methods of a path (which the field Allow names: RFC 9110, section
-- 10.2.1).
use Rattle.std.specs.Prelude.{◌≡◌, ℕ, List, [], ◌∷◌, ◌++◌, Option, Some, None, codes, is_some, filter, map}
use Rattle.cr_routes.specs.Methods.{method_name, methods}
use Rattle.cr_routes.specs.declared.resource.Resource.{Resource}
use Rattle.cr_routes.specs.declared.resource.Resource.TheVariants as at
use Rattle.cr_routes.specs.declared.method.Method.{Method}
use Rattle.cr_routes.specs.declared.method.Method.TheVariants.{Get, Head, Post, Put, Delete}
use Rattle.cr_base.specs.declared.ask.Ask.{Ask}
use Rattle.cr_base.specs.declared.ask.Ask.TheVariants as asks
use Rattle.cr_base.specs.declared.ask.Question.TheVariants as questions
use Rattle.cr_base.specs.declared.ask.Task.TheVariants as tasks

-- what a method at a path asks for, a line for each route; HEAD has none of its own
abbrev pub route_at : Resource → Method → Option Ask
route_at at.Register Post = Some (asks.Give tasks.Register)
route_at at.Accepted Get = Some (asks.Tell questions.AcceptedPapers)
route_at at.Accounts Get = Some (asks.Tell questions.Accounts)
route_at at.Deadlines Get = Some (asks.Tell questions.Deadlines)
route_at at.Deadlines Post = Some (asks.Give tasks.SetDeadline)
route_at at.Members Post = Some (asks.Give tasks.Name)
route_at at.Member Delete = Some (asks.Give tasks.Dismiss)
route_at at.Mode Post = Some (asks.Give tasks.SetMode)
route_at at.Phase Get = Some (asks.Tell questions.Phase)
route_at at.Phase Post = Some (asks.Give tasks.SetPhase)
route_at at.Papers Post = Some (asks.Give tasks.Submit)
route_at at.Paper Get = Some (asks.Tell questions.Page)
route_at at.Paper Put = Some (asks.Give tasks.Revise)
route_at at.Paper Delete = Some (asks.Give tasks.Withdraw)
route_at at.Content Get = Some (asks.Tell questions.Content)
route_at at.Content Put = Some (asks.Give tasks.Upload)
route_at at.Version Get = Some (asks.Tell questions.Version)
route_at at.Conflicts Post = Some (asks.Give tasks.SetConflict)
route_at at.Bid Put = Some (asks.Give tasks.Bid)
route_at at.Reviewers Post = Some (asks.Give tasks.Assign)
route_at at.Reviewer Delete = Some (asks.Give tasks.Unassign)
route_at at.Externals Post = Some (asks.Give tasks.Invite)
route_at at.External Delete = Some (asks.Give tasks.Uninvite)
route_at at.Review Put = Some (asks.Give tasks.Review)
route_at at.Reviews Get = Some (asks.Tell questions.Reviews)
route_at at.Response Get = Some (asks.Tell questions.Response)
route_at at.Response Put = Some (asks.Give tasks.Respond)
route_at at.Comments Get = Some (asks.Tell questions.Comments)
route_at at.Comments Post = Some (asks.Give tasks.Comment)
route_at at.Tag Put = Some (asks.Give tasks.Tag)
route_at at.Tag Delete = Some (asks.Give tasks.Untag)
route_at at.Decision Put = Some (asks.Give tasks.Decide)
route_at at.Me Get = Some (asks.Tell questions.Me)
route_at at.Search Get = Some (asks.Tell questions.Search)
route_at at.Bulk Post = Some asks.Bulk
route_at (at.Report kind) Get = Some (asks.Report kind)
route_at at.Plan Get = Some (asks.Tell questions.Plan)
route_at _ _ = None

-- the method, GET for HEAD, which asks for what GET does
abbrev pub as_get : Method → Method
as_get Head = Get
as_get method = method

-- what a method at a path asks for; `None` if the path doesn't have it
abbrev pub ask_at : Resource → Method → Option Ask
ask_at resource method = route_at resource (as_get method)

-- a method at a path asks for this
abbrev pub HasRoute : Ask → Type 0
HasRoute ask = (resource : Resource) × (method : Method) × (ask_at resource method ≡ Some ask)

-- texts with a comma and a space between them
abbrev pub joined_by_commas : List (List ℕ) → List ℕ
joined_by_commas [] = []
joined_by_commas (t ∷ []) = t
joined_by_commas (t ∷ u ∷ us) = t ++ codes ", " ++ joined_by_commas (u ∷ us)

-- the names of the methods that ask for something at a path, in alphabetical order
abbrev pub allow_text : Resource → List ℕ
allow_text resource = joined_by_commas (map method_name (filter (λ m. is_some (ask_at resource m)) methods))
