-- SPDX-License-Identifier: Apache-2.0 OR MIT
-- Which callers may ask which queries here.
use Rattle.std.specs.Prelude.{ℕ, Option, IsSome}
use Rattle.cr_base.specs.declared.command.Query.{Query}
use Rattle.cr_base.specs.declared.command.Query.TheVariants as queries

-- a query about the caller has one, and the query is no search, no report and no plan, which aren't answered here. Of
-- what is told of a paper the tables answer any caller: that it requires authentication is decided before.
abbrev pub HasAsker : Option ℕ → Query → Type 0
HasAsker caller queries.Me = IsSome caller
HasAsker caller queries.Accounts = Unit {0}
HasAsker caller queries.Phase = Unit {0}
HasAsker caller queries.Deadlines = Unit {0}
HasAsker caller queries.AcceptedPapers = Unit {0}
HasAsker caller (queries.Page paper) = Unit {0}
HasAsker caller (queries.Content paper) = Unit {0}
HasAsker caller (queries.Version paper version) = Unit {0}
HasAsker caller (queries.Reviews paper) = Unit {0}
HasAsker caller (queries.Comments paper) = Unit {0}
HasAsker caller (queries.Response paper) = Unit {0}
HasAsker caller (queries.Search search only_count) = ⊥
HasAsker caller (queries.Report report) = ⊥
HasAsker caller (queries.Plan per_paper load) = ⊥
