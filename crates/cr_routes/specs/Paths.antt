-- SPDX-License-Identifier: Apache-2.0 OR MIT
-- The paths of the server, which are its own (docs/API.md, section 5).
use Rattle.std.specs.Prelude.{ℕ, List, [], ◌∷◌, codes}
use Rattle.cr_routes.specs.declared.resource.Resource.{Resource}
use Rattle.cr_routes.specs.declared.resource.Resource.TheVariants.{Register, Accepted, Accounts, Deadlines}
use Rattle.cr_routes.specs.declared.resource.Resource.TheVariants.{Members, Member, Mode, Phase, Me, Search}
use Rattle.cr_routes.specs.declared.resource.Resource.TheVariants.{Papers, Paper, Content, Version}
use Rattle.cr_routes.specs.declared.resource.Resource.TheVariants.{Conflicts, Bid, Externals, External}
use Rattle.cr_routes.specs.declared.resource.Resource.TheVariants.{Reviewers, Reviewer, Response}
use Rattle.cr_routes.specs.declared.resource.Resource.TheVariants.{Review, Reviews, Comments, Tag, Decision, Bulk}
use Rattle.cr_routes.specs.declared.resource.Resource.TheVariants.{Report, Plan}
use Rattle.cr_base.specs.declared.report.ReportKind.TheVariants as kinds

-- each path, with its resource; a parameter is in braces. They are in the order in which the router keeps them: by
-- their bytes, a path after those that it is the start of.
abbrev pub paths : List (List ℕ × Resource)
paths =
    (codes "/accepted", Accepted) ∷
    (codes "/accounts", Accounts) ∷
    (codes "/assign", Bulk) ∷
    (codes "/deadlines", Deadlines) ∷
    (codes "/members/{u}", Member) ∷
    (codes "/members", Members) ∷
    (codes "/me", Me) ∷
    (codes "/mode", Mode) ∷
    (codes "/papers/{p}/bid", Bid) ∷
    (codes "/papers/{p}/comments", Comments) ∷
    (codes "/papers/{p}/conflicts", Conflicts) ∷
    (codes "/papers/{p}/content/{v}", Version) ∷
    (codes "/papers/{p}/content", Content) ∷
    (codes "/papers/{p}/decision", Decision) ∷
    (codes "/papers/{p}/externals/{u}", External) ∷
    (codes "/papers/{p}/externals", Externals) ∷
    (codes "/papers/{p}/response", Response) ∷
    (codes "/papers/{p}/reviewers/{u}", Reviewer) ∷
    (codes "/papers/{p}/reviewers", Reviewers) ∷
    (codes "/papers/{p}/reviews", Reviews) ∷
    (codes "/papers/{p}/review", Review) ∷
    (codes "/papers/{p}/tags/{t}", Tag) ∷
    (codes "/papers/{p}", Paper) ∷
    (codes "/papers", Papers) ∷
    (codes "/phase", Phase) ∷
    (codes "/plan", Plan) ∷
    (codes "/register", Register) ∷
    (codes "/reports/decisions", Report kinds.Decisions) ∷
    (codes "/reports/letter/{p}", Report kinds.Letter) ∷
    (codes "/reports/load", Report kinds.Load) ∷
    (codes "/reports/papers", Report kinds.Papers) ∷
    (codes "/reports/scores", Report kinds.Scores) ∷
    (codes "/search", Search) ∷ []
