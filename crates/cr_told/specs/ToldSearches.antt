-- SPDX-License-Identifier: Apache-2.0 OR MIT
-- Told of searches: a paper is found if and only if the view shows a title of it, and the terms hold of what the
-- answers tell the reader of it.
use Rattle.std.specs.Prelude.{ℕ, true, false, ◌≡◌, List, [], length, map, filter, Option, Some, None, is_some}
use Rattle.std.specs.Prelude.{unwrap_or}
use Rattle.cr_base.specs.declared.command.Query.TheVariants as queries
use Rattle.cr_base.specs.declared.found.FoundPaper.{FoundPaper}
use Rattle.cr_base.specs.declared.page.Page.{Page}
use Rattle.cr_base.specs.declared.reply.Reply.TheVariants as replies
use Rattle.cr_base.specs.declared.search.Node.{Node}
use Rattle.cr_base.specs.History.{History}
use Rattle.cr_base.specs.Searching.{PaperTold, is_found, found_paper}
use Rattle.cr_policy.specs.Judge.{answer}
use Rattle.cr_policy.specs.View.{view}
use Rattle.cr_policy.specs.ViewFacts.{papers_in_view}
use Rattle.cr_told.specs.ToldPages.{page_answered, is_shown_accepted}
use Rattle.cr_told.specs.ToldLists.{comments_answered, response_answered}
use Rattle.cr_told.specs.ToldReports.{is_own_or_in_conflict}
use Rattle.cr_told.specs.ToldReviews.{reviews_answered}

-- a page without a key, in place of one that isn't answered
abbrev pub no_page : ℕ → Page
no_page p = record {
  paper = p;
  abstract_ = None;
  authors = None;
  bid = None;
  bids = None;
  conflict = None;
  conflicts = None;
  decision = None;
  declared = None;
  label = None;
  reviewers = None;
  tags = None;
  title = None;
  versions = None;
  withdrawn = None;
}

-- what the answers tell of a paper: its page, its reviews and its comments, if they are answered; whether its response
-- is answered; and whether the view shows that it is accepted, and the reader in conflict with it
abbrev pub told_in_answers : Option ℕ → History → ℕ → PaperTold
told_in_answers u H p = record {
  page = unwrap_or (page_answered (answer u (view u H) (queries.Page (Some p)))) (no_page p);
  accepted = is_shown_accepted p (view u H);
  conflicted = is_own_or_in_conflict u p (view u H);
  reviews = unwrap_or (reviews_answered (answer u (view u H) (queries.Reviews (Some p)))) [];
  comments = unwrap_or (comments_answered (answer u (view u H) (queries.Comments (Some p)))) [];
  responded = is_some (response_answered (answer u (view u H) (queries.Response (Some p))));
}

-- the papers of which the search holds, as they are told, by number
abbrev pub papers_found : Option ℕ → History → List Node → List FoundPaper
papers_found u H search =
    map (λ (p : ℕ). found_paper p (told_in_answers u H p))
    (filter (λ (p : ℕ). is_found (told_in_answers u H p) search) (papers_in_view (view u H)))

-- the search is answered with these papers, or with how many they are
pub record SearchTold (u : Option ℕ) (H : History) (search : List Node) : Type 0 where
  pub found : answer u (view u H) (queries.Search search false) ≡ replies.Found (papers_found u H search)
  pub counted : answer u (view u H) (queries.Search search true) ≡ replies.Count (length (papers_found u H search))

-- SearchTold holds of every caller and every search on every history
abbrev pub SearchesTold : Type 0
SearchesTold = (u : Option ℕ) (H : History) (search : List Node) → SearchTold u H search
