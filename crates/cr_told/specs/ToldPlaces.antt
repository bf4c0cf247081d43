-- SPDX-License-Identifier: Apache-2.0 OR MIT
-- Told of all: each sighting on a paper has its place: a key of the paper's page or a list that is answered. There are
-- two exceptions. The reader's own entry may be on a paper for which the reader is no longer eligible (of a form: nor
-- reads it as an external; of what a chair does: that the reader doesn't oversee). And who is invited is told only to
-- the user invited.
use Rattle.std.specs.Prelude.{ℕ, Bool, true, not, ◌&&◌, ◌||◌, Option, Some, is_some, All, IsTrue}
use Rattle.cr_base.specs.declared.command.Query.TheVariants as queries
use Rattle.cr_base.specs.declared.entry.EntryKind.{EntryKind}
use Rattle.cr_base.specs.declared.entry.EntryKind.TheVariants as kinds
use Rattle.cr_base.specs.declared.page.Page.{Page}
use Rattle.cr_base.specs.Lists.{is_number}
use Rattle.cr_base.specs.History.{History}
use Rattle.cr_policy.specs.Judge.{answer}
use Rattle.cr_policy.specs.Legal.{Legal}
use Rattle.cr_policy.specs.Sighting.{Sighting}
use Rattle.cr_policy.specs.View.{view}
use Rattle.cr_policy.specs.ViewFacts.{is_user}
use Rattle.cr_bounds.specs.ShownTo.{is_eligible, reads_to_judge, oversees, discusses}
use Rattle.cr_told.specs.ToldPages.{page_told}
use Rattle.cr_told.specs.ToldLists.{comments_answered, response_answered}
use Rattle.cr_told.specs.ToldReviews.{reviews_answered}

-- the key is on the paper's page, as the user is answered it
abbrev pub has_key : {A : Type 0} → (Page → Option A) → Option ℕ → ℕ → History → Bool
has_key key u p H = is_some (page_told key u p H)

-- the user is answered the reviews of the paper
abbrev pub has_reviews : Option ℕ → ℕ → History → Bool
has_reviews u p H = is_some (reviews_answered (answer u (view u H) (queries.Reviews (Some p))))

-- the user is answered the comments on the paper
abbrev pub has_comments : Option ℕ → ℕ → History → Bool
has_comments u p H = is_some (comments_answered (answer u (view u H) (queries.Comments (Some p))))

-- the user is answered the response to the paper's reviews
abbrev pub has_response : Option ℕ → ℕ → History → Bool
has_response u p H = is_some (response_answered (answer u (view u H) (queries.Response (Some p))))

-- the sighting is the reader's own, on a paper for which the reader isn't eligible, such as one with which they came
-- into conflict since
abbrev pub is_left_behind : Option ℕ → ℕ → History → Sighting → Bool
is_left_behind u p H s = s.mine && not (is_eligible u p H)

-- the sighting is another's conflict that the reader turned on or off as a chair, on a paper that the reader doesn't
-- oversee: they came into conflict with it since, or were dismissed
abbrev pub is_conflict_behind : Option ℕ → ℕ → History → Sighting → Bool
is_conflict_behind u p H s = s.mine && not (is_user u s.user) && not (oversees u p H)

-- the sighting is a seat that the reader gave or took as a chair, or the reader's own, on a paper of which the reader
-- isn't told the reviewers
abbrev pub is_seat_behind : Option ℕ → ℕ → History → Sighting → Bool
is_seat_behind u p H s = (s.mine || is_user u s.user) && not (oversees u p H || discusses u p H)

-- the sighting is the reader's own form, on a paper that the reader may no longer read to judge it
abbrev pub is_form_behind : Option ℕ → ℕ → History → Sighting → Bool
is_form_behind u p H s = s.mine && not (reads_to_judge u p H)

-- a sighting of this kind on the paper has its place. Those of a submission, a co-author, a revision and an upload are
-- the title, the abstract, the authors and the versions, which are on the page if and only if the view shows them.
abbrev pub is_placed : Option ℕ → ℕ → History → EntryKind → Sighting → Bool
is_placed u p H kinds.Withdrawn s = has_key (λ page. page.withdrawn) u p H
is_placed u p H kinds.Conflict s =
    is_user u s.user || has_key (λ page. page.declared) u p H || has_key (λ page. page.conflicts) u p H
    || is_conflict_behind u p H s
is_placed u p H kinds.Bid s =
    has_key (λ page. page.bids) u p H || (s.mine && has_key (λ page. page.bid) u p H) || is_left_behind u p H s
is_placed u p H kinds.Assigned s =
    is_user u s.user || has_key (λ page. page.reviewers) u p H || is_seat_behind u p H s
is_placed u p H kinds.Unassigned s =
    is_user u s.user || has_key (λ page. page.reviewers) u p H || is_seat_behind u p H s
is_placed u p H kinds.Reviewed s =
    has_reviews u p H || has_key (λ page. page.reviewers) u p H || is_form_behind u p H s
is_placed u p H kinds.Commented s = has_comments u p H || is_left_behind u p H s
is_placed u p H kinds.Responded s = has_response u p H
is_placed u p H kinds.Tagged s = has_key (λ page. page.tags) u p H || is_left_behind u p H s
is_placed u p H kinds.Decided s = has_key (λ page. page.decision) u p H || is_left_behind u p H s
is_placed u p H _ s = true

-- PlacesTold: each sighting on a paper has its place, in every view of a legal history
abbrev pub PlacesTold : Type 0
PlacesTold = (u : Option ℕ) (p : ℕ) (H : History) → Legal H
    → All (λ (s : Sighting). IsTrue (is_number s.paper p) → IsTrue (is_placed u p H s.kind s)) (view u H)
