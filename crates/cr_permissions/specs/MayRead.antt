-- SPDX-License-Identifier: Apache-2.0 OR MIT
-- A second statement of who may read what: for each query one sentence, as a committee says it, written from
-- docs/API.md and not from the lists of checks. `u` is the caller, and `p` the paper named.
use Rattle.std.specs.Prelude.{ℕ, Bool, true, false, not, ◌&&◌, ◌||◌, ◌==◌, ◌≡◌, ◌*◌, nat_le, List, length, Option}
use Rattle.std.specs.Prelude.{Some, None, is_some}
use Rattle.std.specs.List.{list_any}
use Rattle.std.specs.Option.{option_map_or}
use Rattle.cr_base.specs.declared.command.Query.{Query}
use Rattle.cr_base.specs.declared.command.Query.TheVariants as queries
use Rattle.cr_base.specs.declared.report.Report.{Report}
use Rattle.cr_base.specs.declared.report.Report.TheVariants as reports
use Rattle.cr_base.specs.declared.reply.Reply.{Reply}
use Rattle.cr_base.specs.declared.reply.Reply.TheVariants as replies
use Rattle.cr_base.specs.History.{History, Upload}
use Rattle.cr_base.specs.HistoryFacts.{uploads_of, had_response_of, response_of}
use Rattle.cr_base.specs.Lists.{last, is_nothing}
use Rattle.cr_base.specs.Plans.{planned_papers, planned_members, best_plan}
use Rattle.cr_base.specs.Sources.{Facts, Shown}
use Rattle.cr_policy.specs.Judge.{answer, needs_login}
use Rattle.cr_policy.specs.Legal.{Legal}
use Rattle.cr_policy.specs.Sentences.{before_bidding, before_discussion, is_over, from_reviewing, from_discussion}
use Rattle.cr_policy.specs.Sentences.{committee_at_work}
use Rattle.cr_policy.specs.Sentences.{on_committee, chairs, has_part, may_have_it, is_external_of, in_conflict}
use Rattle.cr_policy.specs.Sentences.{is_paper, is_in, is_public, wrote, is_eligible, reviews, of_some}
use Rattle.cr_policy.specs.View.{view}
use Rattle.cr_policy.specs.ViewFacts.{facts_in_view, shown_in_view}

-- ---- a paper

-- members, the paper's externals and its authors may have its page, and every user once it is accepted
abbrev pub may_see_page : ℕ → History → ℕ → Bool
may_see_page u H p = has_part u p H || wrote u p H || is_in p H

-- a paper's authors may read its content; its externals and members who are in no conflict with it may from the bidding
-- on
abbrev pub may_read_content : ℕ → History → ℕ → Bool
may_read_content u H p = wrote u p H || (may_have_it u p H && not (before_bidding H))

-- this version of the content is there and may be read: of its authors (the `Bool`) every version that was uploaded, of
-- others only the last; without a version named, the last is meant
abbrev pub has_version : Bool → Option ℕ → List Upload → Bool
has_version author None uploads = not (is_nothing uploads)
has_version true (Some version) uploads = list_any (λ (u : Upload). u.version == version) uploads
has_version false (Some version) uploads = option_map_or (λ (u : Upload). u.version == version) (last uploads) false

-- a paper's authors may read its reviews from the notification on, and before it once the response was opened. Members
-- in no conflict with it may from the discussion on, and in the reviewing and the response their own, if they review
-- it. Externals in no conflict with it may read their own from the reviewing on, if they review it.
abbrev pub may_read_reviews : ℕ → History → ℕ → Bool
may_read_reviews u H p =
    (wrote u p H && (is_over H || had_response_of H))
    || (is_eligible u p H && (from_discussion H || (reviews u p H && before_discussion H)))
    || (is_external_of u p H && not (in_conflict u p H) && reviews u p H && from_reviewing H)

-- members in no conflict with a paper may read the comments on it, from the discussion on
abbrev pub may_read_comments : ℕ → History → ℕ → Bool
may_read_comments u H p = is_eligible u p H && from_discussion H

-- if a paper's authors have responded, they may read the response, and members in no conflict with the paper may from
-- the discussion on
abbrev pub may_read_response : ℕ → History → ℕ → Bool
may_read_response u H p = is_some (response_of p H) && (wrote u p H || (is_eligible u p H && from_discussion H))

-- ---- reports

-- members may have the report on all papers from the bidding on, and those on scores and on decisions from the
-- discussion on; chairs may have the one on the load from the bidding on; a paper's authors may have the letter on it
-- from the notification on
abbrev pub may_report : ℕ → History → Report → Bool
may_report u H reports.Papers = on_committee u H && not (before_bidding H)
may_report u H reports.Scores = on_committee u H && from_discussion H
may_report u H reports.Load = chairs u H && not (before_bidding H)
may_report u H reports.Decisions = on_committee u H && from_discussion H
may_report u H (reports.Letter paper) = of_some paper (λ p. is_paper p H && wrote u p H && is_over H)

-- ---- plans

-- there is a plan of this many reviewers for each paper and at most this many papers for each member, it has at most
-- 512 places, and the papers planned times the members are at most 4,096
abbrev pub may_plan_by : Facts → Shown → ℕ → ℕ → Bool
may_plan_by facts shown per_paper load =
    let papers = length (planned_papers facts shown per_paper) in
    nat_le (per_paper * papers) 512 && nat_le (papers * length (planned_members facts)) 4096
    && is_some (best_plan facts shown per_paper load)

-- a chair may have a plan while the committee works, if `may_plan_by` holds of what the chair's view tells; every other
-- sentence here reads the history
abbrev pub may_plan : ℕ → History → ℕ → ℕ → Bool
may_plan u H per_paper load =
    chairs u H && committee_at_work H
    && may_plan_by (facts_in_view (Some u) (view (Some u) H)) (shown_in_view (Some u) (view (Some u) H)) per_paper load

-- ---- all of them

-- the caller may read this version of the paper's content, or the last: everyone once the paper is published, others as
-- `may_read_content` says, and only a version that is told to them
abbrev pub reads_content : Option ℕ → History → Option ℕ → ℕ → Bool
reads_content caller H version p =
    is_paper p H
    && (is_public p H || of_some caller (λ u. may_read_content u H p))
    && has_version (of_some caller (λ u. wrote u p H)) version (uploads_of p H)

-- the caller may ask the query. The accounts, the phase, the deadlines and the accepted papers are for everyone, and so
-- are the page and the content of a published paper; what a user's own page says, and a search, are for every user.
abbrev pub may_read : Option ℕ → History → Query → Bool
may_read caller H queries.Accounts = true
may_read caller H queries.Phase = true
may_read caller H queries.Deadlines = true
may_read caller H queries.AcceptedPapers = true
may_read caller H queries.Me = is_some caller
may_read caller H (queries.Search search only_count) = is_some caller
may_read caller H (queries.Page paper) =
    of_some paper (λ p. is_paper p H && (is_public p H || of_some caller (λ u. may_see_page u H p)))
may_read caller H (queries.Content paper) = of_some paper (reads_content caller H None)
may_read caller H (queries.Version paper version) = of_some paper (reads_content caller H (Some version))
may_read caller H (queries.Reviews paper) =
    of_some caller (λ u. of_some paper (λ p. is_paper p H && may_read_reviews u H p))
may_read caller H (queries.Comments paper) =
    of_some caller (λ u. of_some paper (λ p. is_paper p H && may_read_comments u H p))
may_read caller H (queries.Response paper) =
    of_some caller (λ u. of_some paper (λ p. is_paper p H && may_read_response u H p))
may_read caller H (queries.Report report) = of_some caller (λ u. may_report u H report)
may_read caller H (queries.Plan per_paper load) = of_some caller (λ u. may_plan u H per_paper load)

-- ---- the law

-- the reply is no refusal
abbrev pub is_told : Reply → Bool
is_told (replies.Refused rule) = false
is_told _ = true

-- the caller's query is answered: the caller is authenticated or the query requires no authentication, and no rule is
-- broken
abbrev pub is_answered_to : Option ℕ → History → Query → Bool
is_answered_to caller H query =
    (is_some caller || not (needs_login (view None H) query)) && is_told (answer caller (view caller H) query)

-- ReadingAsSaid: on a legal history a query of any caller is answered if and only if its sentence holds
abbrev pub ReadingAsSaid : Type 0
ReadingAsSaid =
    (caller : Option ℕ) (H : History) (query : Query) → Legal H
    → is_answered_to caller H query ≡ may_read caller H query
