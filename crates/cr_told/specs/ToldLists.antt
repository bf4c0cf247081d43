-- SPDX-License-Identifier: Apache-2.0 OR MIT
-- Told of lists: what a view shows of bids, reviewers, tags, reviews, comments, responses, contents and accepted
-- papers, and of its reader, is what the answers list. Who may know it is said by the bounds (ShownTo), and what it is
-- by the parts that sightings show.
use Rattle.std.specs.Prelude.{ℕ, Bool, false, not, ◌≡◌, ◌&&◌, ◌||◌, ◌==◌, List, [], ◌∷◌}
use Rattle.std.specs.Prelude.{length, map, filter, Option, Some, None, is_some, unwrap_or, if◌then◌else◌}
use Rattle.std.specs.Option.{option_and_then}
use Rattle.std.specs.List.{flat_map, list_any}
use Rattle.cr_base.specs.declared.accepted.AcceptedPaper.{AcceptedPaper}
use Rattle.cr_base.specs.declared.command.Query.TheVariants as queries
use Rattle.cr_base.specs.declared.comment.CommentLine.{CommentLine}
use Rattle.cr_base.specs.declared.entry.EntryKind.TheVariants as kinds
use Rattle.cr_base.specs.declared.me.Me.{Me}
use Rattle.cr_base.specs.declared.page.Bidder.{Bidder}
use Rattle.cr_base.specs.declared.page.Reviewer.{Reviewer}
use Rattle.cr_base.specs.declared.reply.AccountLine.{AccountLine}
use Rattle.cr_base.specs.declared.reply.Reply.{Reply}
use Rattle.cr_base.specs.declared.reply.Reply.TheVariants as replies
use Rattle.cr_base.specs.Lists.{listed, last, last_or, total, is_number}
use Rattle.cr_base.specs.History.{History}
use Rattle.cr_base.specs.HistoryFacts.{mode_of, role_of}
use Rattle.cr_base.specs.Sources.{name_in}
use Rattle.cr_history.specs.Invariants.{IsSubmitted}
use Rattle.cr_policy.specs.Judge.{answer}
use Rattle.cr_policy.specs.Legal.{Legal}
use Rattle.cr_policy.specs.Sighting.{Sighting}
use Rattle.cr_policy.specs.View.{View, view}
use Rattle.cr_policy.specs.ViewFacts.{only, is_kind, label_shown}
use Rattle.cr_policy.specs.ViewFacts.{accounts_in_view, papers_in_view, tags_in_view}
use Rattle.cr_bounds.specs.ShownTo.{is_on_committee, chairs_committee, hides_reviewers, is_eligible, oversees}
use Rattle.cr_bounds.specs.ShownTo.{administers, discusses, is_answered, where_known}
use Rattle.cr_told.specs.ToldPages.{shown_on, shown_by, writers_shown, is_shown_in_conflict, is_shown_invited}
use Rattle.cr_told.specs.ToldPages.{label_shown_of}
use Rattle.cr_told.specs.ToldPages.{bids_shown_of, is_shown_accepted, names_shown, is_clear, page_told}
use Rattle.cr_told.specs.ToldPublic.{role_shown}

-- the name of a user that may be shown, as the accounts shown have it
abbrev pub name_shown : Option ℕ → View → Option (List ℕ)
name_shown user V = option_and_then (name_in (accounts_in_view V)) user

-- ---- a paper's page: what the committee does

-- the bids whose makers are shown: of each account the last
abbrev pub bids_listed : ℕ → View → List Bidder
bids_listed p V =
    flat_map
    (λ (a : AccountLine). flat_map
    (λ (value : ℕ). map (λ (name : List ℕ). record { bid = value; user = name })
    (names_shown (a.user ∷ []) V))
    (listed (last (bids_shown_of a.user p V))))
    (accounts_in_view V)

-- a sighting shows that there is a form under the label
abbrev pub is_shown_done : ℕ → ℕ → View → Bool
is_shown_done p o V =
    last_or false (flat_map (λ (s : Sighting). only (is_number s.paper p && is_number s.ordinal o) (listed s.done)) V)

-- the user may know who reviews the paper by name: oversees it, discusses it unless the mode hides reviewers, or is an
-- author who is told its reviewers
abbrev pub knows_reviewers : Option ℕ → ℕ → History → Bool
knows_reviewers u p H = oversees u p H || (discusses u p H && not (hides_reviewers (mode_of H))) || is_answered u p H

-- a reviewer as a sighting shows them that assigns them under the label of this ordinal: whether there is a form, to
-- chairs in no conflict; whether they are the primary, the secondary or another, to members in no conflict; and their
-- name, to those who may know it
abbrev pub reviewer_shown : Option ℕ → ℕ → History → Sighting → ℕ → Reviewer
reviewer_shown u p H s o = record {
  done = where_known (administers u p H) (is_shown_done p o (view u H));
  kind = if is_clear u p H then s.review_kind else None;
  label = o;
  user = if knows_reviewers u p H then name_shown s.user (view u H) else None;
}

-- no sighting unassigns the reviewer who was assigned under the label of this ordinal
abbrev pub is_left : ℕ → View → ℕ → Bool
is_left p V o = not (list_any (λ gone. gone == o) (shown_by kinds.Unassigned p (λ (s : Sighting). s.ordinal) V))

-- the reviewers who are shown to be assigned, and not to be unassigned
abbrev pub reviewers_listed : Option ℕ → ℕ → History → List Reviewer
reviewers_listed u p H =
    flat_map
    (λ (s : Sighting). only (is_kind kinds.Assigned s && is_number s.paper p)
    (map (reviewer_shown u p H s) (filter (is_left p (view u H)) (listed s.ordinal))))
    (view u H)

-- what each of these keys of the page of a paper that is there holds, and when it is there.
-- Bids: for those who oversee the paper; of each user the last that is shown.
-- Reviewers: for those who oversee it, those who discuss it, and its authors if they are told its reviewers; those who
-- are shown to be assigned and not to be unassigned.
-- Tags: for those who are eligible for it; those that are on by the last sighting of each, the reader's own private
-- ones among them, and those for chairs if the reader is one.
pub record SeatsTold (u : Option ℕ) (p : ℕ) (H : History) : Type 0 where
  pub bids : page_told (λ page. page.bids) u p H ≡ where_known (oversees u p H) (bids_listed p (view u H))
  pub reviewers : page_told (λ page. page.reviewers) u p H
      ≡ where_known (oversees u p H || discusses u p H || is_answered u p H) (reviewers_listed u p H)
  pub tags : page_told (λ page. page.tags) u p H
      ≡ where_known (is_eligible u p H) (tags_in_view u (chairs_committee (role_of u H)) p (view u H))

-- SeatsTold holds of every user, every paper that is there, and every legal history
abbrev pub PageListsTold : Type 0
PageListsTold = (u : Option ℕ) (p : ℕ) (H : History) → Legal H → IsSubmitted H p → SeatsTold u p H

-- ---- contents

-- the content that a reply tells; `None` if it tells none
abbrev pub content_answered : Reply → Option (List ℕ)
content_answered (replies.Content content) = Some content
content_answered _ = None

-- the content of each upload of this version that is shown
abbrev pub contents_of : ℕ → ℕ → View → List (List ℕ)
contents_of p version V =
    flat_map (λ (s : Sighting). only (is_kind kinds.Uploaded s && (is_number s.paper p && is_number s.version version))
    (listed s.content)) V

-- the first of a list
abbrev pub first_of : {A : Type 0} → List A → Option A
first_of [] = None
first_of (x ∷ xs) = Some x

-- a paper's content is answered if and only if the view shows one: the last that it shows, and of each version the one
-- that it shows
pub record ContentTold (u : Option ℕ) (p : ℕ) (H : History) : Type 0 where
  pub newest : content_answered (answer u (view u H) (queries.Content (Some p)))
      ≡ last (shown_by kinds.Uploaded p (λ (s : Sighting). s.content) (view u H))
  pub version : (version : ℕ)
      → content_answered (answer u (view u H) (queries.Version (Some p) version))
      ≡ first_of (contents_of p version (view u H))

-- ContentTold holds of every user, every paper that is there, and every legal history
abbrev pub ContentsTold : Type 0
ContentsTold = (u : Option ℕ) (p : ℕ) (H : History) → Legal H → IsSubmitted H p → ContentTold u p H

-- ---- comments

-- the comments that a reply tells; `None` if it tells none
abbrev pub comments_answered : Reply → Option (List CommentLine)
comments_answered (replies.Comments lines) = Some lines
comments_answered _ = None

-- a comment as a sighting shows it: with its writer's name if the sighting shows the writer, else with the writer's
-- label, if it shows one
abbrev pub comment_shown_by : Sighting → View → List CommentLine
comment_shown_by s V =
    map (λ (n : ℕ). record {
      label = if is_some s.by then None else label_shown s.ordinal;
      n = n;
      text = unwrap_or s.text [];
      user = name_shown s.by V;
    })
    (listed s.n)

-- the comments on the paper that the view shows, in order
abbrev pub comments_listed : ℕ → View → List CommentLine
comments_listed p V =
    flat_map (λ (s : Sighting). only (is_kind kinds.Commented s && is_number s.paper p) (comment_shown_by s V)) V

-- the comments on a paper are answered to those who discuss it, and they are all that the view shows
abbrev pub CommentsTold : Type 0
CommentsTold =
    (u : Option ℕ) (p : ℕ) (H : History) → Legal H → IsSubmitted H p
    → comments_answered (answer u (view u H) (queries.Comments (Some p)))
    ≡ where_known (discusses u p H) (comments_listed p (view u H))

-- ---- responses

-- the response that a reply tells; `None` if it tells none
abbrev pub response_answered : Reply → Option (List ℕ)
response_answered (replies.Response text) = Some text
response_answered _ = None

-- what a paper's authors responded is answered if and only if the view shows it
abbrev pub ResponsesTold : Type 0
ResponsesTold =
    (u : Option ℕ) (p : ℕ) (H : History) → Legal H → IsSubmitted H p
    → response_answered (answer u (view u H) (queries.Response (Some p)))
    ≡ last (shown_by kinds.Responded p (λ (s : Sighting). s.text) (view u H))

-- ---- accepted papers

-- the accepted papers that a reply tells; `None` if it tells none
abbrev pub accepted_answered : Reply → Option (List AcceptedPaper)
accepted_answered (replies.AcceptedPapers papers) = Some papers
accepted_answered _ = None

-- the accepted papers are those that the view shows to be accepted, with all the authors that it shows and the last
-- title
abbrev pub AcceptedTold : Type 0
AcceptedTold =
    (u : Option ℕ) (H : History)
    → accepted_answered (answer u (view u H) queries.AcceptedPapers)
    ≡ Some
    (map (λ (p : ℕ). record {
      authors = names_shown (writers_shown p (view u H)) (view u H);
      paper = p;
      title = unwrap_or (last (shown_on p (λ (s : Sighting). s.title) (view u H))) [];
    })
    (filter (λ (p : ℕ). is_shown_accepted p (view u H)) (papers_in_view (view u H))))

-- ---- the reader's own page

-- what a reply tells users of themselves; `None` if it tells nothing of that
abbrev pub me_answered : Reply → Option Me
me_answered (replies.Me me) = Some me
me_answered _ = None

-- what the reader's own sightings show in this part, in order
abbrev pub own_shown : {A : Type 0} → (Sighting → Option A) → View → List A
own_shown part V = flat_map (λ (s : Sighting). only s.mine (listed (part s))) V

-- what users are told of themselves: their name; the papers of which the view shows them as an author, the others with
-- which it shows them in conflict, and those that it shows them to review; those to which it shows them to be invited,
-- unless they are on the committee; how many comments of their own it shows, and how many bytes of contents; and the
-- last role that it shows them to be given
abbrev pub MeTold : Type 0
MeTold =
    (v : ℕ) (H : History)
    → me_answered (answer (Some v) (view (Some v) H) queries.Me)
    ≡ Some (record {
      assigned =
          filter (λ (p : ℕ). is_some (label_shown_of (Some v) p (view (Some v) H)))
          (papers_in_view (view (Some v) H));
      bytes = total (map length (own_shown (λ (s : Sighting). s.content) (view (Some v) H)));
      comments = length (own_shown (λ (s : Sighting). s.n) (view (Some v) H));
      conflicts =
          filter
          (λ (p : ℕ). is_shown_in_conflict (Some v) p (view (Some v) H)
          && not (list_any (is_number (Some v)) (writers_shown p (view (Some v) H))))
          (papers_in_view (view (Some v) H));
      invited =
          filter
          (λ (p : ℕ). not (is_on_committee (role_shown (Some v) (view (Some v) H)))
          && is_shown_invited (Some v) p (view (Some v) H))
          (papers_in_view (view (Some v) H));
      name = unwrap_or (name_shown (Some v) (view (Some v) H)) [];
      papers = filter (λ (p : ℕ). list_any (is_number (Some v)) (writers_shown p (view (Some v) H)))
          (papers_in_view (view (Some v) H));
      role = role_shown (Some v) (view (Some v) H);
      user = v;
    })
