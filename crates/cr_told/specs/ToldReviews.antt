-- SPDX-License-Identifier: Apache-2.0 OR MIT
-- Told of reviews: what a view shows of the forms on a paper is what the answer lists, in a committee's terms.
use Rattle.std.specs.Prelude.{ℕ, Bool, true, false, ◌≡◌, ◌&&◌, ◌||◌, List, []}
use Rattle.std.specs.Prelude.{◌++◌, map, Option, Some, None, unwrap_or, if◌then◌else◌}
use Rattle.std.specs.List.{flat_map}
use Rattle.cr_base.specs.declared.command.Query.TheVariants as queries
use Rattle.cr_base.specs.declared.entry.EntryKind.TheVariants as kinds
use Rattle.cr_base.specs.declared.reply.Reply.{Reply}
use Rattle.cr_base.specs.declared.reply.Reply.TheVariants as replies
use Rattle.cr_base.specs.declared.review.ReviewLine.{ReviewLine}
use Rattle.cr_base.specs.declared.words.Phase.{Phase}
use Rattle.cr_base.specs.declared.words.Phase.TheVariants.{Reviewing, Response}
use Rattle.cr_base.specs.Labels.{by_labels, most_labels}
use Rattle.cr_base.specs.Lists.{listed, last, is_number, until, since}
use Rattle.cr_base.specs.History.{History}
use Rattle.cr_base.specs.HistoryFacts.{phase_of, role_of, is_author, is_reviewer, assigned_under, had_response_of}
use Rattle.cr_history.specs.Invariants.{IsSubmitted}
use Rattle.cr_policy.specs.Judge.{answer}
use Rattle.cr_policy.specs.Legal.{Legal}
use Rattle.cr_policy.specs.Sighting.{Sighting}
use Rattle.cr_policy.specs.View.{View, view}
use Rattle.cr_policy.specs.ViewFacts.{only, is_kind, discussion_seen, seats_in_view}
use Rattle.cr_bounds.specs.ShownTo.{is_on_committee, is_past_reviewing, is_eligible, reads_visiting, discusses}
use Rattle.cr_bounds.specs.ShownTo.{is_notified, where_known}
use Rattle.cr_told.specs.ToldPages.{label_shown_of}
use Rattle.cr_told.specs.ToldLists.{name_shown, knows_reviewers}

-- the reviews that a reply tells; `None` if it tells none
abbrev pub reviews_answered : Reply → Option (List ReviewLine)
reviews_answered (replies.Reviews lines) = Some lines
reviews_answered _ = None

-- a form under the label of this ordinal, as a sighting shows it. The first `Bool` says whether the reviewer is named
-- who is shown to have been assigned under the label; the second whether the form is whole, with its text to the
-- committee and its number.
abbrev pub review_shown : Bool → Bool → ℕ → View → ℕ → Sighting → List ReviewLine
review_shown named entire p V o s =
    map (λ (score : ℕ). record {
      confidence = unwrap_or s.confidence 0;
      label = o;
      score = score;
      to_authors = unwrap_or s.to_authors [];
      to_pc = if entire then s.to_pc else None;
      user = if named then name_shown (assigned_under o (seats_in_view p V)) V else None;
      version = if entire then s.version else None;
    })
    (listed s.score)

-- the forms under the label of this ordinal that the last of these views shows, each as `review_shown` says
abbrev pub forms_listed : Bool → Bool → ℕ → View → ℕ → View → List ReviewLine
forms_listed named entire p V o seen =
    flat_map (λ (s : Sighting). only (is_kind kinds.Reviewed s && (is_number s.paper p && is_number s.ordinal o))
    (review_shown named entire p V o s)) seen

-- the reader's own forms on the paper, in order
abbrev pub own_forms_listed : Option ℕ → ℕ → View → List ReviewLine
own_forms_listed u p V =
    flat_map
    (λ (s : Sighting). only (is_kind kinds.Reviewed s && (is_number s.paper p && s.mine))
    (review_shown false true p V (unwrap_or (label_shown_of u p V) 0) s))
    V

-- the reviews that are listed. For authors: of each label the last form that is shown, which before the notification is
-- the last that was written before the response, without the text to the committee. For members from the discussion on:
-- of each label the last form before the discussion, and all later ones. Else the reader's own.
abbrev pub reviews_listed : Option ℕ → ℕ → History → List ReviewLine
reviews_listed u p H =
    let V : View = view u H in
    if is_author u p H
    then by_labels (λ (o : ℕ). listed (last (forms_listed (knows_reviewers u p H) false p V o V))) most_labels
    else (if is_on_committee (role_of u H) && is_past_reviewing (phase_of H)
    then by_labels
    (λ (o : ℕ).
    listed (last (forms_listed (knows_reviewers u p H) true p V o (until discussion_seen V)))
    ++ forms_listed (knows_reviewers u p H) true p V o (since discussion_seen V))
    most_labels
    else own_forms_listed u p V)

-- the phase is the reviewing, or the response, in which reviewers wait
abbrev pub is_reviewing_now : Phase → Bool
is_reviewing_now Reviewing = true
is_reviewing_now Response = true
is_reviewing_now _ = false

-- the user is an author of the paper, and the response was opened
abbrev pub was_asked_to_respond : Option ℕ → ℕ → History → Bool
was_asked_to_respond u p H = is_author u p H && had_response_of H

-- the user reviews the paper and is eligible for it, and the phase is before the discussion
abbrev pub reviews_now : Option ℕ → ℕ → History → Bool
reviews_now u p H = is_eligible u p H && is_reviewer u p H && is_reviewing_now (phase_of H)

-- the user reviews the paper as an external in no conflict with it, and the phase is the reviewing or later
abbrev pub reviews_visiting : Option ℕ → ℕ → History → Bool
reviews_visiting u p H =
    reads_visiting u p H && is_reviewer u p H && (is_reviewing_now (phase_of H) || is_past_reviewing (phase_of H))

-- the reviews of a paper are answered to its authors from the notification on, and before it once the response was
-- opened; to those who discuss it; to its reviewers before the discussion; and to those who review it as externals,
-- from the reviewing on
abbrev pub ReviewsTold : Type 0
ReviewsTold =
    (u : Option ℕ) (p : ℕ) (H : History) → Legal H → IsSubmitted H p
    → reviews_answered (answer u (view u H) (queries.Reviews (Some p)))
    ≡ where_known
    (is_notified u p H || was_asked_to_respond u p H || discusses u p H || reviews_now u p H || reviews_visiting u p H)
    (reviews_listed u p H)
