-- SPDX-License-Identifier: Apache-2.0 OR MIT
-- ViewFacts and Quotas: what a view says of the conference, of its papers and of its reader, by folds over the view. A
-- definition ending in `_seen` gives what one sighting tells of a fact, at most one value.
use Rattle.std.specs.Prelude.{ℕ, Bool, true, false, List, [], ◌∷◌, Option, Some, None, is_some}
use Rattle.std.specs.Prelude.{length, map, filter, not, ◌==◌, ◌&&◌, ◌||◌, ◌++◌, if◌then◌else◌}
use Rattle.std.specs.List.{flat_map, list_any}
use Rattle.std.specs.Str.{bytes_eq}
use Rattle.cr_base.specs.declared.entry.EntryKind.{EntryKind}
use Rattle.cr_base.specs.declared.entry.EntryKind.TheVariants as kinds
use Rattle.cr_base.specs.declared.words.Decision.{Decision}
use Rattle.cr_base.specs.declared.words.Phase.{Phase}
use Rattle.cr_base.specs.declared.words.Phase.TheVariants.{Setup, Bidding, Response}
use Rattle.cr_base.specs.declared.words.Mode.{Mode}
use Rattle.cr_base.specs.declared.words.Mode.TheVariants.{Blind}
use Rattle.cr_base.specs.declared.words.Role.{Role}
use Rattle.cr_base.specs.declared.words.Role.TheVariants.{Account}
use Rattle.cr_base.specs.declared.reply.AccountLine.{AccountLine}
use Rattle.cr_base.specs.declared.standing.Standing.{Standing}
use Rattle.cr_base.specs.Lists.{listed, last, last_or, total, is_number, at_some, until, since}
use Rattle.cr_base.specs.Phases.{committee_reads_from, is_phase}
use Rattle.cr_base.specs.Rows.{kind_number}
use Rattle.cr_base.specs.History.{Registration, Upload, BidTold, SeatTold, FormTold, CommentTold, TagTold}
use Rattle.cr_base.specs.History.{deadline_given}
use Rattle.cr_base.specs.HistoryFacts.{seats_left, assigned_under, tags_left}
use Rattle.cr_base.specs.Sources.{Facts, Shown}
use Rattle.cr_base.specs.TagTexts.{is_private}
use Rattle.cr_base.specs.Tags.{tags_for}
use Rattle.cr_base.specs.Words.{is_member}
use Rattle.cr_policy.specs.Sighting.{Sighting}
use Rattle.cr_policy.specs.View.{View}

-- the values, if the test holds; else none
abbrev pub only : {A : Type 0} → Bool → List A → List A
only test [] = []
only test (x ∷ xs) = if test then x ∷ xs else []

-- the user that is shown is this one
abbrev pub is_user : Option ℕ → Option ℕ → Bool
is_user u None = false
is_user u (Some v) = is_number u v

-- the text that is shown is this one
abbrev pub is_text : List ℕ → Option (List ℕ) → Bool
is_text text None = false
is_text text (Some shown) = bytes_eq shown text

-- the phase that is shown is this one
abbrev pub shows_phase : Phase → Option Phase → Bool
shows_phase first None = false
shows_phase first (Some phase) = is_phase phase first

-- the deadline that is shown, of the phase that is shown
abbrev pub deadline_shown : Phase → Option Phase → Option (Option ℕ) → List (Option ℕ)
deadline_shown phase (Some set) (Some until) = deadline_given phase set until
deadline_shown phase _ _ = []

-- the account whose user and name are shown
abbrev pub registration_shown : Option ℕ → Option (List ℕ) → List Registration
registration_shown (Some user) (Some name) = record { user = user; name = name } ∷ []
registration_shown _ _ = []

-- the text that is shown, of the kinds of entry that give a paper its texts
abbrev pub text_by_kind : EntryKind → Option (List ℕ) → List (List ℕ)
text_by_kind kinds.Submitted text = listed text
text_by_kind kinds.Revised text = listed text
text_by_kind _ text = []

-- the author who is shown, of the kinds of entry that give a paper its authors: the maker of a submission, or a user
abbrev pub author_by_kind : EntryKind → Option ℕ → Option ℕ → List ℕ
author_by_kind kinds.Submitted by user = listed by
author_by_kind kinds.Coauthor by user = listed user
author_by_kind _ by user = []

-- the upload whose number and content are shown
abbrev pub upload_shown : Option ℕ → Option (List ℕ) → List Upload
upload_shown (Some version) (Some content) = record { version = version; content = content } ∷ []
upload_shown _ _ = []

-- what a sighting of this kind says of a user's seat: the ordinal of an assignment, or `None` for the end of one
abbrev pub ordinal_by_kind : EntryKind → Option ℕ → List (Option ℕ)
ordinal_by_kind kinds.Assigned ordinal = map (λ (o : ℕ). Some o) (listed ordinal)
ordinal_by_kind kinds.Unassigned ordinal = map (λ (o : ℕ). None) (listed ordinal)
ordinal_by_kind _ ordinal = []

-- the form whose grades and whose text to the authors are shown
abbrev pub form_shown : Option ℕ → Option ℕ → Option ℕ → Option (List ℕ) → Option (List ℕ) → List FormTold
form_shown version (Some score) (Some confidence) (Some to_authors) to_pc =
    record { version = version; score = score; confidence = confidence; to_authors = to_authors; to_pc = to_pc } ∷ []
form_shown version _ _ _ to_pc = []

-- the ordinal that is shown, where it is a label's
abbrev pub label_shown : Option ℕ → Option ℕ
label_shown None = None
label_shown (Some o) = if o == 0 then None else Some o

-- the comment whose number and text are shown
abbrev pub comment_shown : Option ℕ → Option ℕ → Option ℕ → Option (List ℕ) → List CommentTold
comment_shown (Some n) writer ordinal (Some text) =
    record { n = n; writer = writer; ordinal = label_shown ordinal; text = text } ∷ []
comment_shown _ writer ordinal _ = []

-- the tag that is shown, on or off; a private one where it is the reader's own
abbrev pub tag_shown : Option ℕ → Bool → Option (List ℕ) → Option Bool → List TagTold
tag_shown u mine (Some tag) (Some on) =
    if is_private tag then only mine (record { tag = record { tag = tag; owner = u }; on = on } ∷ [])
    else record { tag = record { tag = tag; owner = None }; on = on } ∷ []
tag_shown u mine _ _ = []

-- what a sighting of this kind says of a user's role: the one to which it appoints them, or an account's if it
-- dismisses them
abbrev pub role_by_kind : EntryKind → Option Role → List Role
role_by_kind kinds.Named role = listed role
role_by_kind kinds.Dismissed role = Account ∷ []
role_by_kind _ role = []

-- the kinds of entry that invite a user to a paper, and take that back
abbrev pub invite_by_kind : EntryKind → List Bool
invite_by_kind kinds.Invited = true ∷ []
invite_by_kind kinds.Uninvited = false ∷ []
invite_by_kind _ = []

-- ---- what one sighting tells: each tells the facts of its kind of entry, and nothing of others

-- the entry is of this kind
abbrev pub is_kind : EntryKind → Sighting → Bool
is_kind kind s = kind_number s.kind == kind_number kind

-- the values, where it is
abbrev pub of_kind : {A : Type 0} → EntryKind → Sighting → List A → List A
of_kind kind s xs = if is_kind kind s then xs else []

-- the phase that the sighting sets
abbrev pub phase_seen : Sighting → List Phase
phase_seen s = of_kind kinds.PhaseSet s (listed s.phase)

-- the mode that the sighting sets
abbrev pub mode_seen : Sighting → List Mode
mode_seen s = of_kind kinds.ModeSet s (listed s.mode)

-- the deadline of the phase that it sets, or that it has none any more
abbrev pub deadline_seen : Phase → Sighting → List (Option ℕ)
deadline_seen phase s = of_kind kinds.DeadlineSet s (deadline_shown phase s.phase s.until)

-- the paper that it makes
abbrev pub paper_seen : Sighting → List ℕ
paper_seen s = of_kind kinds.Submitted s (listed s.paper)

-- the paper that the sighting submits, if it is the reader's own
abbrev pub own_paper_seen : Sighting → List ℕ
own_paper_seen s = only s.mine (paper_seen s)

-- the author whom the sighting gives the paper
abbrev pub author_seen : ℕ → Sighting → List ℕ
author_seen p s = only (is_number s.paper p) (author_by_kind s.kind s.by s.user)

-- whether it turns the user's declared conflict with the paper on or off
abbrev pub conflict_seen : Option ℕ → ℕ → Sighting → List Bool
conflict_seen u p s = only (is_number s.paper p && is_user u s.user) (of_kind kinds.Conflict s (listed s.on))

-- the user whom the sighting names in a conflict with the paper
abbrev pub conflict_user_seen : ℕ → Sighting → List ℕ
conflict_user_seen p s = only (is_number s.paper p) (of_kind kinds.Conflict s (listed s.user))

-- the user whom the sighting names in a conflict with the paper, if the sighting is the reader's own or the user isn't
-- the reader
abbrev pub own_or_other_seen : Option ℕ → ℕ → Sighting → List ℕ
own_or_other_seen u p s =
    only (is_number s.paper p && (s.mine || not (is_user u s.user))) (of_kind kinds.Conflict s (listed s.user))

-- the user's bid on the paper
abbrev pub bid_seen : Option ℕ → ℕ → Sighting → List ℕ
bid_seen u p s = only (is_number s.paper p && is_user u s.by) (of_kind kinds.Bid s (listed s.value))

-- the reader's bid on the paper
abbrev pub own_bid_seen : ℕ → Sighting → List ℕ
own_bid_seen p s = only (is_number s.paper p && s.mine) (of_kind kinds.Bid s (listed s.value))

-- the ordinal under which the user reviews the paper from this sighting on: `Some` if it assigns the user, `None` if it
-- unassigns them
abbrev pub ordinal_seen : Option ℕ → ℕ → Sighting → List (Option ℕ)
ordinal_seen u p s = only (is_number s.paper p && is_user u s.user) (ordinal_by_kind s.kind s.ordinal)

-- whether the user may review the paper from here on as one from outside the committee
abbrev pub invite_seen : Option ℕ → ℕ → Sighting → List Bool
invite_seen u p s = only (is_number s.paper p && is_user u s.user) (invite_by_kind s.kind)

-- the reviewer whom the sighting assigns to the paper
abbrev pub assigned_seen : ℕ → Sighting → List SeatTold
assigned_seen p s =
    only (is_number s.paper p) (of_kind kinds.Assigned s
    (map (λ (o : ℕ). record { ordinal = o; kind = s.review_kind; user = s.user }) (listed s.ordinal)))

-- the ordinal of the reviewer whom the sighting unassigns from the paper
abbrev pub unassigned_seen : ℕ → Sighting → List ℕ
unassigned_seen p s = only (is_number s.paper p) (of_kind kinds.Unassigned s (listed s.ordinal))

-- the form that the sighting adds under the paper's label of this ordinal
abbrev pub form_seen : ℕ → ℕ → Sighting → List FormTold
form_seen p o s =
    only (is_number s.paper p && is_number s.ordinal o)
    (of_kind kinds.Reviewed s (form_shown s.version s.score s.confidence s.to_authors s.to_pc))

-- the form of the paper that the sighting adds, if it is the reader's own
abbrev pub own_form_seen : ℕ → Sighting → List FormTold
own_form_seen p s =
    only (is_number s.paper p && s.mine)
    (of_kind kinds.Reviewed s (form_shown s.version s.score s.confidence s.to_authors s.to_pc))

-- that there is a form under the label of this ordinal
abbrev pub done_seen : ℕ → ℕ → Sighting → List Bool
done_seen p o s = only (is_number s.paper p && is_number s.ordinal o) (of_kind kinds.Reviewed s (listed s.done))

-- the comment that the sighting adds to the paper
abbrev pub comment_seen : ℕ → Sighting → List CommentTold
comment_seen p s = only (is_number s.paper p) (of_kind kinds.Commented s (comment_shown s.n s.by s.ordinal s.text))

-- the number of the comment that the sighting adds, if it is the reader's own
abbrev pub own_comment_seen : Sighting → List ℕ
own_comment_seen s = only s.mine (of_kind kinds.Commented s (listed s.n))

-- what the paper's authors respond
abbrev pub response_seen : ℕ → Sighting → List (List ℕ)
response_seen p s = only (is_number s.paper p) (of_kind kinds.Responded s (listed s.text))

-- the tag that it turns on or off at the paper, which this reader reads
abbrev pub tag_seen : Option ℕ → ℕ → Sighting → List TagTold
tag_seen u p s = only (is_number s.paper p) (of_kind kinds.Tagged s (tag_shown u s.mine s.tag s.on))

-- what the sighting decides of the paper
abbrev pub decision_seen : ℕ → Sighting → List Decision
decision_seen p s = only (is_number s.paper p) (of_kind kinds.Decided s (listed s.decision))

-- true, if the sighting shows that the paper is accepted
abbrev pub accepted_seen : ℕ → Sighting → List Bool
accepted_seen p s = only (is_number s.paper p) (of_kind kinds.Decided s (listed s.accepted))

-- whether it opens the bidding
abbrev pub bidding_seen : Sighting → Bool
bidding_seen s = is_kind kinds.PhaseSet s && shows_phase Bidding s.phase

-- the sighting sets the phase to the discussion
abbrev pub discussion_seen : Sighting → Bool
discussion_seen s = is_kind kinds.PhaseSet s && shows_phase committee_reads_from s.phase

-- the sighting sets the phase to the response
abbrev pub opening_response_seen : Sighting → Bool
opening_response_seen s = is_kind kinds.PhaseSet s && shows_phase Response s.phase

-- the title that the sighting gives the paper
abbrev pub title_seen : ℕ → Sighting → List (List ℕ)
title_seen p s = only (is_number s.paper p) (text_by_kind s.kind s.title)

-- the abstract that the sighting gives the paper
abbrev pub abstract_seen : ℕ → Sighting → List (List ℕ)
abstract_seen p s = only (is_number s.paper p) (text_by_kind s.kind s.abstract)

-- what it uploads to the paper
abbrev pub upload_seen : ℕ → Sighting → List Upload
upload_seen p s = only (is_number s.paper p) (of_kind kinds.Uploaded s (upload_shown s.version s.content))

-- how many bytes it uploads, where it is the reader's own
abbrev pub own_bytes_seen : Sighting → List ℕ
own_bytes_seen s = only s.mine (of_kind kinds.Uploaded s (map length (listed s.content)))

-- that it withdraws the paper
abbrev pub withdrawal_seen : ℕ → Sighting → List Bool
withdrawal_seen p s = only (is_number s.paper p) (of_kind kinds.Withdrawn s (true ∷ []))

-- the account that it makes
abbrev pub registration_seen : Sighting → List Registration
registration_seen s = of_kind kinds.Registered s (registration_shown s.user s.name)

-- the role that the user has from this sighting on: the one to which it appoints them, or an account's if it dismisses
-- them
abbrev pub role_seen : Option ℕ → Sighting → List Role
role_seen u s = only (is_user u s.user) (role_by_kind s.kind s.role)

-- the number of the user whom the sighting registers under this name
abbrev pub number_seen : List ℕ → Sighting → List ℕ
number_seen name s = only (is_text name s.name) (of_kind kinds.Registered s (listed s.user))

-- ---- the facts

-- the last phase that was set, else setup
abbrev pub phase_in_view : View → Phase
phase_in_view V = last_or Setup (flat_map phase_seen V)

-- the last mode that was set, else blind
abbrev pub mode_in_view : View → Mode
mode_in_view V = last_or Blind (flat_map mode_seen V)

-- the deadline of a phase that was set last: none where none was, or it was taken away
abbrev pub deadline_in_view : Phase → View → Option ℕ
deadline_in_view phase V = last_or None (flat_map (deadline_seen phase) V)

-- the response was opened
abbrev pub had_response_in_view : View → Bool
had_response_in_view V = list_any opening_response_seen V

-- the role of the last sighting that appoints the user or dismisses them; an account's if there is none
abbrev pub role_in_view : Option ℕ → View → Role
role_in_view u V = last_or Account (flat_map (role_seen u) V)

-- the papers, in the order of their submission
abbrev pub papers_in_view : View → List ℕ
papers_in_view V = flat_map paper_seen V

-- the accounts, in the order of their registration, each with its role
abbrev pub accounts_in_view : View → List AccountLine
accounts_in_view V =
    map (λ (r : Registration). record { user = r.user; name = r.name; role = role_in_view (Some r.user) V })
    (flat_map registration_seen V)

-- the user who registered this name
abbrev pub number_in_view : List ℕ → View → Option ℕ
number_in_view name V = last (flat_map (number_seen name) V)

-- ---- the reader's ties

-- the paper's authors that are shown, the submitter first, the others in the order in which they were told
abbrev pub authors_in_view : ℕ → View → List ℕ
authors_in_view p V = flat_map (author_seen p) V

-- the user is shown to be an author of the paper
abbrev pub is_author_in_view : Option ℕ → ℕ → View → Bool
is_author_in_view u p V = list_any (is_number u) (authors_in_view p V)

-- the last entry shown on the user's conflict with the paper turns it on
abbrev pub is_conflict_on_in_view : Option ℕ → ℕ → View → Bool
is_conflict_on_in_view u p V = last_or false (flat_map (conflict_seen u p) V)

-- the user is shown to be in conflict with the paper, as an author or by a declaration
abbrev pub is_conflicted_in_view : Option ℕ → ℕ → View → Bool
is_conflicted_in_view u p V = is_author_in_view u p V || is_conflict_on_in_view u p V

-- for an author of the paper: the users named in those conflicts with it that are the author's own, name another user,
-- or come before the bidding. On a legal history these are exactly those that authors declared (`declared_by_authors`,
-- by `law_declared`), though a view shows no maker.
abbrev pub declared_in_view : Option ℕ → ℕ → View → List ℕ
declared_in_view u p V =
    flat_map (conflict_user_seen p) (until bidding_seen V) ++ flat_map (own_or_other_seen u p) (since bidding_seen V)

-- the ordinal under which the user reviews the paper: the last entry shown on the two tells it, or that there is none
abbrev pub ordinal_in_view : Option ℕ → ℕ → View → Option ℕ
ordinal_in_view u p V = last_or None (flat_map (ordinal_seen u p) V)

-- the last invitation of the user to the paper that is shown didn't end since
abbrev pub is_invited_in_view : Option ℕ → ℕ → View → Bool
is_invited_in_view u p V = last_or false (flat_map (invite_seen u p) V)

-- the user is shown to be an external of the paper: not on the committee, and invited
abbrev pub is_external_in_view : Option ℕ → ℕ → View → Bool
is_external_in_view u p V = not (is_member (role_in_view u V)) && is_invited_in_view u p V

-- what a view says of its reader's standing, at a paper, if one is named
abbrev pub standing_in_view : Option ℕ → Option ℕ → View → Standing
standing_in_view u paper V = record {
  phase = phase_in_view V;
  mode = mode_in_view V;
  role = role_in_view u V;
  author = at_some (λ p. is_author_in_view u p V) paper;
  conflicted = at_some (λ p. is_conflicted_in_view u p V) paper;
  reviewer = at_some (λ p. is_some (ordinal_in_view u p V)) paper;
  external = at_some (λ p. is_external_in_view u p V) paper;
}

-- ---- bids and assignments

-- the user's last bid on the paper that is shown
abbrev pub bid_in_view : Option ℕ → ℕ → View → Option ℕ
bid_in_view u p V = last (flat_map (bid_seen u p) V)

-- the reader's last bid on the paper
abbrev pub own_bid_in_view : ℕ → View → Option ℕ
own_bid_in_view p V = last (flat_map (own_bid_seen p) V)

-- the last bid on the paper of each user whose bids are shown
abbrev pub bids_in_view : ℕ → View → List BidTold
bids_in_view p V =
    flat_map (λ (a : AccountLine). map (λ (value : ℕ). record { user = a.user; value = value })
    (listed (bid_in_view (Some a.user) p V))) (accounts_in_view V)

-- the users who were assigned to the paper, as far as they are shown, by label
abbrev pub seats_in_view : ℕ → View → List SeatTold
seats_in_view p V = flat_map (assigned_seen p) V

-- the assigned that are shown whose ordinal has no unassigned shown
abbrev pub reviewers_in_view : ℕ → View → List SeatTold
reviewers_in_view p V = seats_left (flat_map (unassigned_seen p) V) (seats_in_view p V)

-- ---- reviews, responses, comments and tags

-- the forms under the paper's label of this ordinal that are shown
abbrev pub forms_in_view : ℕ → ℕ → View → List FormTold
forms_in_view p o V = flat_map (form_seen p o) V

-- the last form under the paper's label of this ordinal that is shown
abbrev pub last_form_in_view : ℕ → ℕ → View → Option FormTold
last_form_in_view p o V = last (forms_in_view p o V)

-- the form under the paper's label of this ordinal to which its authors respond, as shown
abbrev pub early_form_in_view : ℕ → ℕ → View → Option FormTold
early_form_in_view p o V =
    if had_response_in_view V then last (forms_in_view p o (until opening_response_seen V)) else None

-- the forms under the paper's label of this ordinal that the committee discusses, as shown
abbrev pub forms_discussed_in_view : ℕ → ℕ → View → List FormTold
forms_discussed_in_view p o V =
    listed (last (forms_in_view p o (until discussion_seen V))) ++ forms_in_view p o (since discussion_seen V)

-- the reader's own forms of the paper, which a reviewer reads until the discussion, and an external from the reviewing
-- on: those with the mark `mine`, as the history's `own_forms_of` goes by the maker. The tables have no maker of a
-- form, and take those under the reader's label (`own_forms_in`), which are these, since a user who has written a form
-- stays a reviewer.
abbrev pub own_forms_in_view : ℕ → View → List FormTold
own_forms_in_view p V = flat_map (own_form_seen p) V

-- a form is shown to be there under the paper's label of this ordinal
abbrev pub is_written_in_view : ℕ → ℕ → View → Bool
is_written_in_view p o V = last_or false (flat_map (done_seen p o) V)

-- the comments on the paper that are shown, by number
abbrev pub comments_in_view : ℕ → View → List CommentTold
comments_in_view p V = flat_map (comment_seen p) V

-- what the paper's authors responded, where it is shown
abbrev pub response_in_view : ℕ → View → Option (List ℕ)
response_in_view p V = last (flat_map (response_seen p) V)

-- the paper's tags that are on, each by the last entry shown, a private one by the reader's own
abbrev pub tags_in_view : Option ℕ → Bool → ℕ → View → List (List ℕ)
tags_in_view u chair p V = tags_for u chair (tags_left (flat_map (tag_seen u p) V))

-- ---- papers

-- the last title of the paper that is shown
abbrev pub title_in_view : ℕ → View → Option (List ℕ)
title_in_view p V = last (flat_map (title_seen p) V)

-- the last abstract of the paper that is shown
abbrev pub abstract_in_view : ℕ → View → Option (List ℕ)
abstract_in_view p V = last (flat_map (abstract_seen p) V)

-- what is shown of what was uploaded to the paper, in order; of these `uploads_told` takes only the last, unless the
-- reader is an author of the paper
abbrev pub uploads_in_view : ℕ → View → List Upload
uploads_in_view p V = flat_map (upload_seen p) V

-- the paper was withdrawn
abbrev pub is_withdrawn_in_view : ℕ → View → Bool
is_withdrawn_in_view p V = last_or false (flat_map (withdrawal_seen p) V)

-- the last decision shown on the paper
abbrev pub decision_in_view : ℕ → View → Option Decision
decision_in_view p V = last (flat_map (decision_seen p) V)

-- an entry shown has the mark that the paper is accepted
abbrev pub is_accepted_in_view : ℕ → View → Bool
is_accepted_in_view p V = last_or false (flat_map (accepted_seen p) V)

-- ---- Quotas

-- how many papers the reader has submitted
abbrev pub own_papers_in_view : View → ℕ
own_papers_in_view V = length (flat_map own_paper_seen V)

-- how many bytes the reader has uploaded, in all versions of all papers
abbrev pub own_bytes_in_view : View → ℕ
own_bytes_in_view V = total (flat_map own_bytes_seen V)

-- how many comments the reader has written
abbrev pub own_comments_in_view : View → ℕ
own_comments_in_view V = length (flat_map own_comment_seen V)

-- ---- what the rules and the answers read

abbrev pub facts_in_view : Option ℕ → View → Facts
facts_in_view u V = record {
  standing = λ paper. standing_in_view u paper V;
  accounts = accounts_in_view V;
  papers = papers_in_view V;
  own_papers = own_papers_in_view V;
  own_bytes = own_bytes_in_view V;
  own_bid = λ p. own_bid_in_view p V;
  own_ordinal = λ p. ordinal_in_view u p V;
  own_forms = λ p. own_forms_in_view p V;
  own_comments = own_comments_in_view V;
  accepted = λ p. is_accepted_in_view p V;
  deadline = λ phase. deadline_in_view phase V;
  had_response = had_response_in_view V;
}

-- the users who have registered of whom this holds, by number
abbrev pub users_where : (ℕ → Bool) → View → List ℕ
users_where test V = filter test (map (λ (a : AccountLine). a.user) (accounts_in_view V))

-- what pages, contents and some rules read of a paper, by the view
abbrev pub shown_in_view : Option ℕ → View → Shown
shown_in_view u V = record {
  title = λ p. title_in_view p V;
  abstract_ = λ p. abstract_in_view p V;
  authors = λ p. authors_in_view p V;
  conflicts = λ p. users_where (λ v. is_conflict_on_in_view (Some v) p V) V;
  declared = λ p. users_where (λ v. list_any (λ w. w == v) (declared_in_view u p V)) V;
  uploads = λ p. uploads_in_view p V;
  withdrawn = λ p. is_withdrawn_in_view p V;
  bids = λ p. bids_in_view p V;
  reviewers = λ p. reviewers_in_view p V;
  ordinal = λ v p. ordinal_in_view v p V;
  labels = λ p. length (seats_in_view p V);
  assigned = λ p o. assigned_under o (seats_in_view p V);
  invited = λ v p. is_invited_in_view v p V;
  last_form = λ p o. last_form_in_view p o V;
  early_form = λ p o. early_form_in_view p o V;
  forms_discussed = λ p o. forms_discussed_in_view p o V;
  written = λ p o. is_written_in_view p o V;
  comments = λ p. comments_in_view p V;
  response = λ p. response_in_view p V;
  tags = λ v chair p. tags_in_view v chair p V;
  decision = λ p. decision_in_view p V;
}
