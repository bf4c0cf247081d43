-- SPDX-License-Identifier: Apache-2.0 OR MIT
-- The visibility policy, as a trigger table: which parts of an entry a reader is shown, judged at the end of the
-- history (the triggers and bounds of CoCon, CAV 2014).
use Rattle.std.specs.Prelude.{ℕ, Bool, true, false, not, List, [], ◌∷◌, Option, Some, ◌&&◌, ◌||◌}
use Rattle.std.specs.List.{list_any}
use Rattle.cr_base.specs.declared.entry.Entry.{Entry}
use Rattle.cr_base.specs.declared.entry.Entry.TheVariants.{Registered, Named, PhaseSet, ModeSet, Submitted}
use Rattle.cr_base.specs.declared.entry.Entry.TheVariants.{Coauthor, Revised, Uploaded, Withdrawn, Conflict}
use Rattle.cr_base.specs.declared.entry.Entry.TheVariants.{Bid, Assigned, Unassigned, Reviewed}
use Rattle.cr_base.specs.declared.entry.Entry.TheVariants.{Commented, Tagged, Decided, DeadlineSet}
use Rattle.cr_base.specs.declared.entry.Entry.TheVariants.{Dismissed, Invited, Uninvited, Responded}
use Rattle.cr_base.specs.declared.words.Phase.{Phase}
use Rattle.cr_base.specs.declared.standing.Standing.{Standing}
use Rattle.cr_base.specs.declared.words.Mode.{Mode}
use Rattle.cr_base.specs.declared.words.Role.{Role}
use Rattle.cr_base.specs.Decisions.{is_published}
use Rattle.cr_base.specs.Lists.{is_nothing, is_number, until}
use Rattle.cr_base.specs.History.{History, all_told, opens_discussion, opens_response, title_told}
use Rattle.cr_base.specs.History.{upload_told, form_told, decision_told}
use Rattle.cr_base.specs.HistoryFacts.{phase_of, mode_of, role_of, is_author, is_conflicted, is_external}
use Rattle.cr_base.specs.HistoryFacts.{is_accepted}
use Rattle.cr_base.specs.HistoryFacts.{had_response_of}
use Rattle.cr_base.specs.Page.{is_clear_member, is_clear_chair, is_clear_external, reads_paper}
use Rattle.cr_base.specs.Phases.{members_see_papers, committee_sees_authors, chairs_see_conflicts, chairs_see_bids}
use Rattle.cr_base.specs.Phases.{committee_sees_tags, members_see_reviewers, members_read_reviews}
use Rattle.cr_base.specs.Phases.{members_read_comments, members_read_decisions, authors_read_reviews}
use Rattle.cr_base.specs.Phases.{authors_see_reviewers, authors_read_decisions}
use Rattle.cr_base.specs.Phases.{authors_read_early_reviews, members_read_responses}
use Rattle.cr_base.specs.TagTexts.{is_for_all, is_for_chairs}
use Rattle.cr_base.specs.Words.{is_anonymous, is_overt, is_member}
use Rattle.cr_policy.specs.Part as part
use Rattle.cr_policy.specs.Part.{Part, these, whole, whole_and}

-- what the table asks at the end of the history: who reads, the phase, whether the response was opened, the mode, the
-- reader's role, which papers the reader is an author of, in conflict with, or an external of, which user is an author
-- of which paper, and which papers are accepted
pub record Reader : Type 0 where
  pub number : Option ℕ
  pub now : Phase
  pub had_response : Bool
  pub mode : Mode
  pub rank : Role
  pub author : ℕ → Bool
  pub conflicted : ℕ → Bool
  pub external : ℕ → Bool
  pub wrote : ℕ → ℕ → Bool
  pub accepted : ℕ → Bool

-- the reader that a user is at the end of a history
abbrev pub reader : Option ℕ → History → Reader
reader u H = record {
  number = u;
  now = phase_of H;
  had_response = had_response_of H;
  mode = mode_of H;
  rank = role_of u H;
  author = λ p. is_author u p H;
  conflicted = λ p. is_conflicted u p H;
  external = λ p. is_external u p H;
  wrote = λ v p. is_author (Some v) p H;
  accepted = λ p. is_accepted p H;
}

-- the reader's standing at a paper; no row asks whether the reader reviews it
abbrev pub standing_to : Reader → ℕ → Standing
standing_to r p = record {
  phase = r.now;
  mode = r.mode;
  role = r.rank;
  author = r.author p;
  conflicted = r.conflicted p;
  reviewer = false;
  external = r.external p;
}

-- the history before an entry, and the history after it
pub record Around : Type 0 where
  pub before : History
  pub after : History

-- ---- who sees

-- every reader, and an unauthenticated caller too
abbrev pub everyone : Bool
everyone = true

-- the user is the reader
abbrev pub user_named : Reader → ℕ → Bool
user_named r user = is_number r.number user

-- the reader is an author of the paper
abbrev pub authors : Reader → ℕ → Bool
authors r p = r.author p

-- the reader is a member of the committee
abbrev pub members : Reader → Bool
members r = is_member r.rank

-- the mode shows members and externals who wrote a paper, and who reviews it or comments on it
abbrev pub unless_anonymous : Reader → Bool
unless_anonymous r = not (is_anonymous r.mode)

-- the mode shows authors who reviewed their paper
abbrev pub in_open_mode : Reader → Bool
in_open_mode r = is_overt r.mode

-- ---- which entry of its series

-- no entry of the history tells a value of this fact
abbrev pub none_in : {A : Type 0} → (Entry → List A) → History → Bool
none_in told H = is_nothing (all_told told H)

-- no entry of the history is of one series with this one: a paper's texts, its contents, the forms under a label, or
-- the decisions on it; true of every kind that has no series
abbrev pub none_alike : Entry → History → Bool
none_alike (Registered user name digest) H = true
none_alike (Named user role) H = true
none_alike (PhaseSet phase) H = true
none_alike (ModeSet mode) H = true
none_alike (Submitted paper title abstract) H = none_in (title_told paper) H
none_alike (Coauthor paper user) H = true
none_alike (Revised paper title abstract) H = none_in (title_told paper) H
none_alike (Uploaded paper version content) H = none_in (upload_told paper) H
none_alike (Withdrawn paper) H = true
none_alike (Conflict paper user on) H = true
none_alike (Bid paper value) H = true
none_alike (Assigned paper user review_kind ordinal) H = true
none_alike (Unassigned paper user ordinal) H = true
none_alike (Reviewed paper ordinal version form) H = none_in (form_told paper ordinal) H
none_alike (Commented paper n ordinal text) H = true
none_alike (Tagged paper tag on) H = true
none_alike (Decided paper decision) H = none_in (decision_told paper) H
none_alike (DeadlineSet phase until) H = true
none_alike (Dismissed user) H = true
none_alike (Invited paper user) H = true
none_alike (Uninvited paper user) H = true
none_alike (Responded paper text) H = true

-- what a row may ask of an entry's place: whether it is the first of its series, the last, the last before the response
-- was opened, the last before the discussion was opened, and whether the discussion had been opened when it was made.
-- An entry of a kind that has no series counts as first and last; no row of such a kind asks.
pub record Position : Type 0 where
  pub first : Bool
  pub last : Bool
  pub last_before_response : Bool
  pub last_before_discussion : Bool
  pub from_discussion : Bool

-- the position of an entry between these histories
abbrev pub position_of : Around → Entry → Position
position_of at e = record {
  first = none_alike e at.before;
  last = none_alike e at.after;
  last_before_response = not (list_any opens_response at.before) && none_alike e (until opens_response at.after);
  last_before_discussion = not (list_any opens_discussion at.before) && none_alike e (until opens_discussion at.after);
  from_discussion = list_any opens_discussion at.before;
}

-- ---- the table

-- one row of the table: whether it applies to the reader, and the parts that it shows then
pub record TriggerRow : Type 0 where
  pub applies : Bool
  pub parts : Part → Bool

-- `applies see parts`: the row that shows these parts if it applies
infix 90 ◌see◌
abbrev pub ◌see◌ : Bool → (Part → Bool) → TriggerRow
applies see parts = record { applies = applies; parts = parts }

-- no part besides the kind and the paper, which are always shown
abbrev pub paper_alone : Part → Bool
paper_alone = these []

-- the rows for an assignment to the paper, or its end, which names `user`
abbrev pub seat_rows : Reader → ℕ → ℕ → List TriggerRow
seat_rows r paper user =
    user_named r user see whole
    ∷ is_clear_chair (standing_to r paper) see whole
    ∷ (is_clear_member (standing_to r paper) && members_see_reviewers r.now)
    see these (part.review_kind ∷ part.ordinal ∷ [])
    ∷ (is_clear_member (standing_to r paper) && unless_anonymous r && members_see_reviewers r.now)
    see these (part.user ∷ [])
    ∷ (authors r paper && in_open_mode r && authors_see_reviewers r.now) see these (part.user ∷ part.ordinal ∷ [])
    ∷ []

-- the rows for an invitation to the paper, or its end, which names `user`
abbrev pub invite_rows : Reader → ℕ → ℕ → List TriggerRow
invite_rows r paper user =
    user_named r user see whole
    ∷ is_clear_chair (standing_to r paper) see whole
    ∷ []

-- the reader is a member in no conflict with the paper, and the phase is one in which such members read its reviews
abbrev pub reads_reviews : Reader → ℕ → Bool
reads_reviews r paper = is_clear_member (standing_to r paper) && members_read_reviews r.now

-- the reader is a member in no conflict with the paper, and the phase is one in which such members read the comments on
-- it
abbrev pub reads_comments : Reader → ℕ → Bool
reads_comments r paper = is_clear_member (standing_to r paper) && members_read_comments r.now

-- the reader is a member in no conflict with the paper, and the phase is one in which such members read what its
-- authors responded
abbrev pub reads_responses : Reader → ℕ → Bool
reads_responses r paper = is_clear_member (standing_to r paper) && members_read_responses r.now

-- the reader is a member in no conflict with the paper, and the phase is one in which such members read the decisions
-- on it
abbrev pub reads_decisions : Reader → ℕ → Bool
reads_decisions r paper = is_clear_member (standing_to r paper) && members_read_decisions r.now

-- everyone may read the paper: it is accepted, and the conference is closed
abbrev pub published : Reader → ℕ → Bool
published r paper = is_published r.now (r.accepted paper)

-- a member who reads the comments on a paper is told who wrote them: a chair in no conflict with it always, others
-- unless the mode is anonymous
abbrev pub names_writers : Reader → ℕ → Bool
names_writers r paper = is_clear_chair (standing_to r paper) || unless_anonymous r

-- the rows for each kind of entry at this position; `by` is the user who made it
abbrev pub rows : Reader → Position → ℕ → Entry → List TriggerRow
rows r at by (Registered user name digest) =
    everyone see these (part.user ∷ part.name ∷ [])
    ∷ []
rows r at by (Named user role) =
    everyone see whole
    ∷ []
rows r at by (PhaseSet phase) =
    everyone see whole
    ∷ []
rows r at by (ModeSet mode) =
    everyone see whole
    ∷ []
rows r at by (Submitted paper title abstract) =
    everyone see paper_alone
    ∷ authors r paper see whole_and (part.by ∷ [])
    ∷ (at.last && members r && members_see_papers r.now) see these (part.title ∷ [])
    ∷ (at.last && is_clear_external (standing_to r paper) && members_see_papers r.now) see these (part.title ∷ [])
    ∷ (at.last && reads_paper (standing_to r paper) && members_see_papers r.now) see these (part.abstract ∷ [])
    ∷ (is_clear_chair (standing_to r paper) && committee_sees_authors r.now) see these (part.by ∷ [])
    ∷ (reads_paper (standing_to r paper) && unless_anonymous r && committee_sees_authors r.now)
    see these (part.by ∷ [])
    ∷ r.accepted paper see these (part.by ∷ [])
    ∷ (at.last && r.accepted paper) see these (part.title ∷ [])
    ∷ (at.last && published r paper) see these (part.abstract ∷ [])
    ∷ []
rows r at by (Coauthor paper user) =
    authors r paper see whole
    ∷ (is_clear_chair (standing_to r paper) && committee_sees_authors r.now) see these (part.user ∷ [])
    ∷ (reads_paper (standing_to r paper) && unless_anonymous r && committee_sees_authors r.now)
    see these (part.user ∷ [])
    ∷ r.accepted paper see these (part.user ∷ [])
    ∷ []
rows r at by (Revised paper title abstract) =
    authors r paper see whole
    ∷ (at.last && members r && members_see_papers r.now) see these (part.title ∷ [])
    ∷ (at.last && is_clear_external (standing_to r paper) && members_see_papers r.now) see these (part.title ∷ [])
    ∷ (at.last && reads_paper (standing_to r paper) && members_see_papers r.now) see these (part.abstract ∷ [])
    ∷ (at.last && r.accepted paper) see these (part.title ∷ [])
    ∷ (at.last && published r paper) see these (part.abstract ∷ [])
    ∷ []
rows r at by (Uploaded paper version content) =
    authors r paper see whole
    ∷ (at.last && reads_paper (standing_to r paper) && members_see_papers r.now) see whole
    ∷ (at.last && published r paper) see whole
    ∷ []
rows r at by (Withdrawn paper) =
    authors r paper see paper_alone
    ∷ (members r && members_see_papers r.now) see paper_alone
    ∷ (is_clear_external (standing_to r paper) && members_see_papers r.now) see paper_alone
    ∷ []
rows r at by (Conflict paper user on) =
    user_named r user see whole
    ∷ (r.wrote by paper && authors r paper) see whole
    ∷ (is_clear_chair (standing_to r paper) && chairs_see_conflicts r.now) see whole
    ∷ []
rows r at by (Bid paper value) =
    (is_clear_chair (standing_to r paper) && chairs_see_bids r.now) see these (part.value ∷ part.by ∷ [])
    ∷ []
rows r at by (Assigned paper user review_kind ordinal) = seat_rows r paper user
rows r at by (Unassigned paper user ordinal) = seat_rows r paper user
rows r at by (Reviewed paper ordinal version form) =
    (at.first && is_clear_chair (standing_to r paper)) see these (part.ordinal ∷ part.done ∷ [])
    ∷ ((at.last_before_discussion || at.from_discussion) && reads_reviews r paper) see whole
    ∷ (at.last_before_response && r.had_response && authors r paper && authors_read_early_reviews r.now)
    see these (part.ordinal ∷ part.score ∷ part.confidence ∷ part.to_authors ∷ [])
    ∷ (at.last && authors r paper && authors_read_reviews r.now)
    see these (part.ordinal ∷ part.score ∷ part.confidence ∷ part.to_authors ∷ [])
    ∷ []
rows r at by (Commented paper n ordinal text) =
    reads_comments r paper see these (part.n ∷ part.text ∷ [])
    ∷ (reads_comments r paper && names_writers r paper) see these (part.by ∷ [])
    ∷ (reads_comments r paper && not (names_writers r paper)) see these (part.ordinal ∷ [])
    ∷ []
rows r at by (Tagged paper tag on) =
    (is_for_all tag && is_clear_member (standing_to r paper) && committee_sees_tags r.now) see whole
    ∷ (is_for_chairs tag && is_clear_chair (standing_to r paper) && committee_sees_tags r.now) see whole
    ∷ []
rows r at by (Decided paper decision) =
    reads_decisions r paper see whole
    ∷ (at.last && authors r paper && authors_read_decisions r.now) see these (part.outcome ∷ part.decision ∷ [])
    ∷ (at.last && r.accepted paper) see these (part.accepted ∷ [])
    ∷ []
rows r at by (DeadlineSet phase until) =
    everyone see whole
    ∷ []
rows r at by (Dismissed user) =
    everyone see whole
    ∷ []
rows r at by (Invited paper user) = invite_rows r paper user
rows r at by (Uninvited paper user) = invite_rows r paper user
rows r at by (Responded paper text) =
    authors r paper see whole
    ∷ reads_responses r paper see whole
    ∷ []

-- one of the rows applies
abbrev pub applies_any : List TriggerRow → Bool
applies_any rows = list_any (λ (row : TriggerRow). row.applies) rows

-- one of the rows applies and shows the part
abbrev pub shows : List TriggerRow → Part → Bool
shows rows p = list_any (λ (row : TriggerRow). row.parts p && row.applies) rows
