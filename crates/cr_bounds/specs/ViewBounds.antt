-- SPDX-License-Identifier: Apache-2.0 OR MIT
-- The bounds of a view (the word is CoCon's, CAV 2014): who is shown each part of an entry, neither more nor less, and
-- what is left for users who should know little. They hold of every history, legal or not, of every user and of an
-- unauthenticated caller.
use Rattle.std.specs.Prelude.{ℕ, Bool, true, false, ◌≡◌, ◌≤◌, ◌||◌, ◌&&◌, not, List, [], length}
use Rattle.std.specs.Prelude.{map, Option, Some, None, is_some, All, IsTrue, IsFalse, if◌then◌else◌}
use Rattle.std.specs.List.{flat_map, list_any}
use Rattle.cr_base.specs.declared.entry.Entry.{Entry}
use Rattle.cr_base.specs.declared.entry.Entry.TheVariants.{Assigned, Unassigned, Reviewed}
use Rattle.cr_base.specs.declared.entry.Entry.TheVariants.{Invited, Uninvited}
use Rattle.cr_base.specs.declared.entry.EntryKind.{EntryKind}
use Rattle.cr_base.specs.declared.entry.EntryKind.TheVariants as kinds
use Rattle.cr_base.specs.declared.entry.Stamped.{Stamped}
use Rattle.cr_base.specs.Lists.{listed, is_number, at_some}
use Rattle.cr_base.specs.History.{History, paper_about, user_about}
use Rattle.cr_base.specs.HistoryFacts.{phase_of, mode_of, role_of, is_author}
use Rattle.cr_policy.specs.Sighting.{Sighting, blank}
use Rattle.cr_policy.specs.View.{view}
use Rattle.cr_policy.specs.ViewFacts.{only, is_user, is_kind}
use Rattle.cr_bounds.specs.ShownTo.{PartFor, each_told, chairs_committee, is_past_reviewing, is_response_or_later}
use Rattle.cr_bounds.specs.ShownTo.{begins_response}
use Rattle.cr_bounds.specs.ShownTo.{is_past_discussion, hides_reviewers, names_reviewers}
use Rattle.cr_bounds.specs.ShownTo.{serves, is_eligible, oversees, administers, discusses, is_in_programme, appears}
use Rattle.cr_bounds.specs.ShownTo.{is_on_committee, hides_authors, visits, reads_visiting, is_author_since_response}
use Rattle.cr_bounds.specs.ShownTo.{is_chairs, is_setters, kind_for, mark_for, moment_for, key_for, paper_for}
use Rattle.cr_bounds.specs.ShownTo.{user_for, name_for}
use Rattle.cr_bounds.specs.ShownTo.{digest_for, role_for, phase_for, until_for, mode_for, maker_for}
use Rattle.cr_bounds.specs.ShownTo.{title_for, abstract_for, version_for, content_for}
use Rattle.cr_bounds.specs.ShownTo.{switch_for, value_for, review_kind_for, ordinal_for}
use Rattle.cr_bounds.specs.ShownTo.{score_for, confidence_for, to_authors_for, to_pc_for, done_for}
use Rattle.cr_bounds.specs.ShownTo.{n_for, text_for, tag_for, decision_for, outcome_for, accepted_for}

-- ---- each part

-- the reader's view shows this part as ShownTo says, neither more nor less: the parts of the sightings, in order, are
-- those of the entries of which the user is told
abbrev pub Shows : {A : Type 0} → (Sighting → A) → PartFor A → Type 0
Shows seen part = (u : Option ℕ) (H : History) → map seen (view u H) ≡ each_told u H (part u H) [] H

-- a view has one sighting for each entry of which the user is told, and shows its kind
abbrev pub EntriesShown : Type 0
EntriesShown = Shows (λ (s : Sighting). s.kind) kind_for

-- the user's own entries are marked, and no others
abbrev pub MarksShown : Type 0
MarksShown = Shows (λ (s : Sighting). s.mine) mark_for

-- the time of the request is shown of the user's own entries, and of no others
abbrev pub MomentsShown : Type 0
MomentsShown = Shows (λ (s : Sighting). s.at) moment_for

-- the number of the command and the digest of its request, or that it has no number, are shown of the user's own
-- entries, and of no others
abbrev pub KeysShown : Type 0
KeysShown = Shows (λ (s : Sighting). s.key) key_for

-- this definition and those up to AcceptedShown: each part of a sighting is shown as ShownTo's definition of that part
-- says, neither more nor less. Here: the number of the paper.
abbrev pub PapersShown : Type 0
PapersShown = Shows (λ (s : Sighting). s.paper) paper_for

-- the user whom an entry names
abbrev pub UsersShown : Type 0
UsersShown = Shows (λ (s : Sighting). s.user) user_for

-- the name of a registered user
abbrev pub NamesShown : Type 0
NamesShown = Shows (λ (s : Sighting). s.name) name_for

-- the digest of a secret
abbrev pub DigestsShown : Type 0
DigestsShown = Shows (λ (s : Sighting). s.digest) digest_for

-- a role
abbrev pub RolesShown : Type 0
RolesShown = Shows (λ (s : Sighting). s.role) role_for

-- a phase that is set, and one whose deadline is set
abbrev pub PhasesShown : Type 0
PhasesShown = Shows (λ (s : Sighting). s.phase) phase_for

-- a deadline, or that there is none any more
abbrev pub DeadlinesShown : Type 0
DeadlinesShown = Shows (λ (s : Sighting). s.until) until_for

-- a mode
abbrev pub ModesShown : Type 0
ModesShown = Shows (λ (s : Sighting). s.mode) mode_for

-- the user who made the entry
abbrev pub MakersShown : Type 0
MakersShown = Shows (λ (s : Sighting). s.by) maker_for

-- a title
abbrev pub TitlesShown : Type 0
TitlesShown = Shows (λ (s : Sighting). s.title) title_for

-- an abstract
abbrev pub AbstractsShown : Type 0
AbstractsShown = Shows (λ (s : Sighting). s.abstract) abstract_for

-- the number of a version of a content, and that of a form among those under its label
abbrev pub VersionsShown : Type 0
VersionsShown = Shows (λ (s : Sighting). s.version) version_for

-- a content
abbrev pub ContentsShown : Type 0
ContentsShown = Shows (λ (s : Sighting). s.content) content_for

-- whether a conflict, or a tag, is on
abbrev pub SwitchesShown : Type 0
SwitchesShown = Shows (λ (s : Sighting). s.on) switch_for

-- a bid
abbrev pub ValuesShown : Type 0
ValuesShown = Shows (λ (s : Sighting). s.value) value_for

-- whether an assigned reviewer is the primary, the secondary or another
abbrev pub SeatsShown : Type 0
SeatsShown = Shows (λ (s : Sighting). s.review_kind) review_kind_for

-- the ordinal of a label
abbrev pub OrdinalsShown : Type 0
OrdinalsShown = Shows (λ (s : Sighting). s.ordinal) ordinal_for

-- a form's score
abbrev pub ScoresShown : Type 0
ScoresShown = Shows (λ (s : Sighting). s.score) score_for

-- a form's confidence
abbrev pub ConfidencesShown : Type 0
ConfidencesShown = Shows (λ (s : Sighting). s.confidence) confidence_for

-- a form's text to the authors
abbrev pub TextsToAuthorsShown : Type 0
TextsToAuthorsShown = Shows (λ (s : Sighting). s.to_authors) to_authors_for

-- a form's text to the committee
abbrev pub TextsToPcShown : Type 0
TextsToPcShown = Shows (λ (s : Sighting). s.to_pc) to_pc_for

-- the mark that there is a form under a label
abbrev pub DoneShown : Type 0
DoneShown = Shows (λ (s : Sighting). s.done) done_for

-- a comment's number
abbrev pub NumbersShown : Type 0
NumbersShown = Shows (λ (s : Sighting). s.n) n_for

-- the text of a comment or a response
abbrev pub CommentsShown : Type 0
CommentsShown = Shows (λ (s : Sighting). s.text) text_for

-- a tag
abbrev pub TagsShown : Type 0
TagsShown = Shows (λ (s : Sighting). s.tag) tag_for

-- a decision
abbrev pub DecisionsShown : Type 0
DecisionsShown = Shows (λ (s : Sighting). s.decision) decision_for

-- the mark that a decision is what became of the reader's paper
abbrev pub OutcomesShown : Type 0
OutcomesShown = Shows (λ (s : Sighting). s.outcome) outcome_for

-- the mark that a paper is accepted
abbrev pub AcceptedShown : Type 0
AcceptedShown = Shows (λ (s : Sighting). s.accepted) accepted_for

-- ---- bids, and who reviews

-- the sighting is of an assignment to the paper, or of an assignment's end, of another user than the reader, and isn't
-- the reader's own
abbrev pub is_of_other : Option ℕ → ℕ → Sighting → Bool
is_of_other u p s =
    (is_kind kinds.Assigned s || is_kind kinds.Unassigned s) && is_number s.paper p && not (s.mine || is_user u s.user)

-- a user who doesn't oversee the paper is shown no bid on it except their own
abbrev pub BidsAreOwn : Type 0
BidsAreOwn =
    (u : Option ℕ) (p : ℕ) (H : History) → IsFalse (oversees u p H)
    → All (λ (s : Sighting). IsTrue (is_kind kinds.Bid s && is_number s.paper p) → IsTrue s.mine) (view u H)

-- a paper's authors are shown nothing of who reviews it, except in the open mode from the notification on
abbrev pub ReviewersFromAuthors : Type 0
ReviewersFromAuthors =
    (u : Option ℕ) (p : ℕ) (H : History) → IsTrue (is_author u p H)
    → IsFalse (names_reviewers (mode_of H) && is_past_discussion (phase_of H))
    → All (λ (s : Sighting). IsFalse (is_of_other u p s)) (view u H)

-- before the discussion only chairs in no conflict with the paper are shown who reviews it
abbrev pub ReviewersEarly : Type 0
ReviewersEarly =
    (u : Option ℕ) (p : ℕ) (H : History) → IsFalse (administers u p H) → IsFalse (is_past_reviewing (phase_of H))
    → All (λ (s : Sighting). IsFalse (is_of_other u p s)) (view u H)

-- in the anonymous mode only a chair in no conflict with the paper is ever shown who reviews it
abbrev pub ReviewersUnnamed : Type 0
ReviewersUnnamed =
    (u : Option ℕ) (p : ℕ) (H : History) → IsFalse (administers u p H) → IsTrue (hides_reviewers (mode_of H))
    → All (λ (s : Sighting). IsTrue (is_of_other u p s) → s.user ≡ None) (view u H)

-- ---- what is written of a paper

-- the sighting is of this kind, on the paper, and isn't the reader's own
abbrev pub is_others : EntryKind → ℕ → Sighting → Bool
is_others kind p s = is_kind kind s && is_number s.paper p && not s.mine

-- before the discussion a reader is shown of another's form on a paper at most its label's ordinal and the mark that it
-- is there, unless the reader is an author of the paper and the phase is the response
abbrev pub FormsEarly : Type 0
FormsEarly =
    (u : Option ℕ) (p : ℕ) (H : History) → IsFalse (is_past_reviewing (phase_of H))
    → IsFalse (is_author_since_response u p H)
    → All
    (λ (s : Sighting). IsTrue (is_others kinds.Reviewed p s)
    → s ≡ record (blank kinds.Reviewed) { paper = s.paper; ordinal = s.ordinal; done = s.done })
    (view u H)

-- a paper's authors may learn of forms on it: the phase is the notification or later, or it is the response or later
-- and the response was opened
abbrev pub may_learn_forms : History → Bool
may_learn_forms H =
    is_past_discussion (phase_of H)
    || (is_response_or_later (phase_of H) && list_any (λ (e : Stamped). begins_response e.entry) H)

-- a paper's authors are shown others' forms on it only if they may learn of forms, and never the text to the committee
abbrev pub FormsFromAuthors : Type 0
FormsFromAuthors =
    (u : Option ℕ) (p : ℕ) (H : History) → IsTrue (is_author u p H)
    → All (λ (s : Sighting). IsTrue (is_others kinds.Reviewed p s)
    → IsTrue (may_learn_forms H) × (s.to_pc ≡ None)) (view u H)

-- a paper's authors are shown none of the comments on it, and none of its tags
abbrev pub CommentsFromAuthors : Type 0
CommentsFromAuthors =
    (u : Option ℕ) (p : ℕ) (H : History) → IsTrue (is_author u p H)
    → All (λ (s : Sighting). IsFalse (is_others kinds.Commented p s || is_others kinds.Tagged p s)) (view u H)

-- in the anonymous mode only a chair in no conflict with the paper is shown who comments on it
abbrev pub WritersUnnamed : Type 0
WritersUnnamed =
    (u : Option ℕ) (p : ℕ) (H : History) → IsFalse (administers u p H) → IsTrue (hides_reviewers (mode_of H))
    → All (λ (s : Sighting). IsTrue (is_kind kinds.Commented s && is_number s.paper p) → s.by ≡ None) (view u H)

-- only the paper's authors, those who discuss it and the user who made the entry are shown that there is a response to
-- its reviews; no user is shown which author wrote it
abbrev pub ResponsesShown : Type 0
ResponsesShown =
    (u : Option ℕ) (p : ℕ) (H : History)
    → All (λ (s : Sighting). IsTrue (is_kind kinds.Responded s && is_number s.paper p)
    → IsTrue (s.mine || is_author u p H || discusses u p H) × (s.by ≡ None)) (view u H)

-- a tag is shown, and this holds of it
abbrev pub is_tag_so : (List ℕ → Bool) → Option (List ℕ) → Bool
is_tag_so test None = false
is_tag_so test (Some tag) = test tag

-- a reader is shown no private tag that another user set
abbrev pub PrivateTagsAreOwn : Type 0
PrivateTagsAreOwn =
    (u : Option ℕ) (p : ℕ) (H : History)
    → All (λ (s : Sighting). IsFalse (is_others kinds.Tagged p s && is_tag_so is_setters s.tag)) (view u H)

-- only users who oversee the paper are shown a tag for chairs that another user set
abbrev pub ChairsTags : Type 0
ChairsTags =
    (u : Option ℕ) (p : ℕ) (H : History) → IsFalse (oversees u p H)
    → All (λ (s : Sighting). IsFalse (is_others kinds.Tagged p s && is_tag_so is_chairs s.tag)) (view u H)

-- ---- decisions

-- before the notification only users who discuss a paper are shown that there is another's decision on it
abbrev pub DecisionsEarly : Type 0
DecisionsEarly =
    (u : Option ℕ) (p : ℕ) (H : History) → IsFalse (discusses u p H) → IsFalse (is_past_discussion (phase_of H))
    → All (λ (s : Sighting). IsFalse (is_others kinds.Decided p s)) (view u H)

-- a user who neither wrote the paper nor discusses it is shown of another's decision on it at most that the paper is
-- accepted, and this only if the paper is in the programme
abbrev pub DecisionsUntold : Type 0
DecisionsUntold =
    (u : Option ℕ) (p : ℕ) (H : History) → IsFalse (is_author u p H || discusses u p H)
    → All
    (λ (s : Sighting). IsTrue (is_others kinds.Decided p s)
    → IsTrue (is_in_programme p H) × (s ≡ record (blank kinds.Decided) { paper = Some p; accepted = Some true }))
    (view u H)

-- ---- earlier texts, contents and decisions

-- this part of the sighting as a list of at most one: there if another than the reader made the entry, it is on the
-- paper, and the part is shown
abbrev pub part_shown : {A : Type 0} → (Sighting → Option A) → ℕ → Sighting → List A
part_shown part p s = only (is_number s.paper p && not s.mine) (listed (part s))

-- of the titles that others gave a paper, a user who isn't its author is shown at most one
abbrev pub OneTitle : Type 0
OneTitle =
    (u : Option ℕ) (p : ℕ) (H : History) → IsFalse (is_author u p H)
    → length (flat_map (part_shown (λ (s : Sighting). s.title) p) (view u H)) ≤ 1

-- of the abstracts that others gave a paper, a user who isn't its author is shown at most one
abbrev pub OneAbstract : Type 0
OneAbstract =
    (u : Option ℕ) (p : ℕ) (H : History) → IsFalse (is_author u p H)
    → length (flat_map (part_shown (λ (s : Sighting). s.abstract) p) (view u H)) ≤ 1

-- of the contents that others gave a paper, a user who isn't its author is shown at most one
abbrev pub OneContent : Type 0
OneContent =
    (u : Option ℕ) (p : ℕ) (H : History) → IsFalse (is_author u p H)
    → length (flat_map (part_shown (λ (s : Sighting). s.content) p) (view u H)) ≤ 1

-- of the decisions that others made on a paper, a user who doesn't discuss it is shown at most one
abbrev pub OneDecision : Type 0
OneDecision =
    (u : Option ℕ) (p : ℕ) (H : History) → IsFalse (discusses u p H)
    → length (flat_map (part_shown (λ (s : Sighting). s.decision) p) (view u H)) ≤ 1

-- ---- who neither wrote a paper, nor is eligible for it, nor reads it as an external

-- what a user may know of a paper who isn't its author, isn't eligible for it and doesn't read it as an external goes
-- by: whether they serve, whether they administer the paper, whether it is in the programme, and whether it is
-- published
pub record Outsider : Type 0 where
  pub serving : Bool
  pub administering : Bool
  pub announced : Bool
  pub appearing : Bool

-- a sighting of an entry of this kind with only its paper and, if the entry is the reader's own, this mark, its
-- timestamp and its number
abbrev pub only_own_marks : EntryKind → Sighting → Sighting
only_own_marks kind s =
    record (blank kind) {
      mine = s.mine;
      paper = s.paper;
      at = if s.mine then s.at else None;
      key = if s.mine then s.key else None;
    }

-- what such a user is shown of a sighting of this kind on the paper, at most:
-- the paper's number; if they serve, its title and that it is withdrawn;
-- the whole of a conflict, an assignment, its end, an invitation and its end, if it names the user;
-- the whole of what the user made;
-- if they administer the paper, which such a user does only before the bidding, the whole of each assignment and
-- invitation and of their ends, and under which labels there is a form;
-- of a paper in the programme that it is accepted, its authors and its title; of one that is published its abstract and
-- content too
abbrev pub IsLeft : Option ℕ → Outsider → EntryKind → Sighting → Type 0
IsLeft u is kinds.Registered s = ⊥
IsLeft u is kinds.Named s = ⊥
IsLeft u is kinds.PhaseSet s = ⊥
IsLeft u is kinds.ModeSet s = ⊥
IsLeft u is kinds.DeadlineSet s = ⊥
IsLeft u is kinds.Dismissed s = ⊥
IsLeft u is kinds.Submitted s =
    s ≡ record (blank kinds.Submitted) {
      paper = s.paper;
      by = if is.announced then s.by else None;
      title = if is.serving || is.announced then s.title else None;
      abstract = if is.appearing then s.abstract else None;
    }
IsLeft u is kinds.Coauthor s =
    IsTrue (s.mine || is.announced) × (s ≡ record (only_own_marks kinds.Coauthor s) { user = s.user })
IsLeft u is kinds.Revised s =
    IsTrue (s.mine || is.serving || is.announced)
    × (s ≡ record (only_own_marks kinds.Revised s) {
      title = s.title;
      abstract = if s.mine || is.appearing then s.abstract else None;
    })
IsLeft u is kinds.Uploaded s =
    IsTrue (s.mine || is.appearing)
    × (s ≡ record (only_own_marks kinds.Uploaded s) { version = s.version; content = s.content })
IsLeft u is kinds.Withdrawn s =
    IsTrue (s.mine || is.serving) × (s ≡ only_own_marks kinds.Withdrawn s)
IsLeft u is kinds.Conflict s =
    IsTrue (s.mine || is_user u s.user) × (s ≡ record (only_own_marks kinds.Conflict s) { user = s.user; on = s.on })
IsLeft u is kinds.Bid s =
    IsTrue s.mine × (s ≡ record (only_own_marks kinds.Bid s) { value = s.value })
IsLeft u is kinds.Assigned s =
    IsTrue (s.mine || is_user u s.user || is.administering)
    × (s ≡ record (only_own_marks kinds.Assigned s) {
      user = s.user;
      review_kind = s.review_kind;
      ordinal = s.ordinal;
    })
IsLeft u is kinds.Unassigned s =
    IsTrue (s.mine || is_user u s.user || is.administering)
    × (s ≡ record (only_own_marks kinds.Unassigned s) { user = s.user; ordinal = s.ordinal })
IsLeft u is kinds.Invited s =
    IsTrue (s.mine || is_user u s.user || is.administering)
    × (s ≡ record (only_own_marks kinds.Invited s) { user = s.user })
IsLeft u is kinds.Uninvited s =
    IsTrue (s.mine || is_user u s.user || is.administering)
    × (s ≡ record (only_own_marks kinds.Uninvited s) { user = s.user })
IsLeft u is kinds.Reviewed s =
    IsTrue (s.mine || is.administering)
    × (s ≡ record (only_own_marks kinds.Reviewed s) {
      ordinal = s.ordinal;
      version = if s.mine then s.version else None;
      score = if s.mine then s.score else None;
      confidence = if s.mine then s.confidence else None;
      to_authors = if s.mine then s.to_authors else None;
      to_pc = if s.mine then s.to_pc else None;
      done = if is.administering then s.done else None;
    })
IsLeft u is kinds.Commented s =
    IsTrue s.mine × (s ≡ record (only_own_marks kinds.Commented s) { n = s.n; ordinal = s.ordinal; text = s.text })
IsLeft u is kinds.Responded s = IsTrue s.mine × (s ≡ record (only_own_marks kinds.Responded s) { text = s.text })
IsLeft u is kinds.Tagged s =
    IsTrue s.mine × (s ≡ record (only_own_marks kinds.Tagged s) { tag = s.tag; on = s.on })
IsLeft u is kinds.Decided s =
    IsTrue (s.mine || is.announced)
    × (s ≡ record (only_own_marks kinds.Decided s) {
      decision = if s.mine then s.decision else None;
      accepted = if is.announced then s.accepted else None;
    })

-- what IsLeft goes by, for this user and paper at the end of a history
abbrev pub outsider : Option ℕ → ℕ → History → Outsider
outsider u p H = record {
  serving = serves u H;
  administering = administers u p H;
  announced = is_in_programme p H;
  appearing = appears p H;
}

-- a user who isn't an author of the paper, isn't eligible for it and doesn't read it as an external is shown of it at
-- most what IsLeft has: a member in conflict, a user who is neither a member nor an external, and before the bidding
-- every user but its authors
abbrev pub OutsidersShown : Type 0
OutsidersShown =
    (u : Option ℕ) (p : ℕ) (H : History) → IsFalse (is_author u p H || is_eligible u p H || reads_visiting u p H)
    → All (λ (s : Sighting). IsTrue (is_number s.paper p) → IsLeft u (outsider u p H) s.kind s) (view u H)

-- ---- externals

-- what an external's reading of a paper goes by: whether the mode names its authors to them, and whether it is in the
-- programme
pub record Visit : Type 0 where
  pub naming : Bool
  pub announced : Bool

-- what an external who reads a paper is shown at most of a sighting of this kind on it that isn't the external's own
-- and doesn't name them: the last title and abstract, the last content, that it is withdrawn, its authors if they are
-- named or the paper is in the programme, and that a paper in the programme is accepted.
-- Never another's bid, comment, tag or form, nor a response, nor who else reviews it.
abbrev pub IsVisitors : Visit → EntryKind → Sighting → Type 0
IsVisitors is kinds.Submitted s =
    s ≡ record (blank kinds.Submitted) {
      paper = s.paper;
      by = if is.naming || is.announced then s.by else None;
      title = s.title;
      abstract = s.abstract;
    }
IsVisitors is kinds.Coauthor s =
    IsTrue (is.naming || is.announced) × (s ≡ record (blank kinds.Coauthor) { paper = s.paper; user = s.user })
IsVisitors is kinds.Revised s =
    s ≡ record (blank kinds.Revised) { paper = s.paper; title = s.title; abstract = s.abstract }
IsVisitors is kinds.Uploaded s =
    s ≡ record (blank kinds.Uploaded) { paper = s.paper; version = s.version; content = s.content }
IsVisitors is kinds.Withdrawn s = s ≡ record (blank kinds.Withdrawn) { paper = s.paper }
IsVisitors is kinds.Decided s =
    IsTrue is.announced × (s ≡ record (blank kinds.Decided) { paper = s.paper; accepted = Some true })
IsVisitors is _ s = ⊥

-- what IsVisitors goes by, for this paper at the end of a history
abbrev pub visit : ℕ → History → Visit
visit p H = record { naming = not (hides_authors (mode_of H)); announced = is_in_programme p H }

-- a user who reads a paper as an external is shown of it at most what IsVisitors has, besides the user's own entries
-- and those that name the user
abbrev pub ExternalsShown : Type 0
ExternalsShown =
    (u : Option ℕ) (p : ℕ) (H : History) → IsTrue (reads_visiting u p H)
    → All
    (λ (s : Sighting). IsTrue (is_number s.paper p) → IsFalse (s.mine || is_user u s.user)
    → IsVisitors (visit p H) s.kind s)
    (view u H)

-- ---- strangers, and unauthenticated callers

-- what is public of a sighting of this kind, by whether its paper is in the programme and whether it is published:
-- accounts with their names and roles, dismissals, phases, modes, deadlines, and the papers' numbers; of a paper in the
-- programme that it is accepted, its authors and its last title; of one that is published its last abstract and content
-- too
abbrev pub IsPublic : Bool → Bool → EntryKind → Sighting → Type 0
IsPublic announced appearing kinds.Registered s = s ≡ record (blank kinds.Registered) { user = s.user; name = s.name }
IsPublic announced appearing kinds.Named s = s ≡ record (blank kinds.Named) { user = s.user; role = s.role }
IsPublic announced appearing kinds.Dismissed s = s ≡ record (blank kinds.Dismissed) { user = s.user }
IsPublic announced appearing kinds.PhaseSet s = s ≡ record (blank kinds.PhaseSet) { phase = s.phase }
IsPublic announced appearing kinds.ModeSet s = s ≡ record (blank kinds.ModeSet) { mode = s.mode }
IsPublic announced appearing kinds.DeadlineSet s =
    s ≡ record (blank kinds.DeadlineSet) { phase = s.phase; until = s.until }
IsPublic announced appearing kinds.Submitted s =
    s ≡ record (blank kinds.Submitted) {
      paper = s.paper;
      by = if announced then s.by else None;
      title = if announced then s.title else None;
      abstract = if appearing then s.abstract else None;
    }
IsPublic announced appearing kinds.Coauthor s =
    IsTrue announced × (s ≡ record (blank kinds.Coauthor) { paper = s.paper; user = s.user })
IsPublic announced appearing kinds.Revised s =
    IsTrue announced
    × (s ≡ record (blank kinds.Revised) {
      paper = s.paper;
      title = s.title;
      abstract = if appearing then s.abstract else None;
    })
IsPublic announced appearing kinds.Uploaded s =
    IsTrue appearing
    × (s ≡ record (blank kinds.Uploaded) { paper = s.paper; version = s.version; content = s.content })
IsPublic announced appearing kinds.Withdrawn s = ⊥
IsPublic announced appearing kinds.Conflict s = ⊥
IsPublic announced appearing kinds.Bid s = ⊥
IsPublic announced appearing kinds.Assigned s = ⊥
IsPublic announced appearing kinds.Unassigned s = ⊥
IsPublic announced appearing kinds.Invited s = ⊥
IsPublic announced appearing kinds.Uninvited s = ⊥
IsPublic announced appearing kinds.Responded s = ⊥
IsPublic announced appearing kinds.Reviewed s = ⊥
IsPublic announced appearing kinds.Commented s = ⊥
IsPublic announced appearing kinds.Tagged s = ⊥
IsPublic announced appearing kinds.Decided s =
    IsTrue announced × (s ≡ record (blank kinds.Decided) { paper = s.paper; accepted = Some true })

-- the sighting shows at most what is public, by what became of its paper in the history
abbrev pub IsPublicIn : History → Sighting → Type 0
IsPublicIn H s = IsPublic (at_some (λ p. is_in_programme p H) s.paper) (at_some (λ p. appears p H) s.paper) s.kind s

-- the entry is on a paper, and names the user
abbrev pub names_user : Option ℕ → Entry → Bool
names_user u e = is_some (paper_about e) && at_some (is_number u) (user_about e)

-- the entry is one of those of which chairs in no conflict with the paper are told in every phase: an assignment, its
-- end, an invitation, its end, or a form
abbrev pub is_reviewing : Entry → Bool
is_reviewing (Assigned paper user review_kind ordinal) = true
is_reviewing (Unassigned paper user ordinal) = true
is_reviewing (Invited paper user) = true
is_reviewing (Uninvited paper user) = true
is_reviewing (Reviewed paper ordinal version form) = true
is_reviewing _ = false

-- the user is an author of no paper and doesn't serve, no entry on a paper names the user, and the user isn't a chair
-- if the history has an assignment, an invitation, an end of one, or a form
pub record IsStranger (u : Option ℕ) (H : History) : Type 0 where
  pub author : (p : ℕ) → IsFalse (is_author u p H)
  pub serving : IsFalse (serves u H)
  pub named : IsFalse (list_any (λ (e : Stamped). names_user u e.entry) H)
  pub leading : IsFalse (chairs_committee (role_of u H) && list_any (λ (e : Stamped). is_reviewing e.entry) H)

-- a user who isn't on the committee, and neither an author nor an external of the paper, is shown of it at most what is
-- public, besides the user's own entries and those that name the user
abbrev pub AccountsShown : Type 0
AccountsShown =
    (u : Option ℕ) (p : ℕ) (H : History) → IsFalse (is_on_committee (role_of u H) || is_author u p H || visits u p H)
    → All
    (λ (s : Sighting). IsTrue (is_number s.paper p) → IsFalse (s.mine || is_user u s.user) → IsPublicIn H s)
    (view u H)

-- a stranger is shown at most what is public, besides the user's own entries
abbrev pub StrangersShown : Type 0
StrangersShown =
    (u : Option ℕ) (H : History) → IsStranger u H → All (λ (s : Sighting). IsFalse s.mine → IsPublicIn H s) (view u H)

-- an unauthenticated caller is shown at most what is public
abbrev pub NobodyShown : Type 0
NobodyShown = (H : History) → All (λ (s : Sighting). IsPublicIn H s) (view None H)
