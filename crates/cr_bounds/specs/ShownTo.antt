-- SPDX-License-Identifier: Apache-2.0 OR MIT
-- Who is shown which part of an entry: a paragraph for each part, and in it a line for each kind of entry that has it.
-- It is a second statement of the visibility policy (the trigger table), by parts instead of by readers, in a
-- committee's terms. Who sees titles, abstracts, authors, review preferences, reviewers, reviews, comments, tags and
-- decisions is the HotCRP manual's; from which phase on follows CoCon's phases (CAV 2014). It rests on facts of the
-- history (phase, mode, roles, authors, declared conflicts, withdrawals, decisions) and on no definition of the policy
-- or of a paper's page. Who is on the committee, who is in conflict, when the bidding begins, what a mode hides and
-- whom a tag is for are defined here once more: a definition that is changed there, and shows more, is refused here.
use Rattle.std.specs.Prelude.{ℕ, Bool, true, false, not, List, [], ◌∷◌, ◌++◌, Option}
use Rattle.std.specs.Prelude.{Some, None, unwrap_or, ◌&&◌, ◌||◌, ◌==◌, if◌then◌else◌}
use Rattle.std.specs.List.{list_any}
use Rattle.cr_base.specs.declared.entry.Entry.{Entry}
use Rattle.cr_base.specs.declared.entry.Entry.TheVariants.{Registered, Named, PhaseSet, ModeSet, Submitted}
use Rattle.cr_base.specs.declared.entry.Entry.TheVariants.{Coauthor, Revised, Uploaded, Withdrawn, Conflict}
use Rattle.cr_base.specs.declared.entry.Entry.TheVariants.{Bid, Assigned, Unassigned, Reviewed}
use Rattle.cr_base.specs.declared.entry.Entry.TheVariants.{Commented, Tagged, Decided, DeadlineSet}
use Rattle.cr_base.specs.declared.entry.Entry.TheVariants.{Dismissed, Invited, Uninvited, Responded}
use Rattle.cr_base.specs.declared.entry.EntryKind.{EntryKind}
use Rattle.cr_base.specs.declared.entry.Stamped.{Stamped}
use Rattle.cr_base.specs.declared.entry.Stamp.{Stamp}
use Rattle.cr_base.specs.declared.retry.RetryKey.{RetryKey}
use Rattle.cr_base.specs.declared.words.Decision.{Decision}
use Rattle.cr_base.specs.declared.words.Decision.TheVariants.{Accept, Reject}
use Rattle.cr_base.specs.declared.words.Kind.{Kind}
use Rattle.cr_base.specs.declared.words.Phase.{Phase}
use Rattle.cr_base.specs.declared.words.Phase.TheVariants.{Bidding, Reviewing, Response, Discussion, Notification}
use Rattle.cr_base.specs.declared.words.Phase.TheVariants.{Closed}
use Rattle.cr_base.specs.declared.words.Mode.{Mode}
use Rattle.cr_base.specs.declared.words.Mode.TheVariants.{Overt, Blind, Anonymous}
use Rattle.cr_base.specs.declared.words.Role.{Role}
use Rattle.cr_base.specs.declared.words.Role.TheVariants.{Account, Member, Chair}
use Rattle.cr_base.specs.Lists.{given, is_number, until}
use Rattle.cr_base.specs.History.{History, paper_about}
use Rattle.cr_base.specs.HistoryFacts.{phase_of, mode_of, role_of, is_author}
use Rattle.cr_base.specs.HistoryFacts.{is_conflict_on, is_invited, is_withdrawn, decision_of}
use Rattle.cr_base.specs.Rows.{kind_of}

-- ---- who reads

-- a user of this role is a member of the committee; chairs are members
abbrev pub is_on_committee : Role → Bool
is_on_committee Account = false
is_on_committee Member = true
is_on_committee Chair = true

-- a user of this role is a chair
abbrev pub chairs_committee : Role → Bool
chairs_committee Account = false
chairs_committee Member = false
chairs_committee Chair = true

-- the conference is closed
abbrev pub is_over : Phase → Bool
is_over Closed = true
is_over _ = false

-- the phase is the notification or later
abbrev pub is_past_discussion : Phase → Bool
is_past_discussion Notification = true
is_past_discussion phase = is_over phase

-- the phase is the discussion or later
abbrev pub is_past_reviewing : Phase → Bool
is_past_reviewing Discussion = true
is_past_reviewing phase = is_past_discussion phase

-- the phase is the response or later, whether it was opened or left out
abbrev pub is_response_or_later : Phase → Bool
is_response_or_later Response = true
is_response_or_later phase = is_past_reviewing phase

-- the phase is bidding or later
abbrev pub is_past_submission : Phase → Bool
is_past_submission Bidding = true
is_past_submission Reviewing = true
is_past_submission phase = is_response_or_later phase

-- in this mode members and externals aren't told who wrote a paper
abbrev pub hides_authors : Mode → Bool
hides_authors Overt = false
hides_authors Blind = false
hides_authors Anonymous = true

-- in this mode members and externals aren't told who reviews, except chairs
abbrev pub hides_reviewers : Mode → Bool
hides_reviewers Overt = false
hides_reviewers Blind = false
hides_reviewers Anonymous = true

-- in this mode a paper's authors are told who reviewed it, from the notification on
abbrev pub names_reviewers : Mode → Bool
names_reviewers Overt = true
names_reviewers Blind = false
names_reviewers Anonymous = false

-- the user wrote the paper, or is declared in conflict with it
abbrev pub has_conflict : Option ℕ → ℕ → History → Bool
has_conflict u p H = is_author u p H || is_conflict_on u p H

-- the user is on the committee, and the phase is bidding or later
abbrev pub serves : Option ℕ → History → Bool
serves u H = is_on_committee (role_of u H) && is_past_submission (phase_of H)

-- the user serves, and is in no conflict with the paper
abbrev pub is_eligible : Option ℕ → ℕ → History → Bool
is_eligible u p H = serves u H && not (has_conflict u p H)

-- the user is an external of the paper: invited to it, and not on the committee
abbrev pub visits : Option ℕ → ℕ → History → Bool
visits u p H = not (is_on_committee (role_of u H)) && is_invited u p H

-- the user is an external of the paper and in no conflict with it, and the phase is bidding or later
abbrev pub reads_visiting : Option ℕ → ℕ → History → Bool
reads_visiting u p H = visits u p H && not (has_conflict u p H) && is_past_submission (phase_of H)

-- the user may read the paper to judge it: is eligible for it, or reads it as an external
abbrev pub reads_to_judge : Option ℕ → ℕ → History → Bool
reads_to_judge u p H = is_eligible u p H || reads_visiting u p H

-- the user is eligible for the paper, and is a chair
abbrev pub oversees : Option ℕ → ℕ → History → Bool
oversees u p H = is_eligible u p H && chairs_committee (role_of u H)

-- the user is a chair in no conflict with the paper, in any phase
abbrev pub administers : Option ℕ → ℕ → History → Bool
administers u p H = chairs_committee (role_of u H) && not (has_conflict u p H)

-- the user is eligible for the paper, and the phase is the discussion or later
abbrev pub discusses : Option ℕ → ℕ → History → Bool
discusses u p H = is_eligible u p H && is_past_reviewing (phase_of H)

-- the user is an author of the paper who is told its reviewers: in the open mode, from the notification on
abbrev pub is_answered : Option ℕ → ℕ → History → Bool
is_answered u p H = is_author u p H && names_reviewers (mode_of H) && is_past_discussion (phase_of H)

-- the user is an author of the paper, and the phase is the response or later
abbrev pub is_author_since_response : Option ℕ → ℕ → History → Bool
is_author_since_response u p H = is_author u p H && is_response_or_later (phase_of H)

-- the user is an author of the paper, and the phase is the notification or later
abbrev pub is_notified : Option ℕ → ℕ → History → Bool
is_notified u p H = is_author u p H && is_past_discussion (phase_of H)

-- the decision is to accept; no decision isn't
abbrev pub takes : Option Decision → Bool
takes None = false
takes (Some Accept) = true
takes (Some Reject) = false

-- the paper is in the programme: the last decision on it is to accept it, it isn't withdrawn, and the phase is the
-- notification or later
abbrev pub is_in_programme : ℕ → History → Bool
is_in_programme p H = takes (decision_of p H) && not (is_withdrawn p H) && is_past_discussion (phase_of H)

-- the paper is published, for everyone to read: it is in the programme, and the conference is closed
abbrev pub appears : ℕ → History → Bool
appears p H = is_in_programme p H && is_over (phase_of H)

-- the user, who discusses a paper, is told who comments on it: a chair always, other members unless the mode hides
-- reviewers
abbrev pub knows_writers : Option ℕ → History → Bool
knows_writers u H = chairs_committee (role_of u H) || not (hides_reviewers (mode_of H))

-- ---- which entries a user is told of

-- the entry gives the paper a title and an abstract
abbrev pub gives_texts : ℕ → Entry → Bool
gives_texts p (Submitted paper title abstract) = paper == p
gives_texts p (Revised paper title abstract) = paper == p
gives_texts p _ = false

-- one of these later entries gives the paper another title and abstract
abbrev pub is_replaced : ℕ → History → Bool
is_replaced p later = list_any (λ (e : Stamped). gives_texts p e.entry) later

-- the entry gives the paper a version of its content
abbrev pub gives_content : ℕ → Entry → Bool
gives_content p (Uploaded paper version content) = paper == p
gives_content p _ = false

-- one of these later entries gives the paper another version of its content
abbrev pub is_superseded : ℕ → History → Bool
is_superseded p later = list_any (λ (e : Stamped). gives_content p e.entry) later

-- the entry is a decision on the paper
abbrev pub decides : ℕ → Entry → Bool
decides p (Decided paper decision) = paper == p
decides p _ = false

-- one of these later entries is another decision on the paper
abbrev pub is_decided_again : ℕ → History → Bool
is_decided_again p later = list_any (λ (e : Stamped). decides p e.entry) later

-- the entry is a form (a version of a review) under the paper's label of this ordinal
abbrev pub gives_form : ℕ → ℕ → Entry → Bool
gives_form p o (Reviewed paper ordinal version form) = paper == p && ordinal == o
gives_form p o _ = false

-- one of these entries is a form under the paper's label of this ordinal
abbrev pub is_reviewed : ℕ → ℕ → History → Bool
is_reviewed p o H = list_any (λ (e : Stamped). gives_form p o e.entry) H

-- the phase is the discussion
abbrev pub is_discussion : Phase → Bool
is_discussion Discussion = true
is_discussion _ = false

-- the entry sets the phase to the discussion
abbrev pub begins_discussion : Entry → Bool
begins_discussion (PhaseSet phase) = is_discussion phase
begins_discussion _ = false

-- a form under the paper's label of this ordinal, between these earlier and later entries, is one that the committee
-- discusses: it was written once the discussion had begun, or is the last of its label before that
abbrev pub is_discussed : ℕ → ℕ → History → History → Bool
is_discussed p o before later =
    list_any (λ (e : Stamped). begins_discussion e.entry) before
    || not (is_reviewed p o (until (λ (e : Stamped). begins_discussion e.entry) later))

-- the phase is the response
abbrev pub is_response : Phase → Bool
is_response Response = true
is_response _ = false

-- the entry sets the phase to the response
abbrev pub begins_response : Entry → Bool
begins_response (PhaseSet phase) = is_response phase
begins_response _ = false

-- a form under the paper's label of this ordinal, between these earlier and later entries, is one to which authors
-- respond: the response begins after it, and it is the last of its label before that
abbrev pub is_responded_to : ℕ → ℕ → History → History → Bool
is_responded_to p o before later =
    not (list_any (λ (e : Stamped). begins_response e.entry) before)
    && list_any (λ (e : Stamped). begins_response e.entry) later
    && not (is_reviewed p o (until (λ (e : Stamped). begins_response e.entry) later))

-- the user reads all of the form: wrote it, or discusses it
abbrev pub reads_form : Option ℕ → History → History → History → ℕ → ℕ → ℕ → Bool
reads_form u H before later maker paper ordinal =
    is_number u maker || (discusses u paper H && is_discussed paper ordinal before later)

-- the user reads of the form what is for authors: it is the one of its label to which they respond, and the phase is
-- the response or later; or it is the label's last, and the user is notified
abbrev pub learns_form : Option ℕ → History → History → History → ℕ → ℕ → Bool
learns_form u H before later paper ordinal =
    (is_author_since_response u paper H && is_responded_to paper ordinal before later)
    || (is_notified u paper H && not (is_reviewed paper ordinal later))

-- the user is told that there is a form under the label: it is the first, and the user administers the paper
abbrev pub counts_form : Option ℕ → History → History → ℕ → ℕ → Bool
counts_form u H before paper ordinal = administers u paper H && not (is_reviewed paper ordinal before)

-- the tag is the committee's: it doesn't begin with `~`
abbrev pub is_committees : List ℕ → Bool
is_committees [] = true
is_committees (a ∷ tag) = not (a == 126)

-- the tag is the chairs': it begins with `~~`
abbrev pub is_chairs : List ℕ → Bool
is_chairs (a ∷ b ∷ tag) = a == 126 && b == 126
is_chairs _ = false

-- the tag is its setter's own: it begins with one `~`
abbrev pub is_setters : List ℕ → Bool
is_setters tag = not (is_committees tag) && not (is_chairs tag)

-- the user reads the tag: the committee's, if eligible for the paper; the chairs', if overseeing it
abbrev pub reads_tag : Option ℕ → History → ℕ → List ℕ → Bool
reads_tag u H paper tag = (is_committees tag && is_eligible u paper H) || (is_chairs tag && oversees u paper H)

-- the user reads the decision on a paper: made it, or discusses the paper
abbrev pub reads_decision : Option ℕ → History → ℕ → ℕ → Bool
reads_decision u H maker paper = is_number u maker || discusses u paper H

-- the user learns what became of their own paper: by the last decision, if notified
abbrev pub learns_outcome : Option ℕ → History → History → ℕ → Bool
learns_outcome u H later paper = not (is_decided_again paper later) && is_notified u paper H

-- everyone learns that a paper is in the programme: by the last decision on it
abbrev pub is_announced : History → History → ℕ → Bool
is_announced H later paper = not (is_decided_again paper later) && is_in_programme paper H

-- the user made the entry, or is an author of its paper
abbrev pub owns : Option ℕ → History → ℕ → ℕ → Bool
owns u H maker paper = is_number u maker || is_author u paper H

-- the user is told all of an assignment, and of an invitation, in every phase: is assigned or invited, made the
-- entry, or administers the paper
abbrev pub is_party : Option ℕ → History → ℕ → ℕ → ℕ → Bool
is_party u H maker paper user = is_number u user || is_number u maker || administers u paper H

-- the user is told of an entry that this maker added between these earlier and later ones, H being the whole history.
-- Of accounts, roles, dismissals, phases, modes, deadlines and submissions: of all.
-- Of each other entry the user who made it is told; besides, of an entry on a paper:
-- a co-author: its authors; those who oversee it; those who may read it to judge it, unless the mode hides authors;
-- everyone, if it is in the programme;
-- a revision: its authors; of the last one also those who serve or read it as externals, and everyone if it is in the
-- programme;
-- an upload: its authors; of the last one also those who may read it to judge it, and everyone if it appears;
-- a withdrawal: its authors; those who serve or read it as externals;
-- a conflict: the user that it names; its authors, if an author made it; those who oversee it;
-- a bid: those who oversee it;
-- an assignment, or its end: the user assigned; those who administer or discuss it; its authors, if they are told its
-- reviewers;
-- an invitation, or its end: the user invited; those who administer it;
-- a form: if it is the first of its label, those who administer the paper; if it is discussed, those who discuss the
-- paper; if it is the one to which they respond, the paper's authors from the response on; if it is the last of its
-- label, the paper's authors from the notification on;
-- a comment: those who discuss it;
-- a response: its authors; those who discuss it;
-- a tag: those who read the tag;
-- a decision: those who discuss it; of the last one also its authors from the notification on, and everyone if it is in
-- the programme
abbrev pub is_told : Option ℕ → History → History → History → ℕ → Entry → Bool
is_told u H before later maker (Registered user name digest) = true
is_told u H before later maker (Named user role) = true
is_told u H before later maker (PhaseSet phase) = true
is_told u H before later maker (ModeSet mode) = true
is_told u H before later maker (Submitted paper title abstract) = true
is_told u H before later maker (Coauthor paper user) =
    owns u H maker paper
    || oversees u paper H
    || (reads_to_judge u paper H && not (hides_authors (mode_of H)))
    || is_in_programme paper H
is_told u H before later maker (Revised paper title abstract) =
    owns u H maker paper
    || (not (is_replaced paper later) && (serves u H || reads_visiting u paper H || is_in_programme paper H))
is_told u H before later maker (Uploaded paper version content) =
    owns u H maker paper || (not (is_superseded paper later) && (reads_to_judge u paper H || appears paper H))
is_told u H before later maker (Withdrawn paper) = owns u H maker paper || serves u H || reads_visiting u paper H
is_told u H before later maker (Conflict paper user on) =
    is_number u user
    || is_number u maker
    || (is_author u paper H && is_author (Some maker) paper H)
    || oversees u paper H
is_told u H before later maker (Bid paper value) = is_number u maker || oversees u paper H
is_told u H before later maker (Assigned paper user review_kind ordinal) =
    is_party u H maker paper user || discusses u paper H || is_answered u paper H
is_told u H before later maker (Unassigned paper user ordinal) =
    is_party u H maker paper user || discusses u paper H || is_answered u paper H
is_told u H before later maker (Reviewed paper ordinal version form) =
    reads_form u H before later maker paper ordinal
    || counts_form u H before paper ordinal
    || learns_form u H before later paper ordinal
is_told u H before later maker (Commented paper n ordinal text) = is_number u maker || discusses u paper H
is_told u H before later maker (Tagged paper tag on) = is_number u maker || reads_tag u H paper tag
is_told u H before later maker (Decided paper decision) =
    reads_decision u H maker paper || learns_outcome u H later paper || is_announced H later paper
is_told u H before later maker (DeadlineSet phase until) = true
is_told u H before later maker (Dismissed user) = true
is_told u H before later maker (Invited paper user) = is_party u H maker paper user
is_told u H before later maker (Uninvited paper user) = is_party u H maker paper user
is_told u H before later maker (Responded paper text) = owns u H maker paper || discusses u paper H

-- ---- the parts of an entry of which a user is told

-- what a user is told of one part of an entry: a function of the user, the whole history, the entries before and after
-- this one, its stamp, and the entry
abbrev pub PartFor : Type 0 → Type 0
PartFor A = Option ℕ → History → History → History → Stamp → Entry → A

-- the part, if the user may know it
abbrev pub where_known : {A : Type 0} → Bool → A → Option A
where_known known x = if known then Some x else None

-- the kind: always
abbrev pub kind_for : PartFor EntryKind
kind_for u H before later stamp e = kind_of e

-- the mark that the entry is the user's own: always
abbrev pub mark_for : PartFor Bool
mark_for u H before later stamp e = is_number u stamp.maker

-- the timestamp: to the user who made the entry
abbrev pub moment_for : PartFor (Option ℕ)
moment_for u H before later stamp e = where_known (is_number u stamp.maker) stamp.at

-- the command's number, or that it has none, and the request's digest: to the user who made the entry
abbrev pub key_for : PartFor (Option (Option RetryKey))
key_for u H before later stamp e = where_known (is_number u stamp.maker) stamp.key

-- the paper's number: always
abbrev pub paper_for : PartFor (Option ℕ)
paper_for u H before later stamp (Submitted paper title abstract) = Some paper
paper_for u H before later stamp e = paper_about e

-- who reviews a paper: to the user assigned, the user who made the entry, those who administer the paper, its authors
-- if they are told its reviewers, and those who discuss the paper unless the mode hides reviewers
abbrev pub reviewer_for : Option ℕ → History → ℕ → ℕ → ℕ → Option ℕ
reviewer_for u H maker paper user =
    where_known (is_party u H maker paper user || (discusses u paper H && not (hides_reviewers (mode_of H)))
    || is_answered u paper H) user

-- the user who is registered, appointed to a role or dismissed, named as a co-author or in a conflict, invited, or
-- whose invitation ended: always; the user who is assigned or unassigned: as `reviewer_for` says
abbrev pub user_for : PartFor (Option ℕ)
user_for u H before later stamp (Registered user name digest) = Some user
user_for u H before later stamp (Named user role) = Some user
user_for u H before later stamp (Dismissed user) = Some user
user_for u H before later stamp (Invited paper user) = Some user
user_for u H before later stamp (Uninvited paper user) = Some user
user_for u H before later stamp (Coauthor paper user) = Some user
user_for u H before later stamp (Conflict paper user on) = Some user
user_for u H before later stamp (Assigned paper user review_kind ordinal) = reviewer_for u H stamp.maker paper user
user_for u H before later stamp (Unassigned paper user ordinal) = reviewer_for u H stamp.maker paper user
user_for u H before later stamp _ = None

-- a user's name: always
abbrev pub name_for : PartFor (Option (List ℕ))
name_for u H before later stamp (Registered user name digest) = Some name
name_for u H before later stamp _ = None

-- the digest of a secret: to the user who made the registration
abbrev pub digest_for : PartFor (Option (List ℕ))
digest_for u H before later stamp (Registered user name digest) = where_known (is_number u stamp.maker) digest
digest_for u H before later stamp _ = None

-- a role: always
abbrev pub role_for : PartFor (Option Role)
role_for u H before later stamp (Named user role) = Some role
role_for u H before later stamp _ = None

-- a phase, and one whose deadline is set: always
abbrev pub phase_for : PartFor (Option Phase)
phase_for u H before later stamp (PhaseSet phase) = Some phase
phase_for u H before later stamp (DeadlineSet phase until) = Some phase
phase_for u H before later stamp _ = None

-- a deadline, or that there is none any more: always
abbrev pub until_for : PartFor (Option (Option ℕ))
until_for u H before later stamp (DeadlineSet phase until) = Some until
until_for u H before later stamp _ = None

-- a mode: always
abbrev pub mode_for : PartFor (Option Mode)
mode_for u H before later stamp (ModeSet mode) = Some mode
mode_for u H before later stamp _ = None

-- the user who made the entry. Of a submission: to the paper's authors, to those who oversee it, to those who may read
-- it to judge it unless the mode hides authors, and to everyone if it is in the programme.
-- Of a bid: to those who oversee the paper. Of a comment: to those who discuss the paper and are told who comments
-- (`knows_writers`). Of any other entry: to no user.
abbrev pub maker_for : PartFor (Option ℕ)
maker_for u H before later stamp (Submitted paper title abstract) =
    where_known (is_author u paper H || oversees u paper H
    || (reads_to_judge u paper H && not (hides_authors (mode_of H))) || is_in_programme paper H) stamp.maker
maker_for u H before later stamp (Bid paper value) = where_known (oversees u paper H) stamp.maker
maker_for u H before later stamp (Commented paper n ordinal text) =
    where_known (discusses u paper H && knows_writers u H) stamp.maker
maker_for u H before later stamp _ = None

-- a title: to the paper's authors and to the user who made the entry; the last one also to those who serve or read the
-- paper as externals, and to everyone if it is in the programme
abbrev pub title_for : PartFor (Option (List ℕ))
title_for u H before later stamp (Submitted paper title abstract) =
    where_known (is_author u paper H
    || (not (is_replaced paper later) && (serves u H || reads_visiting u paper H || is_in_programme paper H))) title
title_for u H before later stamp (Revised paper title abstract) =
    where_known (owns u H stamp.maker paper
    || (not (is_replaced paper later) && (serves u H || reads_visiting u paper H || is_in_programme paper H))) title
title_for u H before later stamp _ = None

-- an abstract: to the paper's authors and to the user who made the entry; the last one also to those who may read the
-- paper to judge it, and to everyone if it appears
abbrev pub abstract_for : PartFor (Option (List ℕ))
abstract_for u H before later stamp (Submitted paper title abstract) =
    where_known (is_author u paper H
    || (not (is_replaced paper later) && (reads_to_judge u paper H || appears paper H))) abstract
abstract_for u H before later stamp (Revised paper title abstract) =
    where_known (owns u H stamp.maker paper
    || (not (is_replaced paper later) && (reads_to_judge u paper H || appears paper H))) abstract
abstract_for u H before later stamp _ = None

-- the number of a version of a content: to the paper's authors and to the user who made the entry; the last one also to
-- those who may read the paper to judge it, and to everyone if it appears. The number of a form among those under its
-- label: to those who read all of the form.
abbrev pub version_for : PartFor (Option ℕ)
version_for u H before later stamp (Uploaded paper version content) =
    where_known (owns u H stamp.maker paper
    || (not (is_superseded paper later) && (reads_to_judge u paper H || appears paper H))) version
version_for u H before later stamp (Reviewed paper ordinal version form) =
    where_known (reads_form u H before later stamp.maker paper ordinal) version
version_for u H before later stamp _ = None

-- a content: to the users to whom `version_for` shows its number
abbrev pub content_for : PartFor (Option (List ℕ))
content_for u H before later stamp (Uploaded paper version content) =
    where_known (owns u H stamp.maker paper
    || (not (is_superseded paper later) && (reads_to_judge u paper H || appears paper H))) content
content_for u H before later stamp _ = None

-- whether a conflict, or a tag, is on: always
abbrev pub switch_for : PartFor (Option Bool)
switch_for u H before later stamp (Conflict paper user on) = Some on
switch_for u H before later stamp (Tagged paper tag on) = Some on
switch_for u H before later stamp _ = None

-- a bid: always
abbrev pub value_for : PartFor (Option ℕ)
value_for u H before later stamp (Bid paper value) = Some value
value_for u H before later stamp _ = None

-- whether a reviewer is the primary, the secondary or another: to the user assigned, the user who made the entry, and
-- those who administer or discuss the paper
abbrev pub review_kind_for : PartFor (Option Kind)
review_kind_for u H before later stamp (Assigned paper user review_kind ordinal) =
    where_known (is_party u H stamp.maker paper user || discusses u paper H) review_kind
review_kind_for u H before later stamp _ = None

-- the ordinal of a label. Of an assignment, its end and a form: always. Of a comment: to its maker, and to those who
-- discuss the paper and aren't told who comments.
abbrev pub ordinal_for : PartFor (Option ℕ)
ordinal_for u H before later stamp (Assigned paper user review_kind ordinal) = Some ordinal
ordinal_for u H before later stamp (Unassigned paper user ordinal) = Some ordinal
ordinal_for u H before later stamp (Reviewed paper ordinal version form) = Some ordinal
ordinal_for u H before later stamp (Commented paper n ordinal text) =
    where_known (is_number u stamp.maker || (discusses u paper H && not (knows_writers u H))) (unwrap_or ordinal 0)
ordinal_for u H before later stamp _ = None

-- the user is told the score, the confidence and the text to the authors of a form: the user reads all of it, or is an
-- author who learns of it
abbrev pub reads_review : Option ℕ → History → History → History → ℕ → ℕ → ℕ → Bool
reads_review u H before later maker paper ordinal =
    reads_form u H before later maker paper ordinal || learns_form u H before later paper ordinal

-- a form's score: to those for whom `reads_review` holds
abbrev pub score_for : PartFor (Option ℕ)
score_for u H before later stamp (Reviewed paper ordinal version form) =
    where_known (reads_review u H before later stamp.maker paper ordinal) form.score
score_for u H before later stamp _ = None

-- a form's confidence: to those for whom `reads_review` holds
abbrev pub confidence_for : PartFor (Option ℕ)
confidence_for u H before later stamp (Reviewed paper ordinal version form) =
    where_known (reads_review u H before later stamp.maker paper ordinal) form.confidence
confidence_for u H before later stamp _ = None

-- a form's text to the authors: to those for whom `reads_review` holds
abbrev pub to_authors_for : PartFor (Option (List ℕ))
to_authors_for u H before later stamp (Reviewed paper ordinal version form) =
    where_known (reads_review u H before later stamp.maker paper ordinal) form.to_authors
to_authors_for u H before later stamp _ = None

-- a form's text to the committee: to those who read all of the form
abbrev pub to_pc_for : PartFor (Option (List ℕ))
to_pc_for u H before later stamp (Reviewed paper ordinal version form) =
    where_known (reads_form u H before later stamp.maker paper ordinal) form.to_pc
to_pc_for u H before later stamp _ = None

-- the mark that there is a form under a label: of its first form, to those who administer the paper
abbrev pub done_for : PartFor (Option Bool)
done_for u H before later stamp (Reviewed paper ordinal version form) =
    where_known (counts_form u H before paper ordinal) true
done_for u H before later stamp _ = None

-- a comment's number: always
abbrev pub n_for : PartFor (Option ℕ)
n_for u H before later stamp (Commented paper n ordinal text) = Some n
n_for u H before later stamp _ = None

-- the text of a comment or a response: always
abbrev pub text_for : PartFor (Option (List ℕ))
text_for u H before later stamp (Commented paper n ordinal text) = Some text
text_for u H before later stamp (Responded paper text) = Some text
text_for u H before later stamp _ = None

-- a tag: always
abbrev pub tag_for : PartFor (Option (List ℕ))
tag_for u H before later stamp (Tagged paper tag on) = Some tag
tag_for u H before later stamp _ = None

-- a decision: to those who read it, and to authors who learn of it
abbrev pub decision_for : PartFor (Option Decision)
decision_for u H before later stamp (Decided paper decision) =
    where_known (reads_decision u H stamp.maker paper || learns_outcome u H later paper) decision
decision_for u H before later stamp _ = None

-- the mark that a decision is what became of a paper: to its authors who learn of it
abbrev pub outcome_for : PartFor (Option Bool)
outcome_for u H before later stamp (Decided paper decision) = where_known (learns_outcome u H later paper) true
outcome_for u H before later stamp _ = None

-- the mark that a paper is accepted: to everyone, if it is in the programme
abbrev pub accepted_for : PartFor (Option Bool)
accepted_for u H before later stamp (Decided paper decision) = where_known (is_announced H later paper) true
accepted_for u H before later stamp _ = None

-- ---- all entries

-- this part of each of the later entries of which the user is told, in order; the other entries come before these, and
-- H is the whole history
abbrev pub each_told : {A : Type 0} → Option ℕ → History → (History → History → Stamp → Entry → A)
    → History → History → List A
each_told u H part before [] = []
each_told u H part before (e ∷ later) =
    given (is_told u H before later e.stamp.maker e.entry) (part before later e.stamp e.entry)
    ++ each_told u H part (before ++ e ∷ []) later
