-- SPDX-License-Identifier: Apache-2.0 OR MIT
-- Told of every part: each part that each sighting of a view shows is told by an answer, or left out for a reason that
-- is named here. First it is said when an answer tells a part, kind by kind, then what is left out.
use Rattle.std.specs.Prelude.{ℕ, Bool, true, false, not, ◌≡◌, ◌==◌, ◌&&◌, ◌||◌, List, [], ◌∷◌}
use Rattle.std.specs.Prelude.{◌++◌, Option, Some, None, is_some, is_none, unwrap_or, IsTrue, nat_eq, if◌then◌else◌}
use Rattle.std.specs.Option.{option_map, option_and_then}
use Rattle.std.specs.List.{flat_map, list_any}
use Rattle.std.specs.Str.{bytes_eq}
use Rattle.cr_base.specs.declared.accepted.AcceptedPaper.{AcceptedPaper}
use Rattle.cr_base.specs.declared.command.Query.TheVariants as queries
use Rattle.cr_base.specs.declared.comment.CommentLine.{CommentLine}
use Rattle.cr_base.specs.declared.deadline.PhaseDeadline.{PhaseDeadline}
use Rattle.cr_base.specs.declared.entry.EntryKind.{EntryKind}
use Rattle.cr_base.specs.declared.entry.EntryKind.TheVariants as kinds
use Rattle.cr_base.specs.declared.me.Me.{Me}
use Rattle.cr_base.specs.declared.page.Page.{Page}
use Rattle.cr_base.specs.declared.reply.AccountLine.{AccountLine}
use Rattle.cr_base.specs.declared.reply.Conference.{Conference}
use Rattle.cr_base.specs.declared.reply.Reply.{Reply}
use Rattle.cr_base.specs.declared.reply.Reply.TheVariants as replies
use Rattle.cr_base.specs.declared.review.ReviewLine.{ReviewLine}
use Rattle.cr_base.specs.declared.words.Decision.{Decision}
use Rattle.cr_base.specs.declared.words.Kind.{Kind}
use Rattle.cr_base.specs.declared.words.Mode.{Mode}
use Rattle.cr_base.specs.declared.words.Phase.TheVariants.{Setup}
use Rattle.cr_base.specs.declared.words.Role.{Role}
use Rattle.cr_base.specs.declared.words.Role.TheVariants.{Account}
use Rattle.cr_base.specs.Lists.{listed, is_nothing, is_number, until}
use Rattle.cr_base.specs.History.{History}
use Rattle.cr_base.specs.HistoryFacts.{role_of, is_author, declared_by_authors}
use Rattle.cr_base.specs.Phases.{is_phase}
use Rattle.cr_base.specs.Words.{decision_number, mode_number, role_number, review_kind_number}
use Rattle.cr_policy.specs.Judge.{answer}
use Rattle.cr_policy.specs.Legal.{Legal}
use Rattle.cr_policy.specs.Part as part
use Rattle.cr_policy.specs.Part.{Part}
use Rattle.cr_policy.specs.Sighting.{Sighting}
use Rattle.cr_policy.specs.View.{View, view}
use Rattle.cr_policy.specs.ViewFacts.{only, is_user, is_kind, discussion_seen}
use Rattle.cr_bounds.specs.ShownTo.{is_on_committee, chairs_committee, is_chairs, reads_to_judge}
use Rattle.cr_told.specs.ToldPages.{shown_on, page_told, shown_of}
use Rattle.cr_told.specs.ToldPages.{bids_shown_of, own_bids_shown, ordinal_by, invitation_by, is_shown_accepted}
use Rattle.cr_told.specs.ToldLists.{name_shown, is_left, knows_reviewers, comments_answered, response_answered}
use Rattle.cr_told.specs.ToldLists.{content_answered, accepted_answered, me_answered}
use Rattle.cr_told.specs.ToldPlaces.{is_left_behind, is_conflict_behind, is_seat_behind, is_form_behind}
use Rattle.cr_told.specs.ToldReviews.{reviews_answered}
use Rattle.cr_told.specs.ToldPublic.{all_shown, phases_shown, deadlines_shown, roles_shown}

-- the sighting shows this part
abbrev pub has : Part → Sighting → Bool
has part.user s = is_some s.user
has part.name s = is_some s.name
has part.digest s = is_some s.digest
has part.role s = is_some s.role
has part.phase s = is_some s.phase
has part.mode s = is_some s.mode
has part.by s = is_some s.by
has part.title s = is_some s.title
has part.abstract s = is_some s.abstract
has part.version s = is_some s.version
has part.content s = is_some s.content
has part.on s = is_some s.on
has part.value s = is_some s.value
has part.review_kind s = is_some s.review_kind
has part.ordinal s = is_some s.ordinal
has part.score s = is_some s.score
has part.confidence s = is_some s.confidence
has part.to_authors s = is_some s.to_authors
has part.to_pc s = is_some s.to_pc
has part.done s = is_some s.done
has part.n s = is_some s.n
has part.text s = is_some s.text
has part.tag s = is_some s.tag
has part.decision s = is_some s.decision
has part.outcome s = is_some s.outcome
has part.accepted s = is_some s.accepted
has part.at s = is_some s.at
has part.until s = is_some s.until
has part.key s = is_some s.key

-- ---- when an answer tells a part

-- both values are there, and are equal by this test
abbrev pub agree : {A : Type 0} → (A → A → Bool) → Option A → Option A → Bool
agree same (Some x) (Some y) = same x y
agree same _ _ = false

-- the list is answered, and this holds of one of its values
abbrev pub lists : {A : Type 0} → Option (List A) → (A → Bool) → Bool
lists None test = false
lists (Some xs) test = list_any test xs

-- the two roles are equal
abbrev pub same_role : Role → Role → Bool
same_role r s = role_number r == role_number s

-- the two modes are equal
abbrev pub same_mode : Mode → Mode → Bool
same_mode m n = mode_number m == mode_number n

-- the accounts that a reply tells; `None` if it tells none
abbrev pub accounts_answered : Reply → Option (List AccountLine)
accounts_answered (replies.Accounts lines) = Some lines
accounts_answered _ = None

-- the accounts that the user is answered
abbrev pub accounts_given : Option ℕ → History → Option (List AccountLine)
accounts_given u H = accounts_answered (answer u (view u H) queries.Accounts)

-- what a reply tells of the conference; `None` if it tells nothing of that
abbrev pub conference_answered : Reply → Option Conference
conference_answered (replies.Conference conference) = Some conference
conference_answered _ = None

-- what the user is answered of the conference
abbrev pub conference_given : Option ℕ → History → Option Conference
conference_given u H = conference_answered (answer u (view u H) queries.Phase)

-- the deadlines that a reply tells; `None` if it tells none
abbrev pub deadlines_answered : Reply → Option (List PhaseDeadline)
deadlines_answered (replies.Deadlines lines) = Some lines
deadlines_answered _ = None

-- the deadlines that the user is answered
abbrev pub deadlines_given : Option ℕ → History → Option (List PhaseDeadline)
deadlines_given u H = deadlines_answered (answer u (view u H) queries.Deadlines)

-- the two decisions are equal
abbrev pub same_decision : Decision → Decision → Bool
same_decision d e = decision_number d == decision_number e

-- the two kinds of reviewers are equal
abbrev pub same_kind : Kind → Kind → Bool
same_kind k l = review_kind_number k == review_kind_number l

-- the paper of a sighting; 0 if it is on none
abbrev pub paper_of : Sighting → ℕ
paper_of s = unwrap_or s.paper 0

-- what the page of the sighting's paper has under a key, as the user is answered it
abbrev pub key : {A : Type 0} → (Page → Option A) → Option ℕ → History → Sighting → Option A
key of u H s = page_told of u (paper_of s) H

-- the comments on the sighting's paper that the user is answered
abbrev pub comments_given : Option ℕ → History → Sighting → Option (List CommentLine)
comments_given u H s = comments_answered (answer u (view u H) (queries.Comments (Some (paper_of s))))

-- the response to the reviews of the sighting's paper that the user is answered
abbrev pub response_given : Option ℕ → History → Sighting → Option (List ℕ)
response_given u H s = response_answered (answer u (view u H) (queries.Response (Some (paper_of s))))

-- the accepted papers that the user is answered
abbrev pub accepted_given : Option ℕ → History → Option (List AcceptedPaper)
accepted_given u H = accepted_answered (answer u (view u H) queries.AcceptedPapers)

-- the papers that the user reviews, as the answer to the query `Me` tells
abbrev pub assigned_given : Option ℕ → History → Option (List ℕ)
assigned_given u H = option_map (λ (me : Me). me.assigned) (me_answered (answer u (view u H) queries.Me))

-- the papers to which the user is invited, as the answer to the query `Me` tells
abbrev pub invited_given : Option ℕ → History → Option (List ℕ)
invited_given u H = option_map (λ (me : Me). me.invited) (me_answered (answer u (view u H) queries.Me))

-- the papers with which the user is in conflict, as the answer to the query `Me` tells
abbrev pub conflicts_given : Option ℕ → History → Option (List ℕ)
conflicts_given u H = option_map (λ (me : Me). me.conflicts) (me_answered (answer u (view u H) queries.Me))

-- this is the name of the user, by the accounts that the view shows
abbrev pub is_name_of : Option ℕ → Option ℕ → History → List ℕ → Bool
is_name_of user u H name = agree bytes_eq (name_shown user (view u H)) (Some name)

-- a line of the answered reviews of the sighting's paper has the form's label, and this holds of it
abbrev pub has_line : Option ℕ → History → Sighting → (ReviewLine → Bool) → Bool
has_line u H s test =
    lists (reviews_answered (answer u (view u H) (queries.Reviews (Some (paper_of s)))))
    (λ line. is_number s.ordinal line.label && test line)

-- one of the reviewers on the paper's page has the form's label, and the mark that there is a form
abbrev pub has_mark : Option ℕ → History → Sighting → Bool
has_mark u H s =
    lists (key (λ page. page.reviewers) u H s)
    (λ reviewer. is_number s.ordinal reviewer.label && unwrap_or reviewer.done false)

-- a conflict that the sighting turns on is among the reader's own, among the paper's conflicts, or among those that its
-- authors declared, as answers tell
abbrev pub is_conflict_told : Option ℕ → History → Sighting → Bool
is_conflict_told u H s =
    unwrap_or s.on false
    && ((is_user u s.user && lists (conflicts_given u H) (is_number s.paper))
    || lists (key (λ page. page.conflicts) u H s) (is_name_of s.user u H)
    || lists (key (λ page. page.declared) u H s) (is_name_of s.user u H))

-- a tag that the sighting turns on is among the tags on the paper's page
abbrev pub is_tag_told : Option ℕ → History → Sighting → Bool
is_tag_told u H s =
    unwrap_or s.on false && lists (key (λ page. page.tags) u H s) (λ tag. agree bytes_eq s.tag (Some tag))

-- a line of the answered deadlines has the phase that the sighting shows, and this holds of it
abbrev pub has_deadline : Option ℕ → History → Sighting → (ℕ → Bool) → Bool
has_deadline u H s test =
    lists (deadlines_given u H) (λ line. agree is_phase s.phase (Some line.phase) && test line.until)

-- an answer tells this part of a sighting of this kind; a line for each part that a kind has, and no other part is
-- told.
-- The accounts tell who registered, under which name, and in which role; the conference its phase and mode; the
-- deadlines each phase that has one, and the deadline.
-- A paper's page tells its title, abstract, authors, versions, conflicts, bids, reviewers, tags and decision, and the
-- reader's own bid and label; the other answers on it the content of a version, the lines of reviews and comments, and
-- the text of the response.
-- The accepted papers tell that a paper is accepted. The query `Me` tells with which papers the reader is in conflict,
-- which they review, and to which they are invited.
abbrev pub is_told : Option ℕ → History → Sighting → EntryKind → Part → Bool
is_told u H s kinds.Registered part.user = lists (accounts_given u H) (λ line. is_number s.user line.user)
is_told u H s kinds.Registered part.name =
    lists (accounts_given u H) (λ line. is_number s.user line.user && agree bytes_eq s.name (Some line.name))
is_told u H s kinds.Named part.user = lists (accounts_given u H) (λ line. is_number s.user line.user)
is_told u H s kinds.Named part.role =
    lists (accounts_given u H) (λ line. is_number s.user line.user && agree same_role s.role (Some line.role))
is_told u H s kinds.Dismissed part.user =
    lists (accounts_given u H) (λ line. is_number s.user line.user && same_role Account line.role)
is_told u H s kinds.PhaseSet part.phase =
    agree is_phase s.phase (option_map (λ (c : Conference). c.phase) (conference_given u H))
is_told u H s kinds.ModeSet part.mode =
    agree same_mode s.mode (option_map (λ (c : Conference). c.mode) (conference_given u H))
is_told u H s kinds.DeadlineSet part.phase = has_deadline u H s (λ until. true)
is_told u H s kinds.DeadlineSet part.until = has_deadline u H s (is_number (unwrap_or s.until None))
is_told u H s kinds.Submitted part.by = lists (key (λ page. page.authors) u H s) (is_name_of s.by u H)
is_told u H s kinds.Submitted part.title = agree bytes_eq s.title (key (λ page. page.title) u H s)
is_told u H s kinds.Submitted part.abstract = agree bytes_eq s.abstract (key (λ page. page.abstract_) u H s)
is_told u H s kinds.Coauthor part.user = lists (key (λ page. page.authors) u H s) (is_name_of s.user u H)
is_told u H s kinds.Revised part.title = agree bytes_eq s.title (key (λ page. page.title) u H s)
is_told u H s kinds.Revised part.abstract = agree bytes_eq s.abstract (key (λ page. page.abstract_) u H s)
is_told u H s kinds.Uploaded part.version = lists (key (λ page. page.versions) u H s) (is_number s.version)
is_told u H s kinds.Uploaded part.content =
    agree bytes_eq s.content
    (content_answered (answer u (view u H) (queries.Version (Some (paper_of s)) (unwrap_or s.version 0))))
is_told u H s kinds.Conflict part.user = is_conflict_told u H s
is_told u H s kinds.Conflict part.on = is_conflict_told u H s
is_told u H s kinds.Bid part.by = lists (key (λ page. page.bids) u H s) (λ bid. is_name_of s.by u H bid.user)
is_told u H s kinds.Bid part.value =
    lists (key (λ page. page.bids) u H s) (λ bid. is_name_of s.by u H bid.user && is_number s.value bid.bid)
    || (s.mine && agree nat_eq s.value (key (λ page. page.bid) u H s))
is_told u H s kinds.Assigned part.user =
    lists (key (λ page. page.reviewers) u H s)
    (λ reviewer. is_number s.ordinal reviewer.label && agree bytes_eq (name_shown s.user (view u H)) reviewer.user)
    || (is_user u s.user && lists (assigned_given u H) (is_number s.paper))
is_told u H s kinds.Assigned part.review_kind =
    lists (key (λ page. page.reviewers) u H s)
    (λ reviewer. is_number s.ordinal reviewer.label && agree same_kind s.review_kind reviewer.kind)
is_told u H s kinds.Assigned part.ordinal =
    lists (key (λ page. page.reviewers) u H s) (λ reviewer. is_number s.ordinal reviewer.label)
    || (is_user u s.user && agree nat_eq s.ordinal (key (λ page. page.label) u H s))
is_told u H s kinds.Unassigned part.ordinal =
    is_some (key (λ page. page.reviewers) u H s)
    && not (lists (key (λ page. page.reviewers) u H s) (λ reviewer. is_number s.ordinal reviewer.label))
is_told u H s kinds.Invited part.user = is_user u s.user && lists (invited_given u H) (is_number s.paper)
is_told u H s kinds.Reviewed part.version = has_line u H s (λ line. agree nat_eq s.version line.version)
is_told u H s kinds.Reviewed part.score = has_line u H s (λ line. agree nat_eq s.score (Some line.score))
is_told u H s kinds.Reviewed part.confidence =
    has_line u H s (λ line. agree nat_eq s.confidence (Some line.confidence))
is_told u H s kinds.Reviewed part.to_authors =
    has_line u H s (λ line. agree bytes_eq s.to_authors (Some line.to_authors))
is_told u H s kinds.Reviewed part.to_pc = has_line u H s (λ line. agree bytes_eq s.to_pc line.to_pc)
is_told u H s kinds.Reviewed part.ordinal = has_line u H s (λ line. true) || has_mark u H s
is_told u H s kinds.Reviewed part.done = has_mark u H s
is_told u H s kinds.Commented part.by =
    lists (comments_given u H s)
    (λ line. is_number s.n line.n && agree bytes_eq (name_shown s.by (view u H)) line.user)
is_told u H s kinds.Commented part.n = lists (comments_given u H s) (λ line. is_number s.n line.n)
is_told u H s kinds.Commented part.ordinal =
    lists (comments_given u H s) (λ line. is_number s.n line.n && agree nat_eq s.ordinal line.label)
is_told u H s kinds.Commented part.text =
    lists (comments_given u H s) (λ line. is_number s.n line.n && agree bytes_eq s.text (Some line.text))
is_told u H s kinds.Responded part.text = agree bytes_eq s.text (response_given u H s)
is_told u H s kinds.Tagged part.tag = is_tag_told u H s
is_told u H s kinds.Tagged part.on = is_tag_told u H s
is_told u H s kinds.Decided part.decision =
    agree same_decision s.decision (option_and_then (λ decision. decision) (key (λ page. page.decision) u H s))
is_told u H s kinds.Decided part.outcome = is_some (key (λ page. page.decision) u H s)
is_told u H s kinds.Decided part.accepted = lists (accepted_given u H) (λ paper. is_number s.paper paper.paper)
is_told u H s _ _ = false

-- ---- what is left out

-- a later sighting on the paper shows this part again
abbrev pub is_again : {A : Type 0} → (Sighting → Option A) → Sighting → View → Bool
is_again of s after = not (is_nothing (shown_on (paper_of s) of after))

-- a conflict is left out: it is turned off, and no list has it any more. Or the reader is an author of the paper, and
-- it names the reader and no author declared it. Or the reader is no author, and a later sighting turns it on or off,
-- or it is left behind (`is_conflict_behind`).
abbrev pub is_conflict_left : Option ℕ → History → Sighting → View → Bool
is_conflict_left u H s after =
    not (unwrap_or s.on true)
    || (if is_author u (paper_of s) H
    then is_user u s.user && not (list_any (is_number s.user) (declared_by_authors (paper_of s) H))
    else not (is_nothing (shown_of s.user (paper_of s) (λ (t : Sighting). t.on) after))
    || is_conflict_behind u (paper_of s) H s)

-- the reviewer whom the sighting assigns is shown to be unassigned
abbrev pub is_taken_off : Option ℕ → History → Sighting → Bool
is_taken_off u H s = not (is_left (paper_of s) (view u H) (unwrap_or s.ordinal 0))

-- the sighting assigns the reader, who is shown later to be unassigned or assigned again
abbrev pub is_seated_again : Option ℕ → Sighting → View → Bool
is_seated_again u s after = is_user u s.user
    && not (is_nothing (shown_of u (paper_of s) (λ (t : Sighting). ordinal_by t.kind t.ordinal) after))

-- the reader assigned another as a chair, and may no longer know who reviews the paper: came into conflict with it
-- since, or was dismissed
abbrev pub is_name_behind : Option ℕ → History → Sighting → Bool
is_name_behind u H s = s.mine && not (is_user u s.user) && not (knows_reviewers u (paper_of s) H)

-- the seat is left behind (`is_seat_behind`), unless it is the reader's own on a paper that they may read to judge it,
-- whose page tells them their label
abbrev pub is_label_behind : Option ℕ → History → Sighting → Bool
is_label_behind u H s =
    is_seat_behind u (paper_of s) H s && not (is_user u s.user && reads_to_judge u (paper_of s) H)

-- a later sighting invites the reader to the paper again, or ends the invitation
abbrev pub is_uninvited : Option ℕ → Sighting → View → Bool
is_uninvited u s after =
    not (is_nothing (shown_of u (paper_of s) (λ (t : Sighting). invitation_by t.kind) after))

-- the scores that sightings show under the label of this ordinal
abbrev pub scores_at : ℕ → ℕ → View → List ℕ
scores_at p o V =
    flat_map (λ (t : Sighting). only (is_kind kinds.Reviewed t && (is_number t.paper p && is_number t.ordinal o))
    (listed t.score)) V

-- a later form under the label is shown: to authors, any; to others, one before the discussion that is opened after
-- this one
abbrev pub is_followed : Option ℕ → History → Sighting → View → Bool
is_followed u H s after =
    not (is_nothing
    (scores_at (paper_of s) (unwrap_or s.ordinal 0)
    (if is_author u (paper_of s) H then after else until discussion_seen after)))

-- a form is left out: a later one follows it (`is_followed`), or it is left behind (`is_form_behind`)
abbrev pub is_form_left : Option ℕ → History → Sighting → View → Bool
is_form_left u H s after = is_followed u H s after || is_form_behind u (paper_of s) H s

-- a tag is left out: it is turned off, and no list has it any more; or a later sighting turns it on or off; or it is
-- left behind (`is_left_behind`), or is one for chairs, and the reader is no longer one
abbrev pub is_tag_left : Option ℕ → History → Sighting → View → Bool
is_tag_left u H s after =
    not (unwrap_or s.on true)
    || list_any
    (λ (t : Sighting). is_kind kinds.Tagged t && is_number t.paper (paper_of s) && agree bytes_eq s.tag t.tag) after
    || is_left_behind u (paper_of s) H s
    || (s.mine && is_chairs (unwrap_or s.tag []) && not (chairs_committee (role_of u H)))

-- a deadline is left out: it is taken away, and no list has it any more; or a later sighting sets it or takes it away
abbrev pub is_deadline_left : Sighting → View → Bool
is_deadline_left s after =
    is_none (unwrap_or s.until None) || not (is_nothing (deadlines_shown (unwrap_or s.phase Setup) after))

-- no answer tells this part of a sighting of this kind:
-- the digest of a secret; when the reader made their own entries, and by which numbers;
-- a role, a phase, a mode, a deadline, a title, an abstract, a bid, a form, a decision, a conflict or a tag turned on
-- that a later sighting follows; a decision before the one by which the paper was accepted;
-- a deadline that is taken away; a conflict or a tag that is turned off; a reviewer who is unassigned, and who it was;
-- the reader's own seat, if they are assigned anew; whether they are the primary, the secondary or another, if they
-- aren't told the paper's reviewers; their conflict with a paper of their own, if no author declared it;
-- the label with a comment whose writer is named, and that a writer has none;
-- the reader's own entries on a paper for which they aren't eligible; conflicts that they turned on or off as a chair,
-- on a paper that they don't oversee; seats that they gave or took as a chair, on a paper of which they aren't told the
-- reviewers; and their own label on a paper that they may no longer read to judge it, since they came into conflict
-- with it or were dismissed;
-- who else is invited; that the reader is, if they are a member since; and whose invitation ended
abbrev pub is_left_untold : Option ℕ → History → Sighting → View → EntryKind → Part → Bool
is_left_untold u H s after kinds.Registered part.digest = true
is_left_untold u H s after kinds.Named part.role = not (is_nothing (roles_shown s.user after))
is_left_untold u H s after kinds.Dismissed part.user = not (is_nothing (roles_shown s.user after))
is_left_untold u H s after kinds.PhaseSet part.phase = not (is_nothing (phases_shown after))
is_left_untold u H s after kinds.ModeSet part.mode = not (is_nothing (all_shown (λ (t : Sighting). t.mode) after))
is_left_untold u H s after kinds.DeadlineSet part.phase = is_deadline_left s after
is_left_untold u H s after kinds.DeadlineSet part.until = is_deadline_left s after
is_left_untold u H s after kinds.Submitted part.title = is_again (λ (t : Sighting). t.title) s after
is_left_untold u H s after kinds.Submitted part.abstract = is_again (λ (t : Sighting). t.abstract) s after
is_left_untold u H s after kinds.Revised part.title = is_again (λ (t : Sighting). t.title) s after
is_left_untold u H s after kinds.Revised part.abstract = is_again (λ (t : Sighting). t.abstract) s after
is_left_untold u H s after kinds.Conflict part.user = is_conflict_left u H s after
is_left_untold u H s after kinds.Conflict part.on = is_conflict_left u H s after
is_left_untold u H s after kinds.Bid part.value =
    not (is_nothing (bids_shown_of (unwrap_or s.by 0) (paper_of s) after))
    || (s.mine && not (is_nothing (own_bids_shown (paper_of s) after)))
    || is_left_behind u (paper_of s) H s
is_left_untold u H s after kinds.Assigned part.user =
    is_taken_off u H s || is_seated_again u s after || is_name_behind u H s
is_left_untold u H s after kinds.Assigned part.review_kind =
    is_taken_off u H s || is_seat_behind u (paper_of s) H s
is_left_untold u H s after kinds.Assigned part.ordinal =
    is_taken_off u H s || is_seated_again u s after || is_label_behind u H s
is_left_untold u H s after kinds.Unassigned part.user = true
is_left_untold u H s after kinds.Unassigned part.ordinal = is_seat_behind u (paper_of s) H s
is_left_untold u H s after kinds.Invited part.user =
    not (is_user u s.user) || is_on_committee (role_of u H) || is_uninvited u s after
is_left_untold u H s after kinds.Uninvited part.user = true
is_left_untold u H s after kinds.Reviewed part.version = is_form_left u H s after
is_left_untold u H s after kinds.Reviewed part.score = is_form_left u H s after
is_left_untold u H s after kinds.Reviewed part.confidence = is_form_left u H s after
is_left_untold u H s after kinds.Reviewed part.to_authors = is_form_left u H s after
is_left_untold u H s after kinds.Reviewed part.to_pc = is_form_left u H s after
is_left_untold u H s after kinds.Reviewed part.ordinal = is_form_left u H s after || is_taken_off u H s
is_left_untold u H s after kinds.Reviewed part.done = is_taken_off u H s
is_left_untold u H s after kinds.Commented part.n = is_left_behind u (paper_of s) H s
is_left_untold u H s after kinds.Commented part.ordinal =
    is_left_behind u (paper_of s) H s || is_some s.by || is_number s.ordinal 0
is_left_untold u H s after kinds.Commented part.text = is_left_behind u (paper_of s) H s
is_left_untold u H s after kinds.Tagged part.tag = is_tag_left u H s after
is_left_untold u H s after kinds.Tagged part.on = is_tag_left u H s after
is_left_untold u H s after kinds.Decided part.decision =
    is_again (λ (t : Sighting). t.decision) s after
    || (is_shown_accepted (paper_of s) (view u H) && not (is_some s.accepted))
    || is_left_behind u (paper_of s) H s
is_left_untold u H s after _ part.at = s.mine
is_left_untold u H s after _ part.key = s.mine
is_left_untold u H s after _ _ = false

-- ---- all of it

-- PartsTold: every part that each sighting of a view of a legal history shows, whatever sightings are before and after
-- it, is told or left out
abbrev pub PartsTold : Type 0
PartsTold =
    (u : Option ℕ) (H : History) (before : View) (s : Sighting) (after : View) (what : Part) → Legal H
    → view u H ≡ before ++ s ∷ after → IsTrue (has what s)
    → IsTrue (is_told u H s s.kind what || is_left_untold u H s after s.kind what)
