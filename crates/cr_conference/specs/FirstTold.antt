-- SPDX-License-Identifier: Apache-2.0 OR MIT
-- Which rule is told if more than one is broken: for each two rules that are next to each other in the list of a
-- command, a query or a bulk, and that can be broken at once, a case of the small conference or of its twins in which
-- both are. The comment on each case has the rules in their order. Seven pairs need more than the conference has:
-- `name_taken` and `full_accounts`, `full_papers` and each of its two neighbours, `already_assigned` and
-- `labels_spent`, `withdrawn` and `quota_comments`, `plan_too_large` and each of its two.
use Rattle.std.specs.Prelude.{ℕ, ◌≡◌, ◌+◌, true, false, List, [], ◌∷◌, ◌++◌, Option, Some, None, codes, Err}
use Rattle.cr_base.specs.declared.bulk.Broken.{Broken}
use Rattle.cr_base.specs.declared.bulk.Broken.TheVariants as broken
use Rattle.cr_base.specs.declared.bulk.BulkRow.{BulkRow}
use Rattle.cr_base.specs.declared.command.Command.{Command}
use Rattle.cr_base.specs.declared.command.Command.TheVariants as commands
use Rattle.cr_base.specs.declared.command.Query.{Query}
use Rattle.cr_base.specs.declared.command.Query.TheVariants as queries
use Rattle.cr_base.specs.declared.entry.Entry.TheVariants.{Named, Conflict, DeadlineSet, Dismissed, Invited, PhaseSet}
use Rattle.cr_base.specs.declared.reply.Reply.TheVariants as replies
use Rattle.cr_base.specs.declared.reply.Rule.{Rule}
use Rattle.cr_base.specs.declared.reply.Rule.TheVariants as rules
use Rattle.cr_base.specs.declared.report.Report.TheVariants as reports
use Rattle.cr_base.specs.declared.words.Decision.TheVariants.{Accept}
use Rattle.cr_base.specs.declared.words.Kind.TheVariants.{Primary}
use Rattle.cr_base.specs.declared.words.Mode.TheVariants.{Overt, Blind}
use Rattle.cr_base.specs.declared.words.Phase.{Phase}
use Rattle.cr_base.specs.declared.words.Phase.TheVariants.{Submission, Bidding, Response, Discussion, Closed}
use Rattle.cr_base.specs.declared.words.Role.TheVariants.{Member, Chair}
use Rattle.cr_base.specs.Calls.{call_of, bulk_by}
use Rattle.cr_base.specs.History.{History}
use Rattle.cr_policy.specs.Judge.{judge, judge_bulk, answer}
use Rattle.cr_policy.specs.Legal.{Legal}
use Rattle.cr_policy.specs.View.{view}
use Rattle.cr_policy.specs.Witness.{morning}
use Rattle.cr_policy.specs.Sentences.{a_row}
use Rattle.cr_conference.specs.Conference.{alice, bob, carol, dave, erin, fay, gus, hal, Digests, AreDigests, Asides}
use Rattle.cr_conference.specs.Conference.{AreAsides, ◌adds◌, types, we_type, hot, chairs_tag, first_form, agreed}
use Rattle.cr_conference.specs.Conference.{before_bidding, in_bidding, in_reviewing, in_discussion, at_notification}
use Rattle.cr_conference.specs.Conference.{verdicts}
use Rattle.cr_conference.specs.ConferenceResponse.{you_are_right}

-- ---- the conference, phase by phase

-- the conference in the submission. Paper 1 is bob's and gus's, and carol and fay are in conflict with it; papers 2 and
-- 3 are gus's, and paper 3 is withdrawn. There is no paper 9, and no user is called zoe. alice and fay are chairs,
-- carol, dave and hal members; bob, erin and gus are neither.
abbrev pub submission : Digests → Asides → History
submission d a = before_bidding d Blind

-- the conference in the bidding
abbrev pub bidding : Digests → Asides → History
bidding d a = in_bidding d Blind a dave

-- the conference in the reviewing
abbrev pub reviewing : Digests → Asides → History
reviewing d a = in_reviewing d Blind a dave

-- the conference in the discussion
abbrev pub discussion : Digests → Asides → History
discussion d a = in_discussion d Blind a dave verdicts

-- the conference at the notification
abbrev pub notification : Digests → Asides → History
notification d a = at_notification d Blind a dave verdicts

-- a twin in which gus, who is in conflict with paper 3 as its author, is appointed a chair in the bidding
abbrev pub gus_a_chair : Digests → Asides → History
gus_a_chair d a = bidding d a ++ alice adds Named gus Chair ∷ []

-- a twin in which dave, who reviews paper 1, declares himself in conflict with it
abbrev pub dave_in_conflict : Digests → Asides → History
dave_in_conflict d a = bidding d a ++ dave adds Conflict 1 dave true ∷ []

-- a twin in which erin, who is invited to paper 1, is declared in conflict with it
abbrev pub erin_in_conflict : Digests → Asides → History
erin_in_conflict d a = bidding d a ++ alice adds Invited 1 erin ∷ alice adds Conflict 1 erin true ∷ []

-- a twin in which carol, who is in conflict with paper 1 without being its author, is dismissed
abbrev pub carol_dismissed : Digests → Asides → History
carol_dismissed d a = bidding d a ++ alice adds Dismissed carol ∷ []

-- a twin in which the response is opened
abbrev pub responding : Digests → Asides → History
responding d a = reviewing d a ++ alice adds PhaseSet Response ∷ []

-- a timestamp after the deadlines of the twins below
abbrev pub noon : ℕ
noon = morning + 10800

-- the history with a deadline of this phase, which is past by noon
abbrev pub due_by_morning : Phase → History → History
due_by_morning phase H = H ++ alice adds DeadlineSet phase (Some morning) ∷ []

-- a twin in which the submission has a deadline, which is past by noon
abbrev pub submission_due : Digests → Asides → History
submission_due d a = due_by_morning Submission (submission d a)

-- a twin in which the bidding has a deadline, which is past by noon
abbrev pub bidding_due : Digests → Asides → History
bidding_due d a = due_by_morning Bidding (bidding d a)

-- a twin in which the response has a deadline, which is past by noon
abbrev pub response_due : Digests → Asides → History
response_due d a = due_by_morning Response (responding d a)

-- a twin in which the discussion has a deadline, which is past by noon
abbrev pub discussion_due : Digests → Asides → History
discussion_due d a = due_by_morning Discussion (discussion d a)

-- all of these histories are legal
pub record AreStagesLegal (d : Digests) (a : Asides) : Type 0 where
  pub submission : Legal (submission d a)
  pub bidding : Legal (bidding d a)
  pub reviewing : Legal (reviewing d a)
  pub discussion : Legal (discussion d a)
  pub notification : Legal (notification d a)
  pub gus_a_chair : Legal (gus_a_chair d a)
  pub dave_in_conflict : Legal (dave_in_conflict d a)
  pub erin_in_conflict : Legal (erin_in_conflict d a)
  pub carol_dismissed : Legal (carol_dismissed d a)
  pub responding : Legal (responding d a)
  pub submission_due : Legal (submission_due d a)
  pub bidding_due : Legal (bidding_due d a)
  pub response_due : Legal (response_due d a)
  pub discussion_due : Legal (discussion_due d a)

-- ---- who asks, where, for what, and what she is told

-- the user's command, in the morning, is refused by this rule on this history
abbrev pub Refused : ℕ → History → Command → Rule → Type 0
Refused u H command rule = judge (view (Some u) H) (call_of (Some u) morning None command) ≡ Err rule

-- the user's command, at noon, is refused by this rule on this history
abbrev pub RefusedAtNoon : ℕ → History → Command → Rule → Type 0
RefusedAtNoon u H command rule = judge (view (Some u) H) (call_of (Some u) noon None command) ≡ Err rule

-- the user's query is refused by this rule on this history
abbrev pub Unanswered : ℕ → History → Query → Rule → Type 0
Unanswered u H query rule = answer (Some u) (view (Some u) H) query ≡ replies.Refused rule

-- the user's bulk, in the morning, is refused so on this history
abbrev pub BulkRefused : ℕ → History → List BulkRow → Broken → Type 0
BulkRefused u H rows refusal = judge_bulk (view (Some u) H) (bulk_by u morning None rows) ≡ Err refusal

-- the name that no user has registered
abbrev pub zoe : Option (List ℕ)
zoe = Some (codes "zoe")

-- a name in a command
abbrev pub named : List ℕ → Option (List ℕ)
named name = Some name

-- ---- the conference itself

-- which rule is told first by commands on roles, the mode, the phase and deadlines
pub record OfTheConference (d : Digests) (a : Asides) : Type 0 where
  -- naming: no_user, not_chair, wrong_phase, already_named
  pub name_nobody : Refused erin (submission d a) (commands.Name zoe Member) rules.NoUser
  pub name_by_account : Refused erin (notification d a) (commands.Name (named (codes "bob")) Member) rules.NotChair
  pub name_out_of_phase :
      Refused alice (notification d a) (commands.Name (named (codes "carol")) Member) rules.WrongPhase
  -- dismissing: no_user, not_chair, wrong_phase, not_a_member; whoever is the last chair is a member
  pub dismiss_nobody : Refused erin (submission d a) (commands.Dismiss zoe) rules.NoUser
  pub dismiss_by_member : Refused carol (notification d a) (commands.Dismiss (named (codes "dave"))) rules.NotChair
  pub dismiss_out_of_phase :
      Refused alice (notification d a) (commands.Dismiss (named (codes "bob"))) rules.WrongPhase
  -- the mode, the phase and deadlines: not_chair, wrong_phase
  pub mode_by_account : Refused erin (submission d a) (commands.SetMode Overt) rules.NotChair
  pub phase_by_account : Refused erin (submission d a) (commands.SetPhase Closed) rules.NotChair
  pub deadline_by_account :
      Refused erin (bidding d a) (commands.SetDeadline Submission (Some noon)) rules.NotChair

-- ---- papers

-- which rule is told first by commands on papers
pub record OfPapers (d : Digests) (a : Asides) : Type 0 where
  -- submitting: no_user, wrong_phase, late
  pub submit_with_nobody : Refused erin (bidding d a) (commands.Submit types we_type (zoe ∷ [])) rules.NoUser
  pub submit_behind : RefusedAtNoon erin (bidding_due d a) (commands.Submit types we_type []) rules.WrongPhase
  -- revising and withdrawing: no_paper, not_author, wrong_phase, late, withdrawn
  pub revise_none : Refused erin (submission d a) (commands.Revise (Some 9) types we_type) rules.NoPaper
  pub revise_others : Refused dave (bidding d a) (commands.Revise (Some 1) types we_type) rules.NotAuthor
  pub revise_out_of_phase : Refused gus (bidding d a) (commands.Revise (Some 3) types we_type) rules.WrongPhase
  pub revise_behind : RefusedAtNoon gus (bidding_due d a) (commands.Revise (Some 2) types we_type) rules.WrongPhase
  pub revise_late : RefusedAtNoon gus (submission_due d a) (commands.Revise (Some 3) types we_type) rules.Late
  pub withdraw_none : Refused erin (submission d a) (commands.Withdraw (Some 9)) rules.NoPaper
  pub withdraw_others : Refused dave (bidding d a) (commands.Withdraw (Some 1)) rules.NotAuthor
  pub withdraw_out_of_phase : Refused gus (bidding d a) (commands.Withdraw (Some 3)) rules.WrongPhase
  pub withdraw_behind : RefusedAtNoon gus (bidding_due d a) (commands.Withdraw (Some 2)) rules.WrongPhase
  pub withdraw_late : RefusedAtNoon gus (submission_due d a) (commands.Withdraw (Some 3)) rules.Late
  -- uploading: the same, and then quota_bytes, however much it is
  pub upload_none : Refused erin (submission d a) (commands.Upload (Some 9) []) rules.NoPaper
  pub upload_others : Refused dave (bidding d a) (commands.Upload (Some 1) []) rules.NotAuthor
  pub upload_out_of_phase : Refused gus (bidding d a) (commands.Upload (Some 3) []) rules.WrongPhase
  pub upload_behind : RefusedAtNoon gus (bidding_due d a) (commands.Upload (Some 2) []) rules.WrongPhase
  pub upload_late : RefusedAtNoon gus (submission_due d a) (commands.Upload (Some 3) []) rules.Late
  pub upload_withdrawn :
      (content : List ℕ) → Refused gus (submission d a) (commands.Upload (Some 3) content) rules.Withdrawn

-- ---- conflicts

-- which rule is told first by commands on conflicts
pub record OfConflicts (d : Digests) (a : Asides) : Type 0 where
  -- on, before the bidding: no_paper, no_user, not_author, late, withdrawn, not_a_member
  pub declare_none : Refused erin (submission d a) (commands.SetConflict (Some 9) zoe true) rules.NoPaper
  pub declare_nobody : Refused erin (submission d a) (commands.SetConflict (Some 1) zoe true) rules.NoUser
  pub declare_others :
      Refused dave (submission d a) (commands.SetConflict (Some 3) (named (codes "carol")) true) rules.NotAuthor
  pub declare_others_past :
      RefusedAtNoon dave (submission_due d a) (commands.SetConflict (Some 2) (named (codes "carol")) true)
      rules.NotAuthor
  pub declare_late :
      RefusedAtNoon gus (submission_due d a) (commands.SetConflict (Some 3) (named (codes "carol")) true) rules.Late
  pub declare_withdrawn :
      Refused gus (submission d a) (commands.SetConflict (Some 3) (named (codes "erin")) true) rules.Withdrawn
  -- on, by the user named: not_member, withdrawn
  pub declare_oneself :
      Refused erin (bidding d a) (commands.SetConflict (Some 3) (named (codes "erin")) true) rules.NotMember
  -- on, by another: no_user, not_chair, conflict, withdrawn, not_a_member
  pub other_nobody : Refused erin (bidding d a) (commands.SetConflict (Some 1) zoe true) rules.NoUser
  pub other_by_member :
      Refused carol (bidding d a) (commands.SetConflict (Some 1) (named (codes "dave")) true) rules.NotChair
  pub other_in_conflict :
      Refused gus (gus_a_chair d a) (commands.SetConflict (Some 3) (named (codes "dave")) true) rules.Conflict
  pub other_withdrawn :
      Refused alice (bidding d a) (commands.SetConflict (Some 3) (named (codes "erin")) true) rules.Withdrawn
  -- on, later: no_user, wrong_phase
  pub late_nobody : Refused erin (notification d a) (commands.SetConflict (Some 1) zoe true) rules.NoUser
  -- off: no_paper, no_user, not_chair, conflict, wrong_phase, withdrawn, not_a_member, author_conflict
  pub off_none : Refused erin (bidding d a) (commands.SetConflict (Some 9) zoe false) rules.NoPaper
  pub off_nobody : Refused erin (bidding d a) (commands.SetConflict (Some 1) zoe false) rules.NoUser
  pub off_by_member :
      Refused carol (bidding d a) (commands.SetConflict (Some 1) (named (codes "dave")) false) rules.NotChair
  pub off_in_conflict :
      Refused fay (submission d a) (commands.SetConflict (Some 1) (named (codes "carol")) false) rules.Conflict
  pub off_early :
      Refused alice (submission d a) (commands.SetConflict (Some 3) (named (codes "carol")) false) rules.WrongPhase
  pub off_withdrawn :
      Refused alice (bidding d a) (commands.SetConflict (Some 3) (named (codes "erin")) false) rules.Withdrawn
  pub off_of_author :
      Refused alice (bidding d a) (commands.SetConflict (Some 1) (named (codes "bob")) false) rules.NotAMember

-- ---- bids, and who reviews

-- which rule is told first by bids, assignments and their ends
pub record OfReviewers (d : Digests) (a : Asides) : Type 0 where
  -- bidding: no_paper, not_member, conflict, wrong_phase, late, withdrawn
  pub bid_none : Refused erin (bidding d a) (commands.Bid (Some 9) 20) rules.NoPaper
  pub bid_by_account : Refused bob (bidding d a) (commands.Bid (Some 1) 20) rules.NotMember
  pub bid_in_conflict : Refused carol (submission d a) (commands.Bid (Some 1) 20) rules.Conflict
  pub bid_early : Refused dave (submission d a) (commands.Bid (Some 3) 20) rules.WrongPhase
  pub bid_behind : RefusedAtNoon dave (discussion_due d a) (commands.Bid (Some 1) 20) rules.WrongPhase
  pub bid_late : RefusedAtNoon dave (bidding_due d a) (commands.Bid (Some 3) 20) rules.Late
  -- assigning: no_paper, no_user, not_chair, conflict, wrong_phase, withdrawn, not_a_member, target_conflict,
  -- already_assigned
  pub assign_none : Refused erin (bidding d a) (commands.Assign (Some 9) zoe Primary) rules.NoPaper
  pub assign_nobody : Refused erin (bidding d a) (commands.Assign (Some 1) zoe Primary) rules.NoUser
  pub assign_by_member :
      Refused carol (bidding d a) (commands.Assign (Some 1) (named (codes "hal")) Primary) rules.NotChair
  pub assign_in_conflict :
      Refused fay (submission d a) (commands.Assign (Some 1) (named (codes "hal")) Primary) rules.Conflict
  pub assign_early :
      Refused alice (submission d a) (commands.Assign (Some 3) (named (codes "hal")) Primary) rules.WrongPhase
  pub assign_withdrawn :
      Refused alice (bidding d a) (commands.Assign (Some 3) (named (codes "erin")) Primary) rules.Withdrawn
  pub assign_author :
      Refused alice (bidding d a) (commands.Assign (Some 1) (named (codes "bob")) Primary) rules.NotAMember
  pub assign_again :
      Refused alice (dave_in_conflict d a) (commands.Assign (Some 1) (named (codes "dave")) Primary)
      rules.TargetConflict
  -- taking off: no_paper, no_user, not_chair, conflict, wrong_phase, withdrawn, not_assigned
  pub unassign_none : Refused erin (bidding d a) (commands.Unassign (Some 9) zoe) rules.NoPaper
  pub unassign_nobody : Refused erin (bidding d a) (commands.Unassign (Some 1) zoe) rules.NoUser
  pub unassign_by_member :
      Refused carol (bidding d a) (commands.Unassign (Some 1) (named (codes "dave"))) rules.NotChair
  pub unassign_in_conflict :
      Refused fay (submission d a) (commands.Unassign (Some 1) (named (codes "dave"))) rules.Conflict
  pub unassign_early :
      Refused alice (submission d a) (commands.Unassign (Some 3) (named (codes "hal"))) rules.WrongPhase
  pub unassign_withdrawn :
      Refused alice (bidding d a) (commands.Unassign (Some 3) (named (codes "hal"))) rules.Withdrawn

-- ---- who is invited

-- which rule is told first by invitations and their ends
pub record OfExternals (d : Digests) (a : Asides) : Type 0 where
  -- inviting: no_paper, no_user, not_chair, conflict, wrong_phase, withdrawn, is_member, target_conflict,
  -- already_invited
  pub invite_none : Refused erin (bidding d a) (commands.Invite (Some 9) zoe) rules.NoPaper
  pub invite_nobody : Refused erin (bidding d a) (commands.Invite (Some 1) zoe) rules.NoUser
  pub invite_by_member : Refused carol (bidding d a) (commands.Invite (Some 1) (named (codes "erin"))) rules.NotChair
  pub invite_in_conflict :
      Refused fay (submission d a) (commands.Invite (Some 1) (named (codes "erin"))) rules.Conflict
  pub invite_early :
      Refused alice (submission d a) (commands.Invite (Some 3) (named (codes "erin"))) rules.WrongPhase
  pub invite_withdrawn : Refused alice (bidding d a) (commands.Invite (Some 3) (named (codes "hal"))) rules.Withdrawn
  pub invite_member :
      Refused alice (dave_in_conflict d a) (commands.Invite (Some 1) (named (codes "dave"))) rules.IsMember
  pub invite_in_conflict_again :
      Refused alice (erin_in_conflict d a) (commands.Invite (Some 1) (named (codes "erin"))) rules.TargetConflict
  -- taking back: no_paper, no_user, not_chair, conflict, wrong_phase, withdrawn, not_invited, still_assigned
  pub uninvite_none : Refused erin (bidding d a) (commands.Uninvite (Some 9) zoe) rules.NoPaper
  pub uninvite_nobody : Refused erin (bidding d a) (commands.Uninvite (Some 1) zoe) rules.NoUser
  pub uninvite_by_member :
      Refused carol (bidding d a) (commands.Uninvite (Some 1) (named (codes "erin"))) rules.NotChair
  pub uninvite_in_conflict :
      Refused fay (submission d a) (commands.Uninvite (Some 1) (named (codes "erin"))) rules.Conflict
  pub uninvite_early :
      Refused alice (submission d a) (commands.Uninvite (Some 3) (named (codes "erin"))) rules.WrongPhase
  pub uninvite_withdrawn :
      Refused alice (bidding d a) (commands.Uninvite (Some 3) (named (codes "erin"))) rules.Withdrawn
  pub uninvite_reviewer :
      Refused alice (bidding d a) (commands.Uninvite (Some 1) (named (codes "dave"))) rules.NotInvited

-- ---- reviews, comments, tags and decisions

-- which rule is told first by forms, comments, tags and decisions
pub record OfTheDiscussion (d : Digests) (a : Asides) : Type 0 where
  -- reviewing: no_paper, not_member, conflict, not_reviewer, wrong_phase, late; no withdrawn paper has a reviewer
  pub review_none : Refused erin (reviewing d a) (commands.Review (Some 9) first_form) rules.NoPaper
  pub review_by_author : Refused bob (reviewing d a) (commands.Review (Some 1) first_form) rules.NotMember
  pub review_in_conflict : Refused carol (reviewing d a) (commands.Review (Some 1) first_form) rules.Conflict
  pub review_others : Refused hal (bidding d a) (commands.Review (Some 1) first_form) rules.NotReviewer
  pub review_withdrawn : Refused hal (reviewing d a) (commands.Review (Some 3) first_form) rules.NotReviewer
  pub review_behind : RefusedAtNoon dave (bidding_due d a) (commands.Review (Some 1) first_form) rules.WrongPhase
  -- commenting: no_paper, not_member, conflict, wrong_phase, late, withdrawn
  pub comment_none : Refused erin (discussion d a) (commands.Comment (Some 9) agreed) rules.NoPaper
  pub comment_by_author : Refused bob (discussion d a) (commands.Comment (Some 1) agreed) rules.NotMember
  pub comment_in_conflict : Refused carol (bidding d a) (commands.Comment (Some 1) agreed) rules.Conflict
  pub comment_early : Refused dave (bidding d a) (commands.Comment (Some 3) agreed) rules.WrongPhase
  pub comment_behind : RefusedAtNoon dave (bidding_due d a) (commands.Comment (Some 1) agreed) rules.WrongPhase
  pub comment_late : RefusedAtNoon dave (discussion_due d a) (commands.Comment (Some 3) agreed) rules.Late
  -- tagging: no_paper, not_chair, not_member, conflict, wrong_phase, withdrawn
  pub tag_none : Refused erin (bidding d a) (commands.Tag (Some 9) chairs_tag true) rules.NoPaper
  pub tag_for_chairs : Refused erin (bidding d a) (commands.Tag (Some 1) chairs_tag true) rules.NotChair
  pub tag_by_author : Refused bob (bidding d a) (commands.Tag (Some 1) hot true) rules.NotMember
  pub tag_in_conflict : Refused carol (submission d a) (commands.Tag (Some 1) hot true) rules.Conflict
  pub tag_early : Refused dave (submission d a) (commands.Tag (Some 3) hot true) rules.WrongPhase
  -- deciding: no_paper, not_chair, conflict, wrong_phase, withdrawn
  pub decide_none : Refused erin (discussion d a) (commands.Decide (Some 9) Accept) rules.NoPaper
  pub decide_by_member : Refused carol (discussion d a) (commands.Decide (Some 1) Accept) rules.NotChair
  pub decide_in_conflict : Refused fay (bidding d a) (commands.Decide (Some 1) Accept) rules.Conflict
  pub decide_early : Refused alice (bidding d a) (commands.Decide (Some 3) Accept) rules.WrongPhase

-- ---- what authors respond

-- which rule is told first by responses
pub record OfTheResponse (d : Digests) (a : Asides) : Type 0 where
  -- responding: no_paper, not_author, wrong_phase, late, withdrawn; nobody has responded of a withdrawn paper
  pub respond_none : Refused erin (responding d a) (commands.Respond (Some 9) you_are_right) rules.NoPaper
  pub respond_others : Refused dave (bidding d a) (commands.Respond (Some 1) you_are_right) rules.NotAuthor
  pub respond_early : Refused gus (bidding d a) (commands.Respond (Some 3) you_are_right) rules.WrongPhase
  pub respond_behind : RefusedAtNoon gus (bidding_due d a) (commands.Respond (Some 2) you_are_right) rules.WrongPhase
  pub respond_late : RefusedAtNoon gus (response_due d a) (commands.Respond (Some 3) you_are_right) rules.Late

-- ---- queries

-- which rule is told first by queries
pub record OfQueries (d : Digests) (a : Asides) : Type 0 where
  -- a page: no_paper, not_member
  pub page_none : Unanswered erin (bidding d a) (queries.Page (Some 9)) rules.NoPaper
  -- a content, of those who are no authors: no_paper, not_member, conflict, wrong_phase, no_content
  pub content_none : Unanswered erin (bidding d a) (queries.Content (Some 9)) rules.NoPaper
  pub content_to_account : Unanswered erin (submission d a) (queries.Content (Some 1)) rules.NotMember
  pub content_to_dismissed : Unanswered carol (carol_dismissed d a) (queries.Content (Some 1)) rules.NotMember
  pub content_in_conflict : Unanswered carol (submission d a) (queries.Content (Some 1)) rules.Conflict
  pub content_early : Unanswered dave (submission d a) (queries.Content (Some 3)) rules.WrongPhase
  -- reviews, of those who are no authors: no_paper, not_member, conflict, wrong_phase
  pub reviews_none : Unanswered erin (bidding d a) (queries.Reviews (Some 9)) rules.NoPaper
  pub reviews_to_account : Unanswered erin (bidding d a) (queries.Reviews (Some 1)) rules.NotMember
  pub reviews_to_dismissed : Unanswered carol (carol_dismissed d a) (queries.Reviews (Some 1)) rules.NotMember
  pub reviews_in_conflict : Unanswered carol (bidding d a) (queries.Reviews (Some 1)) rules.Conflict
  -- the response, of those who are no authors: no_paper, not_member, conflict, wrong_phase, no_response
  pub response_none : Unanswered erin (bidding d a) (queries.Response (Some 9)) rules.NoPaper
  pub response_to_account : Unanswered erin (bidding d a) (queries.Response (Some 1)) rules.NotMember
  pub response_to_dismissed : Unanswered carol (carol_dismissed d a) (queries.Response (Some 1)) rules.NotMember
  pub response_in_conflict : Unanswered carol (bidding d a) (queries.Response (Some 1)) rules.Conflict
  pub response_early : Unanswered dave (bidding d a) (queries.Response (Some 1)) rules.WrongPhase
  -- comments: no_paper, not_member, conflict, wrong_phase
  pub comments_none : Unanswered erin (bidding d a) (queries.Comments (Some 9)) rules.NoPaper
  pub comments_to_author : Unanswered bob (bidding d a) (queries.Comments (Some 1)) rules.NotMember
  pub comments_in_conflict : Unanswered carol (bidding d a) (queries.Comments (Some 1)) rules.Conflict
  -- reports: not_member or not_chair, wrong_phase; of the letter no_paper, not_author, wrong_phase
  pub papers_to_account : Unanswered erin (submission d a) (queries.Report reports.Papers) rules.NotMember
  pub scores_to_account : Unanswered erin (bidding d a) (queries.Report reports.Scores) rules.NotMember
  pub load_to_member : Unanswered dave (submission d a) (queries.Report reports.Load) rules.NotChair
  pub decisions_to_account : Unanswered erin (bidding d a) (queries.Report reports.Decisions) rules.NotMember
  pub letter_none : Unanswered erin (bidding d a) (queries.Report (reports.Letter (Some 9))) rules.NoPaper
  pub letter_to_others : Unanswered dave (bidding d a) (queries.Report (reports.Letter (Some 1))) rules.NotAuthor
  -- plans: not_chair, wrong_phase, and behind them no_plan
  pub plan_to_member : Unanswered dave (submission d a) (queries.Plan 1 1) rules.NotChair
  pub plan_early : Unanswered alice (submission d a) (queries.Plan 20 1) rules.WrongPhase

-- ---- bulks

-- three rows, of which the second names no paper, and the third has a bad action
abbrev pub three_rows : List BulkRow
three_rows =
    a_row (codes "1") (codes "primary") (codes "hal") []
    ∷ a_row (codes "9") (codes "tag") [] (codes "hot")
    ∷ a_row (codes "1") (codes "fly") [] []
    ∷ []

-- which rule is told first by bulks
pub record OfBulks (d : Digests) (a : Asides) : Type 0 where
  -- the whole: not_chair, wrong_phase, and then the rows
  pub bulk_by_member : BulkRefused dave (submission d a) [] (broken.Rule rules.NotChair)
  pub bulk_early :
      BulkRefused alice (submission d a) (a_row [] (codes "fly") [] [] ∷ []) (broken.Rule rules.WrongPhase)
  -- a row: bad_action, bad_tag or bulk_self, and then the rules of what it asks for
  pub row_bad_action :
      BulkRefused alice (bidding d a) (a_row (codes "9") (codes "fly") [] [] ∷ []) (broken.Row 1 rules.BadAction)
  pub row_bad_tag :
      BulkRefused alice (bidding d a) (a_row (codes "9") (codes "tag") [] (codes "A B") ∷ [])
      (broken.Row 1 rules.BadTag)
  pub row_of_herself :
      BulkRefused alice (bidding d a) (a_row (codes "9") (codes "conflict") (codes "alice") [] ∷ [])
      (broken.Row 1 rules.BulkSelf)
  -- the first row that breaks a rule, whatever stands behind it
  pub row_first : BulkRefused alice (bidding d a) three_rows (broken.Row 2 rules.NoPaper)

-- ---- all of them

-- all of these, with these digests, if the committee says this
pub record IsFirstTold (d : Digests) (a : Asides) : Type 0 where
  pub legal : AreDigests d → AreAsides a → AreStagesLegal d a
  pub conference : OfTheConference d a
  pub papers : OfPapers d a
  pub conflicts : OfConflicts d a
  pub reviewers : OfReviewers d a
  pub externals : OfExternals d a
  pub discussion : OfTheDiscussion d a
  pub response : OfTheResponse d a
  pub queries : OfQueries d a
  pub bulks : OfBulks d a

-- FirstTold: whatever the digests are, and whatever the committee says that no author reads
abbrev pub FirstTold : Type 0
FirstTold = (d : Digests) (a : Asides) → IsFirstTold d a
