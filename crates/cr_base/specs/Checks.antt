-- SPDX-License-Identifier: Apache-2.0 OR MIT
-- The rules of each command and query, in order, over plain values: a list of checks, of which the first broken one is
-- the answer. They are the server's own, by CoCon's phases and roles and the HotCRP manual's conflicts; docs/API.md has
-- their order. Each comment lists the arguments. A caller's standing is that at the paper where one is named, and
-- `Option Target` is the user named, or `None` if there is no such user.
use Rattle.std.specs.Prelude.{ℕ, Bool, true, false, not, ◌||◌, ◌&&◌, ◌+◌, nat_le, nat_lt, List}
use Rattle.std.specs.Prelude.{[], ◌∷◌, ◌++◌, Option, is_none, Result, Ok, Err, if◌then◌else◌}
use Rattle.std.specs.Option.{option_map_or}
use Rattle.cr_base.specs.declared.reply.Rule.{Rule}
use Rattle.cr_base.specs.declared.reply.Rule.TheVariants as rules
use Rattle.cr_base.specs.declared.standing.Standing.{Standing}
use Rattle.cr_base.specs.declared.target.Target.{Target}
use Rattle.cr_base.specs.declared.words.Phase.{Phase}
use Rattle.cr_base.specs.declared.words.Role.{Role}
use Rattle.cr_base.specs.declared.words.Role.TheVariants.{Account}
use Rattle.cr_base.specs.Decisions.{is_published}
use Rattle.cr_base.specs.Page.{is_admitted}
use Rattle.cr_base.specs.Phases.{is_from, is_next, mode_may_be_set, accepts_submissions, papers_may_change}
use Rattle.cr_base.specs.Phases.{authors_have_declared, conflicts_are_final, roles_are_final, committee_works}
use Rattle.cr_base.specs.Phases.{bids_are_taken, reviews_are_written, responses_are_written, comments_are_written}
use Rattle.cr_base.specs.Phases.{decisions_are_made, members_read_responses}
use Rattle.cr_base.specs.Phases.{members_see_papers, reviewers_read_own, members_read_reviews, members_read_comments}
use Rattle.cr_base.specs.Phases.{authors_read_reviews, externals_read_own}
use Rattle.cr_base.specs.Words.{role_number, is_member, is_chair}

-- a rule, and whether it is broken
pub record Check : Type 0 where
  pub broken : Bool
  pub rule : Rule

-- `holds breaks rule`: the check that this rule is broken if `holds`
infix 90 ◌breaks◌
abbrev pub ◌breaks◌ : Bool → Rule → Check
broken breaks rule = record { broken = broken; rule = rule }

-- the first broken rule, or else what is drawn
abbrev pub judged : {A : Type 0} → List Check → A → Result A Rule
judged [] drawn = Ok drawn
judged (check ∷ checks) drawn = if check.broken then Err check.rule else judged checks drawn

-- ---- what is named

-- what the rules ask of the paper that a command or a query names: whether it is there, and whether it is withdrawn
pub record NamedPaper : Type 0 where
  pub there : Bool
  pub withdrawn : Bool

-- a paper of which the rules ask only whether it is there
abbrev pub of_there : Bool → NamedPaper
of_there there = record { there = there; withdrawn = false }

-- a user of whom the rules ask only the role
abbrev pub of_role : Role → Target
of_role role = record {
  role = role;
  herself = false;
  author = false;
  conflicted = false;
  reviewer = false;
  external = false;
}

-- the role of the user named; an account's if there is no such user
abbrev pub target_role : Option Target → Role
target_role target = option_map_or (λ (user : Target). user.role) target Account

-- this holds of the user named; false if there is no such user
abbrev pub target_is : (Target → Bool) → Option Target → Bool
target_is says target = option_map_or says target false

-- the user named may review the paper and be declared in conflict with it: is a member, or an external of the paper
abbrev pub is_of_paper : Target → Bool
is_of_paper target = is_member target.role || target.external

-- the rules about the user named; none if there is no such user
abbrev pub about : Option Target → (Target → List Check) → List Check
about target asked = option_map_or asked target []

-- ---- commands and queries

-- a registration: whether the name is taken, and how many accounts there are
abbrev pub register_checks : Bool → ℕ → List Check
register_checks taken count =
    taken breaks rules.NameTaken
    ∷ nat_le 9999 count breaks rules.FullAccounts
    ∷ []

-- the next phase: the caller's standing, the phase now, and the one that is to come
abbrev pub phase_checks : Standing → Phase → Phase → List Check
phase_checks by now to =
    not (is_chair by.role) breaks rules.NotChair
    ∷ not (is_next now to) breaks rules.WrongPhase
    ∷ []

-- a deadline: the caller's standing, the phase now, and the phase whose deadline is set or taken away
abbrev pub deadline_checks : Standing → Phase → Phase → List Check
deadline_checks by now phase =
    not (is_chair by.role) breaks rules.NotChair
    ∷ not (is_from now phase) breaks rules.WrongPhase
    ∷ []

-- What a phase opens, and its deadline ends, takes last whether it is too late: the current phase has a deadline,
-- and the moment of the request is past it.

-- a submission: whether a co-author isn't there, the caller's standing, how many papers there are, how many of them the
-- caller submitted, and whether it is too late
abbrev pub submit_checks : Bool → Standing → ℕ → ℕ → Bool → List Check
submit_checks missing by count own late =
    missing breaks rules.NoUser
    ∷ not (accepts_submissions by.phase) breaks rules.WrongPhase
    ∷ late breaks rules.Late
    ∷ nat_le 9999 count breaks rules.FullPapers
    ∷ nat_le 20 own breaks rules.QuotaPapers
    ∷ []

-- a paper's page: the caller's standing at the paper, whether it is accepted, and the paper
abbrev pub page_checks : Standing → Bool → NamedPaper → List Check
page_checks by accepted paper =
    not paper.there breaks rules.NoPaper
    ∷ not (is_admitted by || by.author || accepted) breaks rules.NotMember
    ∷ []

-- a revision or a withdrawal: the caller's standing, the paper, and whether it is too late
abbrev pub revise_checks : Standing → NamedPaper → Bool → List Check
revise_checks by paper late =
    not paper.there breaks rules.NoPaper
    ∷ not by.author breaks rules.NotAuthor
    ∷ not (papers_may_change by.phase) breaks rules.WrongPhase
    ∷ late breaks rules.Late
    ∷ paper.withdrawn breaks rules.Withdrawn
    ∷ []

-- an upload: the caller's standing, the paper, how many bytes the caller has uploaded, how many this one has, and
-- whether it is too late
abbrev pub upload_checks : Standing → NamedPaper → ℕ → ℕ → Bool → List Check
upload_checks by paper own more late =
    revise_checks by paper late ++ nat_lt 67108864 (own + more) breaks rules.QuotaBytes ∷ []

-- the caller may read the paper's content without being on the committee: is its author, or the paper, which this
-- `Bool` says is accepted or not, is published
abbrev pub reads_freely : Standing → Bool → Bool
reads_freely by accepted = by.author || is_published by.phase accepted

-- a paper's content: the caller's standing, whether the paper is accepted, the paper, and whether the version that is
-- asked for is told to the caller
abbrev pub content_checks : Standing → Bool → NamedPaper → Bool → List Check
content_checks by accepted paper found =
    let free = reads_freely by accepted in
    not paper.there breaks rules.NoPaper
    ∷ not (free || is_admitted by) breaks rules.NotMember
    ∷ (not free && by.conflicted) breaks rules.Conflict
    ∷ not (free || members_see_papers by.phase) breaks rules.WrongPhase
    ∷ not found breaks rules.NoContent
    ∷ []

-- an appointment: the caller's standing, the user named, and the role that the user is to have
abbrev pub name_checks : Standing → Option Target → Role → List Check
name_checks by target role =
    is_none target breaks rules.NoUser
    ∷ not (is_chair by.role) breaks rules.NotChair
    ∷ roles_are_final by.phase breaks rules.WrongPhase
    ∷ nat_le (role_number role) (role_number (target_role target)) breaks rules.AlreadyNamed
    ∷ []

-- a dismissal: the caller's standing, the user named, and how many chairs there are
abbrev pub dismiss_checks : Standing → Option Target → ℕ → List Check
dismiss_checks by target chairs =
    is_none target breaks rules.NoUser
    ∷ not (is_chair by.role) breaks rules.NotChair
    ∷ roles_are_final by.phase breaks rules.WrongPhase
    ∷ not (is_member (target_role target)) breaks rules.NotAMember
    ∷ (is_chair (target_role target) && nat_le chairs 1) breaks rules.LastChair
    ∷ []

-- a mode: the caller's standing, and the phase now
abbrev pub mode_checks : Standing → Phase → List Check
mode_checks by now =
    not (is_chair by.role) breaks rules.NotChair
    ∷ not (mode_may_be_set now) breaks rules.WrongPhase
    ∷ []

-- ---- conflict: each list is of a paper that is there; the first `Bool` says whether it is withdrawn

-- turned on before the bidding: authors declare members in conflict, unless it is too late. The caller's standing, the
-- user named, and whether it is too late.
abbrev pub declare_checks : Standing → Bool → Target → Bool → List Check
declare_checks by withdrawn target late =
    not by.author breaks rules.NotAuthor
    ∷ late breaks rules.Late
    ∷ withdrawn breaks rules.Withdrawn
    ∷ not (is_member target.role) breaks rules.NotAMember
    ∷ []

-- turned on from the bidding to the discussion by the user whom it names: a member, of themselves
abbrev pub own_checks : Standing → Bool → List Check
own_checks by withdrawn =
    not (is_member by.role) breaks rules.NotMember
    ∷ withdrawn breaks rules.Withdrawn
    ∷ []

-- turned on from the bidding to the discussion by another: unconflicted chairs declare members, and externals of the
-- paper, in conflict
abbrev pub other_checks : Standing → Bool → Target → List Check
other_checks by withdrawn target =
    not (is_chair by.role) breaks rules.NotChair
    ∷ by.conflicted breaks rules.Conflict
    ∷ withdrawn breaks rules.Withdrawn
    ∷ not (is_of_paper target) breaks rules.NotAMember
    ∷ []

-- turned on after the discussion: never
abbrev pub final_checks : List Check
final_checks =
    true breaks rules.WrongPhase
    ∷ []

-- what unconflicted chairs do from the bidding to the discussion, of a paper that isn't withdrawn
abbrev pub chair_checks : Standing → Bool → List Check
chair_checks by withdrawn =
    not (is_chair by.role) breaks rules.NotChair
    ∷ by.conflicted breaks rules.Conflict
    ∷ not (committee_works by.phase) breaks rules.WrongPhase
    ∷ withdrawn breaks rules.Withdrawn
    ∷ []

-- turned off: by unconflicted chairs from the bidding to the discussion, of members and externals of the paper who are
-- no authors. The caller's standing, whether the paper is withdrawn, and the user named.
abbrev pub off_checks : Standing → Bool → Target → List Check
off_checks by withdrawn target =
    chair_checks by withdrawn
    ++ not (is_of_paper target) breaks rules.NotAMember
    ∷ target.author breaks rules.AuthorConflict
    ∷ []

-- which of these five lists applies: by whether the conflict is turned on, whether authors may no longer declare, and
-- whether conflicts are final; then what the lists read, with whether it is too late for authors
abbrev pub conflict_case : Bool → Bool → Bool → Standing → Bool → Target → Bool → List Check
conflict_case false declared final by withdrawn target late = off_checks by withdrawn target
conflict_case true false final by withdrawn target late = declare_checks by withdrawn target late
conflict_case true true true by withdrawn target late = final_checks
conflict_case true true false by withdrawn target late =
    if target.herself then own_checks by withdrawn else other_checks by withdrawn target

-- a conflict that is turned on, by the phase: the caller's standing, whether the paper is withdrawn, the user named,
-- and whether it is too late for authors
abbrev pub on_checks : Standing → Bool → Target → Bool → List Check
on_checks by withdrawn target late =
    conflict_case true (authors_have_declared by.phase) (conflicts_are_final by.phase) by withdrawn target late

-- a conflict: the caller's standing, the paper, the user named, whether it is turned on, and whether it is too late for
-- authors
abbrev pub conflict_checks : Standing → NamedPaper → Option Target → Bool → Bool → List Check
conflict_checks by paper target on late =
    not paper.there breaks rules.NoPaper
    ∷ is_none target breaks rules.NoUser
    ∷ about target (λ (user : Target). conflict_case on (authors_have_declared by.phase)
    (conflicts_are_final by.phase) by paper.withdrawn user late)

-- ---- bids and assignments

-- what only unconflicted members do: the caller's standing, and the paper
abbrev pub member_checks : Standing → NamedPaper → List Check
member_checks by paper =
    not paper.there breaks rules.NoPaper
    ∷ not (is_member by.role) breaks rules.NotMember
    ∷ by.conflicted breaks rules.Conflict
    ∷ []

-- a bid: the caller's standing, the paper, and whether it is too late
abbrev pub bid_checks : Standing → NamedPaper → Bool → List Check
bid_checks by paper late =
    member_checks by paper
    ++ not (bids_are_taken by.phase) breaks rules.WrongPhase
    ∷ late breaks rules.Late
    ∷ paper.withdrawn breaks rules.Withdrawn
    ∷ []

-- the first rules of assigning, unassigning, inviting and ending an invitation: the caller's standing, the paper, and
-- the user named
abbrev pub reviewer_checks : Standing → NamedPaper → Option Target → List Check
reviewer_checks by paper target =
    not paper.there breaks rules.NoPaper
    ∷ is_none target breaks rules.NoUser
    ∷ chair_checks by paper.withdrawn

-- an assignment: the caller's standing, the paper, the user named, and how many labels the paper's reviewers were given
abbrev pub assign_checks : Standing → NamedPaper → Option Target → ℕ → List Check
assign_checks by paper target labels =
    reviewer_checks by paper target
    ++ not (target_is is_of_paper target) breaks rules.NotAMember
    ∷ target_is (λ (user : Target). user.conflicted) target breaks rules.TargetConflict
    ∷ target_is (λ (user : Target). user.reviewer) target breaks rules.AlreadyAssigned
    ∷ nat_le 26 labels breaks rules.LabelsSpent
    ∷ []

-- the end of an assignment: the caller's standing, the paper, the user named, and whether a form was written under that
-- user's label
abbrev pub unassign_checks : Standing → NamedPaper → Option Target → Bool → List Check
unassign_checks by paper target written =
    reviewer_checks by paper target
    ++ not (target_is (λ (user : Target). user.reviewer) target) breaks rules.NotAssigned
    ∷ written breaks rules.HasReview
    ∷ []

-- an invitation: the caller's standing, the paper, the user named, and whether that user is invited to the paper
abbrev pub invite_checks : Standing → NamedPaper → Option Target → Bool → List Check
invite_checks by paper target invited =
    reviewer_checks by paper target
    ++ is_member (target_role target) breaks rules.IsMember
    ∷ target_is (λ (user : Target). user.conflicted) target breaks rules.TargetConflict
    ∷ invited breaks rules.AlreadyInvited
    ∷ []

-- the end of an invitation: the caller's standing, the paper, the user named, and whether that user is invited to the
-- paper
abbrev pub uninvite_checks : Standing → NamedPaper → Option Target → Bool → List Check
uninvite_checks by paper target invited =
    reviewer_checks by paper target
    ++ not invited breaks rules.NotInvited
    ∷ target_is (λ (user : Target). user.reviewer) target breaks rules.StillAssigned
    ∷ []

-- ---- reviews, responses, comments and tags

-- a form: the caller's standing, the paper, and whether it is too late
abbrev pub review_checks : Standing → NamedPaper → Bool → List Check
review_checks by paper late =
    not paper.there breaks rules.NoPaper
    ∷ not (is_admitted by) breaks rules.NotMember
    ∷ by.conflicted breaks rules.Conflict
    ∷ not by.reviewer breaks rules.NotReviewer
    ∷ not (reviews_are_written by.phase) breaks rules.WrongPhase
    ∷ late breaks rules.Late
    ∷ paper.withdrawn breaks rules.Withdrawn
    ∷ []

-- a response: the caller's standing, the paper, whether it has a response, and whether it is too late
abbrev pub respond_checks : Standing → NamedPaper → Bool → Bool → List Check
respond_checks by paper responded late =
    not paper.there breaks rules.NoPaper
    ∷ not by.author breaks rules.NotAuthor
    ∷ not (responses_are_written by.phase) breaks rules.WrongPhase
    ∷ late breaks rules.Late
    ∷ paper.withdrawn breaks rules.Withdrawn
    ∷ responded breaks rules.AlreadyResponded
    ∷ []

-- a comment: the caller's standing, the paper, how many comments the caller has written, and whether it is too late
abbrev pub comment_checks : Standing → NamedPaper → ℕ → Bool → List Check
comment_checks by paper own late =
    member_checks by paper
    ++ not (comments_are_written by.phase) breaks rules.WrongPhase
    ∷ late breaks rules.Late
    ∷ paper.withdrawn breaks rules.Withdrawn
    ∷ nat_le 1000 own breaks rules.QuotaComments
    ∷ []

-- a tag that is turned on or off: the caller's standing, the paper, and whether the tag is for chairs
abbrev pub tag_checks : Standing → NamedPaper → Bool → List Check
tag_checks by paper for_chairs =
    not paper.there breaks rules.NoPaper
    ∷ (for_chairs && not (is_chair by.role)) breaks rules.NotChair
    ∷ not (is_member by.role) breaks rules.NotMember
    ∷ by.conflicted breaks rules.Conflict
    ∷ not (committee_works by.phase) breaks rules.WrongPhase
    ∷ paper.withdrawn breaks rules.Withdrawn
    ∷ []

-- a decision: the caller's standing, and the paper
abbrev pub decide_checks : Standing → NamedPaper → List Check
decide_checks by paper =
    not paper.there breaks rules.NoPaper
    ∷ not (is_chair by.role) breaks rules.NotChair
    ∷ by.conflicted breaks rules.Conflict
    ∷ not (decisions_are_made by.phase) breaks rules.WrongPhase
    ∷ paper.withdrawn breaks rules.Withdrawn
    ∷ []

-- the caller may read all forms of a paper that the committee discusses: a member, from the discussion on
abbrev pub reads_all_forms : Standing → Bool
reads_all_forms by = is_member by.role && members_read_reviews by.phase

-- the caller may read the forms that they wrote of a paper: a reviewer of it, from the reviewing on and before the
-- discussion; an external also later
abbrev pub reads_own_forms : Standing → Bool
reads_own_forms by =
    by.reviewer && (reviewers_read_own by.phase || (by.external && externals_read_own by.phase))

-- a paper's reviews: the caller's standing, whether the response was opened, and the paper. Authors read them from the
-- notification on, and before it if the response was opened; others are in no conflict with the paper, and are members
-- from the discussion on, or review it.
abbrev pub reviews_checks : Standing → Bool → NamedPaper → List Check
reviews_checks by opened paper =
    not paper.there breaks rules.NoPaper
    ∷ (by.author && not (authors_read_reviews by.phase || opened)) breaks rules.WrongPhase
    ∷ not (by.author || is_admitted by) breaks rules.NotMember
    ∷ (not by.author && by.conflicted) breaks rules.Conflict
    ∷ not (by.author || reads_all_forms by || reads_own_forms by) breaks rules.WrongPhase
    ∷ []

-- the comments on a paper: the caller's standing, and the paper
abbrev pub comments_checks : Standing → NamedPaper → List Check
comments_checks by paper = member_checks by paper ++ not (members_read_comments by.phase) breaks rules.WrongPhase ∷ []

-- a paper's response: the caller's standing, the paper, and whether there is one. Authors read theirs at any time;
-- others are unconflicted members, from the discussion on.
abbrev pub response_checks : Standing → NamedPaper → Bool → List Check
response_checks by paper responded =
    not paper.there breaks rules.NoPaper
    ∷ not (by.author || is_member by.role) breaks rules.NotMember
    ∷ (not by.author && by.conflicted) breaks rules.Conflict
    ∷ not (by.author || members_read_responses by.phase) breaks rules.WrongPhase
    ∷ not responded breaks rules.NoResponse
    ∷ []
