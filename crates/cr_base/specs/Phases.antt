-- SPDX-License-Identifier: Apache-2.0 OR MIT
-- The order of phases, and what each opens and ends: each definition says of a phase whether something may be done or
-- seen in it. All other definitions go by these. By CoCon's phases a conference only moves forward; what is done and
-- seen in them, and the authors' response, is the HotCRP manual's.
use Rattle.std.specs.Prelude.{ℕ, Bool, not, ◌&&◌, ◌||◌, ◌==◌, ◌+◌, nat_le}
use Rattle.cr_base.specs.declared.words.Phase.{Phase}
use Rattle.cr_base.specs.declared.words.Phase.TheVariants.{Setup, Submission, Bidding, Reviewing}
use Rattle.cr_base.specs.declared.words.Phase.TheVariants.{Response, Discussion, Notification, Closed}

-- ---- the order

-- the rank of a phase in the order, from 0. It isn't the phase's number in rows (`phase_number`), which goes by when
-- the server got each phase.
abbrev pub phase_rank : Phase → ℕ
phase_rank Setup = 0
phase_rank Submission = 1
phase_rank Bidding = 2
phase_rank Reviewing = 3
phase_rank Response = 4
phase_rank Discussion = 5
phase_rank Notification = 6
phase_rank Closed = 7

-- the second phase is the first, or a later one
abbrev pub is_from : Phase → Phase → Bool
is_from first phase = nat_le (phase_rank first) (phase_rank phase)

-- the two phases are equal
abbrev pub is_phase : Phase → Phase → Bool
is_phase phase other = phase_rank phase == phase_rank other

-- going from the first phase to the second skips the response: from the reviewing to the discussion
abbrev pub skips_response : Phase → Phase → Bool
skips_response phase next = is_phase phase Reviewing && is_phase next Discussion

-- the second phase may follow the first: it is the next one in the order, or the one after the response, which is
-- skipped
abbrev pub is_next : Phase → Phase → Bool
is_next phase next = phase_rank next == phase_rank phase + 1 || skips_response phase next

-- ---- what is done

-- chairs may set a deadline of the phase, by which what it opens has to be done
abbrev pub may_have_deadline : Phase → Bool
may_have_deadline phase = is_from Submission phase && not (is_from Notification phase)

-- chairs choose the mode, which says who sees whose names: before the first paper comes
abbrev pub mode_may_be_set : Phase → Bool
mode_may_be_set phase = is_phase phase Setup

-- papers are submitted
abbrev pub accepts_submissions : Phase → Bool
accepts_submissions phase = is_phase phase Submission

-- authors revise their papers, upload contents and withdraw papers
abbrev pub papers_may_change : Phase → Bool
papers_may_change phase = is_phase phase Submission

-- authors may no longer declare conflicts: the committee does
abbrev pub authors_have_declared : Phase → Bool
authors_have_declared phase = is_from Bidding phase

-- no user turns a conflict on or off any more
abbrev pub conflicts_are_final : Phase → Bool
conflicts_are_final phase = is_from Notification phase

-- no user is appointed a member or a chair, or dismissed, any more
abbrev pub roles_are_final : Phase → Bool
roles_are_final phase = is_from Notification phase

-- the committee works on the papers: chairs turn conflicts off, assign and unassign reviewers, invite externals and end
-- invitations, and send bulks; members tag
abbrev pub committee_works : Phase → Bool
committee_works phase = is_from Bidding phase && not (is_from Notification phase)

-- members bid for papers
abbrev pub bids_are_taken : Phase → Bool
bids_are_taken phase = is_phase phase Bidding

-- reviewers write their forms
abbrev pub reviews_are_written : Phase → Bool
reviews_are_written phase = is_phase phase Reviewing || is_phase phase Discussion

-- authors respond to the reviews of their papers
abbrev pub responses_are_written : Phase → Bool
responses_are_written phase = is_phase phase Response

-- members comment on papers
abbrev pub comments_are_written : Phase → Bool
comments_are_written phase = is_phase phase Discussion

-- chairs decide what becomes of papers
abbrev pub decisions_are_made : Phase → Bool
decisions_are_made phase = is_phase phase Discussion

-- ---- what the committee sees

-- members and externals see the papers: titles and withdrawals, and of papers with which they are in no conflict
-- abstracts and contents; externals see nothing of papers with which they are in conflict
abbrev pub members_see_papers : Phase → Bool
members_see_papers phase = is_from Bidding phase

-- chairs, and members and externals if the mode lets them, see who wrote a paper
abbrev pub committee_sees_authors : Phase → Bool
committee_sees_authors phase = is_from Bidding phase

-- chairs see who is in conflict with a paper
abbrev pub chairs_see_conflicts : Phase → Bool
chairs_see_conflicts phase = is_from Bidding phase

-- members see what they bid
abbrev pub members_see_own_bids : Phase → Bool
members_see_own_bids phase = is_from Bidding phase

-- chairs see what every member bid
abbrev pub chairs_see_bids : Phase → Bool
chairs_see_bids phase = is_from Bidding phase

-- members see the committee's tags, and chairs those for chairs
abbrev pub committee_sees_tags : Phase → Bool
committee_sees_tags phase = is_from Bidding phase

-- chairs see who reviews a paper, and how much each member has to review
abbrev pub chairs_see_reviewers : Phase → Bool
chairs_see_reviewers phase = is_from Bidding phase

-- members see who else reviews a paper, by names if the mode lets them
abbrev pub members_see_reviewers : Phase → Bool
members_see_reviewers phase = is_from Discussion phase

-- the phase from which members read each other's reviews. Of the forms under a label that were written before it they
-- read the last, and all that are written from it on.
abbrev pub committee_reads_from : Phase
committee_reads_from = Discussion

-- reviewers read their own forms, and no other reviewer's yet
abbrev pub reviewers_read_own : Phase → Bool
reviewers_read_own phase = is_from Reviewing phase && not (is_from committee_reads_from phase)

-- externals who review a paper read their own forms, and never another's
abbrev pub externals_read_own : Phase → Bool
externals_read_own phase = is_from Reviewing phase

-- members read each other's reviews
abbrev pub members_read_reviews : Phase → Bool
members_read_reviews phase = is_from committee_reads_from phase

-- members read comments
abbrev pub members_read_comments : Phase → Bool
members_read_comments phase = is_from Discussion phase

-- members read what authors responded
abbrev pub members_read_responses : Phase → Bool
members_read_responses phase = is_from Discussion phase

-- members read what was decided
abbrev pub members_read_decisions : Phase → Bool
members_read_decisions phase = is_from Discussion phase

-- ---- what authors and everyone are told

-- authors read of each label the form to which they respond: the last that was written before the response
abbrev pub authors_read_early_reviews : Phase → Bool
authors_read_early_reviews phase = is_from Response phase

-- authors read the last form of each label of their papers
abbrev pub authors_read_reviews : Phase → Bool
authors_read_reviews phase = is_from Notification phase

-- authors see who reviewed their papers, if the mode lets them
abbrev pub authors_see_reviewers : Phase → Bool
authors_see_reviewers phase = is_from Notification phase

-- authors read what was decided on their papers
abbrev pub authors_read_decisions : Phase → Bool
authors_read_decisions phase = is_from Notification phase

-- a paper's authors may have the letter with what was decided of it
abbrev pub letters_are_sent : Phase → Bool
letters_are_sent phase = is_from Notification phase

-- a decision to accept a paper is public
abbrev pub papers_may_be_accepted : Phase → Bool
papers_may_be_accepted phase = is_from Notification phase

-- every user, and an unauthenticated caller, may read the accepted papers
abbrev pub papers_are_published : Phase → Bool
papers_are_published phase = is_from Closed phase
