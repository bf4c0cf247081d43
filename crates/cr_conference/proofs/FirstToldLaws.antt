-- SPDX-License-Identifier: Apache-2.0 OR MIT
-- Which rule is told in each case of the small conference: by computing.
use Rattle.std.proofs.Common.{true, [], ◌∷◌, refl, arith, Some}
use Rattle.std.specs.Prelude.{codes}
use Rattle.cr_base.specs.declared.command.Command.TheVariants.{Name, Dismiss, SetConflict, SetDeadline, SetPhase}
use Rattle.cr_base.specs.declared.command.Command.TheVariants.{Invite}
use Rattle.cr_base.specs.declared.words.Mode.TheVariants.{Blind}
use Rattle.cr_base.specs.declared.words.Phase.TheVariants.{Submission, Bidding, Response, Discussion}
use Rattle.cr_base.specs.declared.words.Role.TheVariants.{Chair}
use Rattle.cr_base.specs.Bulk.{row_command}
use Rattle.cr_base.specs.Deadlines.{IsDeadline}
use Rattle.cr_policy.specs.Witness.{morning}
use Rattle.cr_conference.specs.Conference.{alice, dave, Digests, AreDigests, Asides, AreAsides}
use Rattle.cr_conference.specs.FirstTold.{submission, bidding, reviewing, discussion, gus_a_chair, dave_in_conflict}
use Rattle.cr_conference.specs.FirstTold.{erin_in_conflict, carol_dismissed, responding, submission_due, bidding_due}
use Rattle.cr_conference.specs.FirstTold.{response_due, discussion_due, AreStagesLegal, FirstTold, OfTheConference}
use Rattle.cr_conference.specs.FirstTold.{OfPapers, OfConflicts, OfReviewers, OfExternals, OfTheDiscussion}
use Rattle.cr_conference.specs.FirstTold.{OfTheResponse}
use Rattle.cr_conference.specs.FirstTold.{OfQueries, OfBulks}
use Rattle.cr_conference.proofs.ConferenceProofs.{conference-legal, goes_on, by}

in_range : IsDeadline morning
in_range = (omega arith, omega arith)

stages-legal : (d : Digests) (a : Asides) → AreDigests d → AreAsides a → AreStagesLegal d a
stages-legal d a digests asides =
    let legal = conference-legal d Blind a digests asides in
    record {
      submission = legal.before.legal;
      bidding = legal.reviewed.bidding.legal;
      reviewing = legal.reviewed.reviewing.legal;
      discussion = legal.reviewed.discussion.legal;
      notification = legal.reviewed.notification.legal;
      gus_a_chair = goes_on (bidding d a) (gus_a_chair d a) (by alice (Name (Some (codes "gus")) Chair) refl ∷ []) refl
          legal.reviewed.bidding.legal;
      dave_in_conflict =
          goes_on (bidding d a) (dave_in_conflict d a)
          (by dave (SetConflict (Some 1) (Some (codes "dave")) true) tt ∷ []) refl legal.reviewed.bidding.legal;
      erin_in_conflict =
          goes_on (bidding d a) (erin_in_conflict d a)
          (by alice (Invite (Some 1) (Some (codes "erin"))) tt
          ∷ by alice (SetConflict (Some 1) (Some (codes "erin")) true) tt ∷ [])
          refl legal.reviewed.bidding.legal;
      carol_dismissed =
          goes_on (bidding d a) (carol_dismissed d a) (by alice (Dismiss (Some (codes "carol"))) tt ∷ []) refl
          legal.reviewed.bidding.legal;
      responding =
          goes_on (reviewing d a) (responding d a) (by alice (SetPhase Response) tt ∷ []) refl
          legal.reviewed.reviewing.legal;
      submission_due =
          goes_on (submission d a) (submission_due d a)
          (by alice (SetDeadline Submission (Some morning)) (refl, in_range) ∷ []) refl legal.before.legal;
      bidding_due =
          goes_on (bidding d a) (bidding_due d a) (by alice (SetDeadline Bidding (Some morning)) (refl, in_range) ∷ [])
          refl legal.reviewed.bidding.legal;
      response_due =
          goes_on (reviewing d a) (response_due d a)
          (by alice (SetPhase Response) tt ∷ by alice (SetDeadline Response (Some morning)) (refl, in_range) ∷ [])
          refl legal.reviewed.reviewing.legal;
      discussion_due =
          goes_on (discussion d a) (discussion_due d a)
          (by alice (SetDeadline Discussion (Some morning)) (refl, in_range) ∷ []) refl
          legal.reviewed.discussion.legal;
    }

conference-told : (d : Digests) (a : Asides) → OfTheConference d a
conference-told d a = record {
  name_nobody = refl;
  name_by_account = refl;
  name_out_of_phase = refl;
  dismiss_nobody = refl;
  dismiss_by_member = refl;
  dismiss_out_of_phase = refl;
  mode_by_account = refl;
  phase_by_account = refl;
  deadline_by_account = refl;
}

papers-told : (d : Digests) (a : Asides) → OfPapers d a
papers-told d a = record {
  submit_with_nobody = refl;
  submit_behind = refl;
  revise_none = refl;
  revise_others = refl;
  revise_out_of_phase = refl;
  revise_behind = refl;
  revise_late = refl;
  withdraw_none = refl;
  withdraw_others = refl;
  withdraw_out_of_phase = refl;
  withdraw_behind = refl;
  withdraw_late = refl;
  upload_none = refl;
  upload_others = refl;
  upload_out_of_phase = refl;
  upload_behind = refl;
  upload_late = refl;
  upload_withdrawn = λ content. refl;
}

conflicts-told : (d : Digests) (a : Asides) → OfConflicts d a
conflicts-told d a = record {
  declare_none = refl;
  declare_nobody = refl;
  declare_others = refl;
  declare_others_past = refl;
  declare_late = refl;
  declare_withdrawn = refl;
  declare_oneself = refl;
  other_nobody = refl;
  other_by_member = refl;
  other_in_conflict = refl;
  other_withdrawn = refl;
  late_nobody = refl;
  off_none = refl;
  off_nobody = refl;
  off_by_member = refl;
  off_in_conflict = refl;
  off_early = refl;
  off_withdrawn = refl;
  off_of_author = refl;
}

reviewers-told : (d : Digests) (a : Asides) → OfReviewers d a
reviewers-told d a = record {
  bid_none = refl;
  bid_by_account = refl;
  bid_in_conflict = refl;
  bid_early = refl;
  bid_behind = refl;
  bid_late = refl;
  assign_none = refl;
  assign_nobody = refl;
  assign_by_member = refl;
  assign_in_conflict = refl;
  assign_early = refl;
  assign_withdrawn = refl;
  assign_author = refl;
  assign_again = refl;
  unassign_none = refl;
  unassign_nobody = refl;
  unassign_by_member = refl;
  unassign_in_conflict = refl;
  unassign_early = refl;
  unassign_withdrawn = refl;
}

externals-told : (d : Digests) (a : Asides) → OfExternals d a
externals-told d a = record {
  invite_none = refl;
  invite_nobody = refl;
  invite_by_member = refl;
  invite_in_conflict = refl;
  invite_early = refl;
  invite_withdrawn = refl;
  invite_member = refl;
  invite_in_conflict_again = refl;
  uninvite_none = refl;
  uninvite_nobody = refl;
  uninvite_by_member = refl;
  uninvite_in_conflict = refl;
  uninvite_early = refl;
  uninvite_withdrawn = refl;
  uninvite_reviewer = refl;
}

discussion-told : (d : Digests) (a : Asides) → OfTheDiscussion d a
discussion-told d a = record {
  review_none = refl;
  review_by_author = refl;
  review_in_conflict = refl;
  review_others = refl;
  review_withdrawn = refl;
  review_behind = refl;
  comment_none = refl;
  comment_by_author = refl;
  comment_in_conflict = refl;
  comment_early = refl;
  comment_behind = refl;
  comment_late = refl;
  tag_none = refl;
  tag_for_chairs = refl;
  tag_by_author = refl;
  tag_in_conflict = refl;
  tag_early = refl;
  decide_none = refl;
  decide_by_member = refl;
  decide_in_conflict = refl;
  decide_early = refl;
}

response-told : (d : Digests) (a : Asides) → OfTheResponse d a
response-told d a = record {
  respond_none = refl;
  respond_others = refl;
  respond_early = refl;
  respond_behind = refl;
  respond_late = refl;
}

queries-told : (d : Digests) (a : Asides) → OfQueries d a
queries-told d a = record {
  page_none = refl;
  content_none = refl;
  content_to_account = refl;
  content_to_dismissed = refl;
  content_in_conflict = refl;
  content_early = refl;
  reviews_none = refl;
  reviews_to_account = refl;
  reviews_to_dismissed = refl;
  reviews_in_conflict = refl;
  response_none = refl;
  response_to_account = refl;
  response_to_dismissed = refl;
  response_in_conflict = refl;
  response_early = refl;
  comments_none = refl;
  comments_to_author = refl;
  comments_in_conflict = refl;
  papers_to_account = refl;
  scores_to_account = refl;
  load_to_member = refl;
  decisions_to_account = refl;
  letter_none = refl;
  letter_to_others = refl;
  plan_to_member = refl;
  plan_early = refl;
}

bulks-told : (d : Digests) (a : Asides) → OfBulks d a
unfolding row_command
bulks-told d a = record {
  bulk_by_member = refl;
  bulk_early = refl;
  row_bad_action = refl;
  row_bad_tag = refl;
  row_of_herself = refl;
  row_first = refl;
}

pub first_told : FirstTold
first_told d a = record {
  legal = stages-legal d a;
  conference = conference-told d a;
  papers = papers-told d a;
  conflicts = conflicts-told d a;
  reviewers = reviewers-told d a;
  externals = externals-told d a;
  discussion = discussion-told d a;
  response = response-told d a;
  queries = queries-told d a;
  bulks = bulks-told d a;
}
