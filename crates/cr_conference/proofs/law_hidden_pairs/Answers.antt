-- SPDX-License-Identifier: Apache-2.0 OR MIT
use Rattle.cr_conference.proofs.HiddenPairProofs.{digest-hidden, namer-hidden, mode_setter-hidden}
use Rattle.cr_conference.proofs.HiddenPairProofs.{phase_setter-hidden}
use Rattle.cr_conference.proofs.HiddenPairProofs.{deadline_setter-hidden, moment-hidden, key-hidden, title-hidden}
use Rattle.cr_conference.proofs.HiddenPairProofs.{abstract-hidden, submitter-hidden, coauthor-hidden, revision-hidden}
use Rattle.cr_conference.proofs.HiddenPairProofs.{reviser-hidden, content-hidden, uploader-hidden, withdrawer-hidden}
use Rattle.cr_conference.proofs.HiddenPairProofs.{declared-hidden, switch-hidden, declarer-hidden, bid-hidden}
use Rattle.cr_conference.proofs.HiddenPairProofs.{bidder-hidden, tag-hidden, tagger-hidden, assigned-hidden}
use Rattle.cr_conference.proofs.HiddenPairProofs.{seat-hidden}
use Rattle.cr_conference.proofs.HiddenPairProofs.{assigner-hidden, unassigned-hidden, unassigner-hidden, form-hidden}
use Rattle.cr_conference.proofs.HiddenPairProofs.{form-hidden_from_members, to_pc-hidden, reviewer-hidden}
use Rattle.cr_conference.proofs.HiddenPairProofs.{comment-hidden}
use Rattle.cr_conference.proofs.HiddenPairProofs.{writer-hidden, decision-hidden, decider-hidden, comment-removable}
use Rattle.cr_conference.proofs.HiddenPairProofs.{version-removable, dismisser-hidden, invited-hidden, inviter-hidden}
use Rattle.cr_conference.proofs.HiddenPairProofs.{uninvited-hidden, uninviter-hidden, seat-hidden_from_external}
use Rattle.cr_conference.proofs.HiddenPairProofs.{bid-hidden_from_external, tag-hidden_from_external}
use Rattle.cr_conference.proofs.HiddenPairProofs.{comment-hidden_from_external, early_to_pc-hidden}
use Rattle.cr_conference.proofs.HiddenPairProofs.{early_reviewer-hidden}
use Rattle.cr_conference.proofs.HiddenPairProofs.{late_form-hidden, response-hidden, response-hidden_from_accounts}
use Rattle.cr_conference.proofs.HiddenPairProofs.{responder-hidden}
use Rattle.cr_conference.proofs.law_hidden_pairs.Goals as goal

pub returns : goal.returns
returns c = record {
  digests = digest-hidden;
  namers = namer-hidden;
  mode_setters = mode_setter-hidden;
  phase_setters = phase_setter-hidden;
  deadline_setters = deadline_setter-hidden;
  moments = moment-hidden;
  keys = key-hidden;
  titles = title-hidden;
  abstracts = abstract-hidden;
  submitters = submitter-hidden;
  coauthors = coauthor-hidden;
  revisions = revision-hidden;
  revisers = reviser-hidden;
  contents = content-hidden;
  uploaders = uploader-hidden;
  withdrawers = withdrawer-hidden;
  declared = declared-hidden;
  switches = switch-hidden;
  declarers = declarer-hidden;
  bids = bid-hidden;
  bidders = bidder-hidden;
  tags = tag-hidden;
  taggers = tagger-hidden;
  assigned = assigned-hidden;
  seats = seat-hidden;
  assigners = assigner-hidden;
  dismissers = dismisser-hidden;
  invited = invited-hidden;
  inviters = inviter-hidden;
  uninvited = uninvited-hidden;
  uninviters = uninviter-hidden;
  seats_from_externals = seat-hidden_from_external;
  bids_from_externals = bid-hidden_from_external;
  tags_from_externals = tag-hidden_from_external;
  comments_from_externals = comment-hidden_from_external;
  unassigned = unassigned-hidden;
  unassigners = unassigner-hidden;
  forms = form-hidden;
  forms_to_members = form-hidden_from_members;
  to_pc = to_pc-hidden;
  reviewers = reviewer-hidden;
  early_to_pc = early_to_pc-hidden;
  early_reviewers = early_reviewer-hidden;
  late_forms = late_form-hidden;
  responses = response-hidden;
  responses_to_accounts = response-hidden_from_accounts;
  responders = responder-hidden;
  comments = comment-hidden;
  writers = writer-hidden;
  decisions = decision-hidden;
  deciders = decider-hidden;
  removed_comment = comment-removable;
  removed_version = version-removable;
}
