-- SPDX-License-Identifier: Apache-2.0 OR MIT
use Rattle.cr_conference.proofs.ConferenceProofs.{conference-legal}
use Rattle.cr_conference.proofs.ConferenceSeen.{views-before, views-bidding, views-reviewing, views-discussion}
use Rattle.cr_conference.proofs.ConferenceSeen.{views-notification, views-close, views-reversed, views-response}
use Rattle.cr_conference.proofs.ConferenceSeen.{views-behind, views-told, twins-alike, responded-alike, asides-hidden}
use Rattle.cr_conference.proofs.ConferenceVerdicts.{verdicts-hidden}
use Rattle.cr_conference.proofs.law_views.Goals as goal

pub returns : goal.returns
returns c = record {
  legal = conference-legal;
  before = views-before;
  bidding = views-bidding;
  reviewing = views-reviewing;
  discussion = views-discussion;
  notification = views-notification;
  closed = views-close;
  reversed = views-reversed;
  response = views-response;
  behind_response = views-behind;
  told = views-told;
  twins = twins-alike;
  responded_twins = responded-alike;
  asides = asides-hidden;
  verdicts = verdicts-hidden;
}
