-- SPDX-License-Identifier: Apache-2.0 OR MIT
-- Each reader's view of the small conference is the one that is written, and those who may not know see the same of
-- its twins.
use Rattle.std.proofs.Common.{refl, ◌≡◌}
use Rattle.std.proofs.lemmas.Bool.{true≢false}
use Rattle.cr_base.specs.declared.words.Mode.{Mode}
use Rattle.cr_base.specs.declared.words.Mode.TheVariants.{Overt, Blind, Anonymous}
use Rattle.cr_conference.specs.Conference.{dave, before_bidding, in_bidding, in_reviewing, verdicts, reversed}
use Rattle.cr_conference.specs.Conference.{in_discussion, at_notification, at_close}
use Rattle.cr_conference.specs.ConferenceLaws.{views_of, outside_of, ViewsBeforeBidding, ViewsInBidding}
use Rattle.cr_conference.specs.ConferenceLaws.{ViewsInReviewing}
use Rattle.cr_conference.specs.ConferenceLaws.{ViewsInDiscussion, ViewsAtNotification, ViewsAtClose, ViewsReversed}
use Rattle.cr_conference.specs.ConferenceLaws.{TwinsAlike, AsidesHidden, ViewsInResponse, ViewsBehindResponse}
use Rattle.cr_conference.specs.ConferenceLaws.{ViewsTold}
use Rattle.cr_conference.specs.ConferenceLaws.{RespondedAlike}
use Rattle.cr_conference.specs.ConferenceResponse.{in_response, behind_response, told_behind_response}
use Rattle.cr_conference.specs.ConferenceResponse.{views_in_response, views_behind_response, told_outside}
use Rattle.cr_conference.specs.ConferenceOutcomes.{views_in_discussion, views_at_notification, views_at_close}
use Rattle.cr_conference.specs.ConferenceOutcomes.{reversed_at_close}
use Rattle.cr_conference.specs.ConferenceViews.{views_before, views_in_bidding, views_in_reviewing}

-- ---- views: each is computed, in each mode

-- what holds in each mode
in_each_mode : (P : Mode → Type 0) → P Overt → P Blind → P Anonymous → (mode : Mode) → P mode
in_each_mode P overt blind anonymous Overt = overt
in_each_mode P overt blind anonymous Blind = blind
in_each_mode P overt blind anonymous Anonymous = anonymous

pub views-before : ViewsBeforeBidding
views-before d mode a =
    in_each_mode (λ mode. views_of (before_bidding d mode) ≡ views_before d mode) refl refl refl mode

pub views-bidding : ViewsInBidding
views-bidding d mode a =
    in_each_mode (λ mode. views_of (in_bidding d mode a dave) ≡ views_in_bidding d mode a) refl refl refl mode

pub views-reviewing : ViewsInReviewing
views-reviewing d mode a =
    in_each_mode (λ mode. views_of (in_reviewing d mode a dave) ≡ views_in_reviewing d mode a) refl refl refl mode

pub views-discussion : ViewsInDiscussion
views-discussion d mode a =
    in_each_mode (λ mode. views_of (in_discussion d mode a dave verdicts) ≡ views_in_discussion d mode a) refl refl refl
    mode

pub views-notification : ViewsAtNotification
views-notification d mode a =
    in_each_mode (λ mode. views_of (at_notification d mode a dave verdicts) ≡ views_at_notification d mode a) refl refl
    refl mode

pub views-close : ViewsAtClose
views-close d mode a =
    in_each_mode (λ mode. views_of (at_close d mode a dave verdicts) ≡ views_at_close d mode a) refl refl refl mode

pub views-reversed : ViewsReversed
views-reversed d mode a =
    in_each_mode (λ mode. outside_of (at_close d mode a dave reversed) ≡ reversed_at_close d mode a) refl refl refl mode

pub views-response : ViewsInResponse
views-response d mode a =
    in_each_mode (λ mode. views_of (in_response d mode a dave) ≡ views_in_response d mode a) refl refl refl mode

pub views-behind : ViewsBehindResponse
views-behind d mode a =
    in_each_mode (λ mode. views_of (behind_response d mode a dave) ≡ views_behind_response d mode a) refl refl refl mode

pub views-told : ViewsTold
views-told d mode a =
    in_each_mode (λ mode. outside_of (told_behind_response d mode a dave) ≡ told_outside d mode a) refl refl refl mode

-- ---- the twins

pub twins-alike : TwinsAlike
twins-alike d Overt a = record {
  author = refl;
  author_throughout = λ hidden. absurd (true≢false hidden);
  coauthor = refl;
  coauthor_throughout = λ hidden. absurd (true≢false hidden);
  conflicted_member = refl;
  conflicted_chair = refl;
}
twins-alike d mode a = record {
  author = refl;
  author_throughout = λ hidden. refl;
  coauthor = refl;
  coauthor_throughout = λ hidden. refl;
  conflicted_member = refl;
  conflicted_chair = refl;
}

pub responded-alike : RespondedAlike
responded-alike d Overt a = record { author = refl; coauthor = refl; conflicted_member = refl; conflicted_chair = refl }
responded-alike d mode a = record { author = refl; coauthor = refl; conflicted_member = refl; conflicted_chair = refl }

pub asides-hidden : AsidesHidden
asides-hidden d mode a b = record { author = refl; coauthor = refl; conflicted_member = refl; conflicted_chair = refl }
