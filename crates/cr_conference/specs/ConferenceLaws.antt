-- SPDX-License-Identifier: Apache-2.0 OR MIT
-- The laws of the small conference: it is legal, and its readers' views are those that are written down. Readers who
-- may not know who reviews a paper, what the committee says of it, or what is decided on it, have views that don't
-- depend on these.
use Rattle.std.specs.Prelude.{ℕ, ◌≡◌, List, [], ◌∷◌, ◌++◌, Option, Some, None, map, filter, IsFalse}
use Rattle.cr_base.specs.declared.words.Decision.{Decision}
use Rattle.cr_base.specs.declared.words.Decision.TheVariants.{Accept, Reject}
use Rattle.cr_base.specs.declared.words.Kind.{Kind}
use Rattle.cr_base.specs.declared.words.Kind.TheVariants.{Primary, Secondary, Pc}
use Rattle.cr_base.specs.declared.words.Mode.{Mode}
use Rattle.cr_base.specs.declared.words.Role.{Role}
use Rattle.cr_base.specs.declared.words.Role.TheVariants.{Account, Member, Chair}
use Rattle.cr_base.specs.HistoryFacts.{role_of, papers_of, authors_of, is_conflicted, is_external}
use Rattle.cr_base.specs.HistoryFacts.{is_withdrawn, reviewers_of, decision_of, is_accepted}
use Rattle.cr_base.specs.History.{History, SeatTold}
use Rattle.cr_base.specs.Words.{is_overt}
use Rattle.cr_policy.specs.Legal.{Legal}
use Rattle.cr_policy.specs.View.{View, view}
use Rattle.cr_conference.specs.Conference.{alice, bob, carol, dave, erin, fay, gus, hal, ivy}
use Rattle.cr_conference.specs.Conference.{cast, Digests, AreDigests, Asides, AreAsides}
use Rattle.cr_conference.specs.Conference.{before_bidding, in_bidding, in_reviewing}
use Rattle.cr_conference.specs.Conference.{Verdicts, verdicts, reversed, in_discussion}
use Rattle.cr_conference.specs.Conference.{at_notification, at_close}
use Rattle.cr_conference.specs.ConferenceViews.{Views, views_before, views_in_bidding, views_in_reviewing}
use Rattle.cr_conference.specs.ConferenceOutcomes.{views_in_discussion, views_at_notification}
use Rattle.cr_conference.specs.ConferenceOutcomes.{views_at_close, Outside, reversed_at_close}
use Rattle.cr_conference.specs.ConferenceResponse.{in_response, behind_response, told_behind_response}
use Rattle.cr_conference.specs.ConferenceResponse.{views_in_response, views_behind_response, told_outside}

-- ---- it is legal

-- the accepted papers
abbrev pub accepted_of : History → List ℕ
accepted_of H = filter (λ paper. is_accepted paper H) (papers_of H)

-- what each of the nine users is: their roles; of each paper its authors, those in conflict with it, its reviewers, its
-- externals and the last decision on it; and which papers are withdrawn, and which accepted
pub record Casting : Type 0 where
  pub roles : List Role
  pub authors : List (List ℕ)
  pub conflicted : List (List ℕ)
  pub reviewers : List (List SeatTold)
  pub externals : List (List ℕ)
  pub withdrawn : List ℕ
  pub decisions : List (Option Decision)
  pub accepted : List ℕ

-- what each of the nine users is at the end of this history
abbrev pub casting_of : History → Casting
casting_of H = record {
  roles = map (λ user. role_of (Some user) H) cast;
  authors = map (λ paper. authors_of paper H) (papers_of H);
  conflicted = map (λ paper. filter (λ user. is_conflicted (Some user) paper H) cast) (papers_of H);
  reviewers = map (λ paper. reviewers_of paper H) (papers_of H);
  externals = map (λ paper. filter (λ user. is_external (Some user) paper H) cast) (papers_of H);
  withdrawn = filter (λ paper. is_withdrawn paper H) (papers_of H);
  decisions = map (λ paper. decision_of paper H) (papers_of H);
  accepted = accepted_of H;
}

-- the casting with these reviewers and externals. alice, carol, dave, fay and hal are the committee; carol and fay are
-- in conflict with paper 1, and no member with the others. bob and gus wrote paper 1, and gus papers 2 and 3, of which
-- the last is withdrawn. No decision is made yet.
abbrev pub reviewed_by : List (List SeatTold) → List (List ℕ) → Casting
reviewed_by reviewers externals = record {
  roles = Chair ∷ Account ∷ Member ∷ Member ∷ Account ∷ Chair ∷ Account ∷ Member ∷ Account ∷ [];
  authors = (bob ∷ gus ∷ []) ∷ (gus ∷ []) ∷ (gus ∷ []) ∷ [];
  conflicted = (bob ∷ carol ∷ fay ∷ gus ∷ []) ∷ (gus ∷ []) ∷ (gus ∷ []) ∷ [];
  reviewers = reviewers;
  externals = externals;
  withdrawn = 3 ∷ [];
  decisions = None ∷ None ∷ None ∷ [];
  accepted = [];
}

-- the history is legal, and the users are what this casting says
pub record IsConference (H : History) (casting : Casting) : Type 0 where
  pub legal : Legal H
  pub cast : casting_of H ≡ casting

-- a reviewer: the ordinal of the label, the kind, and the user
abbrev pub reviewing : ℕ → Kind → ℕ → SeatTold
reviewing ordinal kind user = record { ordinal = ordinal; kind = Some kind; user = Some user }

-- the casting before the bidding: no paper has a reviewer
abbrev pub by_none : Casting
by_none = reviewed_by ([] ∷ [] ∷ [] ∷ []) ([] ∷ [] ∷ [] ∷ [])

-- the casting in which paper 1 has these reviewers, and fay and the external ivy review paper 2
abbrev pub with_ivy : List SeatTold → Casting
with_ivy first =
    reviewed_by (first ∷ (reviewing 1 Pc fay ∷ reviewing 2 Secondary ivy ∷ []) ∷ [] ∷ []) ([] ∷ (ivy ∷ []) ∷ [] ∷ [])

-- the casting in the bidding, after this member was assigned to paper 1
abbrev pub by_first : ℕ → Casting
by_first member = with_ivy (reviewing 1 Primary member ∷ reviewing 2 Secondary alice ∷ [])

-- the casting from the reviewing on, after this member was assigned again
abbrev pub by_last : ℕ → Casting
by_last member = with_ivy (reviewing 2 Secondary alice ∷ reviewing 3 Pc member ∷ [])

-- the casting after the chairs have decided, if these papers are accepted
abbrev pub decided_by : ℕ → List ℕ → Casting
decided_by member accepted =
    record (by_last member) { decisions = Some Accept ∷ Some Reject ∷ None ∷ []; accepted = accepted }

-- what the conference is in each phase from the bidding on, if this member is assigned to paper 1
pub record IsReviewed (d : Digests) (mode : Mode) (a : Asides) (member : ℕ) : Type 0 where
  pub bidding : IsConference (in_bidding d mode a member) (by_first member)
  pub reviewing : IsConference (in_reviewing d mode a member) (by_last member)
  pub discussion : IsConference (in_discussion d mode a member verdicts) (decided_by member [])
  pub notification : IsConference (at_notification d mode a member verdicts) (decided_by member (1 ∷ []))
  pub closed : IsConference (at_close d mode a member verdicts) (decided_by member (1 ∷ []))

-- the conference is legal in each phase from the discussion on, whatever the chairs decide
pub record IsDecided (d : Digests) (mode : Mode) (a : Asides) (v : Verdicts) : Type 0 where
  pub discussion : Legal (in_discussion d mode a dave v)
  pub notification : Legal (at_notification d mode a dave v)
  pub closed : Legal (at_close d mode a dave v)

-- what the conference with a response is from there on, if this member is assigned to paper 1
pub record IsResponded (d : Digests) (mode : Mode) (a : Asides) (member : ℕ) : Type 0 where
  pub response : IsConference (in_response d mode a member) (by_last member)
  pub discussion : IsConference (behind_response d mode a member) (by_last member)
  pub notification : IsConference (told_behind_response d mode a member) (by_last member)

-- the conference and its twin, with other decisions and with a response, are legal, and the users are what the castings
-- say
pub record IsLegal (d : Digests) (mode : Mode) (a : Asides) : Type 0 where
  pub before : IsConference (before_bidding d mode) by_none
  pub reviewed : IsReviewed d mode a dave
  pub twin : IsReviewed d mode a hal
  pub decided : (v : Verdicts) → IsDecided d mode a v
  pub responded : IsResponded d mode a dave
  pub responded_twin : IsResponded d mode a hal

-- IsLegal holds, whatever the digests, the mode and what the committee says
abbrev pub ConferenceLegal : Type 0
ConferenceLegal = (d : Digests) (mode : Mode) (a : Asides) → AreDigests d → AreAsides a → IsLegal d mode a

-- ---- what each reader sees of it

-- the views of all kinds of readers at the end of a history
abbrev pub views_of : History → Views
views_of H = record {
  nobody = view None H;
  account = view (Some erin) H;
  external = view (Some ivy) H;
  author = view (Some bob) H;
  coauthor = view (Some gus) H;
  member = view (Some hal) H;
  reviewer = view (Some dave) H;
  conflicted_member = view (Some carol) H;
  chair = view (Some alice) H;
  conflicted_chair = view (Some fay) H;
}

-- these are the readers' views of this history, whatever the digests, the mode and what the committee says
abbrev pub AreViews : (Digests → Mode → Asides → History) → (Digests → Mode → Asides → Views) → Type 0
AreViews history views = (d : Digests) (mode : Mode) (a : Asides) → views_of (history d mode a) ≡ views d mode a

-- the readers' views before the bidding
abbrev pub ViewsBeforeBidding : Type 0
ViewsBeforeBidding = AreViews (λ d mode a. before_bidding d mode) (λ d mode a. views_before d mode)

-- the readers' views in the bidding
abbrev pub ViewsInBidding : Type 0
ViewsInBidding = AreViews (λ d mode a. in_bidding d mode a dave) views_in_bidding

-- the readers' views in the reviewing
abbrev pub ViewsInReviewing : Type 0
ViewsInReviewing = AreViews (λ d mode a. in_reviewing d mode a dave) views_in_reviewing

-- the readers' views in the discussion
abbrev pub ViewsInDiscussion : Type 0
ViewsInDiscussion = AreViews (λ d mode a. in_discussion d mode a dave verdicts) views_in_discussion

-- the readers' views at the notification
abbrev pub ViewsAtNotification : Type 0
ViewsAtNotification = AreViews (λ d mode a. at_notification d mode a dave verdicts) views_at_notification

-- the readers' views at the close
abbrev pub ViewsAtClose : Type 0
ViewsAtClose = AreViews (λ d mode a. at_close d mode a dave verdicts) views_at_close

-- the views of readers who aren't on the committee, at the end of a history
abbrev pub outside_of : History → Outside
outside_of H = record {
  nobody = view None H;
  account = view (Some erin) H;
  author = view (Some bob) H;
  coauthor = view (Some gus) H;
}

-- the views of readers who aren't on the committee, at the close of the conference with the other decisions
abbrev pub ViewsReversed : Type 0
ViewsReversed =
    (d : Digests) (mode : Mode) (a : Asides)
    → outside_of (at_close d mode a dave reversed) ≡ reversed_at_close d mode a

-- the readers' views in the response
abbrev pub ViewsInResponse : Type 0
ViewsInResponse = AreViews (λ d mode a. in_response d mode a dave) views_in_response

-- the readers' views in the discussion after a response
abbrev pub ViewsBehindResponse : Type 0
ViewsBehindResponse = AreViews (λ d mode a. behind_response d mode a dave) views_behind_response

-- the views of readers who aren't on the committee, at the notification after a response
abbrev pub ViewsTold : Type 0
ViewsTold =
    (d : Digests) (mode : Mode) (a : Asides)
    → outside_of (told_behind_response d mode a dave) ≡ told_outside d mode a

-- ---- its twins

-- what the reader sees in each phase from the bidding to the discussion, if the committee says this, and this member is
-- assigned to paper 1
abbrev pub seen_to_discussion : ℕ → Digests → Mode → Asides → ℕ → List View
seen_to_discussion reader d mode a member =
    view (Some reader) (in_bidding d mode a member)
    ∷ view (Some reader) (in_reviewing d mode a member)
    ∷ view (Some reader) (in_discussion d mode a member verdicts)
    ∷ []

-- what the reader sees in each phase from the bidding to the close, if the committee says this, and this member is
-- assigned to paper 1
abbrev pub seen_throughout : ℕ → Digests → Mode → Asides → ℕ → List View
seen_throughout reader d mode a member =
    seen_to_discussion reader d mode a member
    ++ view (Some reader) (at_notification d mode a member verdicts)
    ∷ view (Some reader) (at_close d mode a member verdicts)
    ∷ []

-- whether dave or hal is assigned to paper 1, writes its forms and comments on it under that label: the views of its
-- authors are the same up to the discussion, and later except in the open mode; those of a member and a chair in
-- conflict with it are the same throughout
pub record Twins (d : Digests) (mode : Mode) (a : Asides) : Type 0 where
  pub author : seen_to_discussion bob d mode a dave ≡ seen_to_discussion bob d mode a hal
  pub author_throughout : IsFalse (is_overt mode)
      → seen_throughout bob d mode a dave ≡ seen_throughout bob d mode a hal
  pub coauthor : seen_to_discussion gus d mode a dave ≡ seen_to_discussion gus d mode a hal
  pub coauthor_throughout : IsFalse (is_overt mode)
      → seen_throughout gus d mode a dave ≡ seen_throughout gus d mode a hal
  pub conflicted_member : seen_throughout carol d mode a dave ≡ seen_throughout carol d mode a hal
  pub conflicted_chair : seen_throughout fay d mode a dave ≡ seen_throughout fay d mode a hal

-- Twins holds, whatever the digests, the mode and what the committee says
abbrev pub TwinsAlike : Type 0
TwinsAlike = (d : Digests) (mode : Mode) (a : Asides) → Twins d mode a

-- what the reader sees in the response and in the discussion after it, if the committee says this, and this member is
-- assigned to paper 1
abbrev pub seen_in_response : ℕ → Digests → Mode → Asides → ℕ → List View
seen_in_response reader d mode a member =
    view (Some reader) (in_response d mode a member) ∷ view (Some reader) (behind_response d mode a member) ∷ []

-- whether dave or hal is assigned to paper 1 in the conference with a response: the views of its authors, and of a
-- member and a chair in conflict with it, are the same in the response and in the discussion after it
pub record ResponseTwins (d : Digests) (mode : Mode) (a : Asides) : Type 0 where
  pub author : seen_in_response bob d mode a dave ≡ seen_in_response bob d mode a hal
  pub coauthor : seen_in_response gus d mode a dave ≡ seen_in_response gus d mode a hal
  pub conflicted_member : seen_in_response carol d mode a dave ≡ seen_in_response carol d mode a hal
  pub conflicted_chair : seen_in_response fay d mode a dave ≡ seen_in_response fay d mode a hal

-- ResponseTwins holds, whatever the digests, the mode and what the committee says
abbrev pub RespondedAlike : Type 0
RespondedAlike = (d : Digests) (mode : Mode) (a : Asides) → ResponseTwins d mode a

-- the views of paper 1's authors, and of a member and a chair in conflict with it, don't depend on what the committee
-- says that no author reads
pub record SameWithout (d : Digests) (mode : Mode) (a b : Asides) : Type 0 where
  pub author : seen_throughout bob d mode a dave ≡ seen_throughout bob d mode b dave
  pub coauthor : seen_throughout gus d mode a dave ≡ seen_throughout gus d mode b dave
  pub conflicted_member : seen_throughout carol d mode a dave ≡ seen_throughout carol d mode b dave
  pub conflicted_chair : seen_throughout fay d mode a dave ≡ seen_throughout fay d mode b dave

-- SameWithout holds, whatever the digests and the mode
abbrev pub AsidesHidden : Type 0
AsidesHidden = (d : Digests) (mode : Mode) (a b : Asides) → SameWithout d mode a b

-- ---- other decisions

-- what a reader sees in the discussion, if the chairs decide this
abbrev pub seen_in_discussion : Option ℕ → Digests → Mode → Asides → Verdicts → View
seen_in_discussion u d mode a v = view u (in_discussion d mode a dave v)

-- what a reader sees at the notification and at the close, if the chairs decide this
abbrev pub seen_from_notification : Option ℕ → Digests → Mode → Asides → Verdicts → List View
seen_from_notification u d mode a v = view u (at_notification d mode a dave v) ∷ view u (at_close d mode a dave v) ∷ []

-- before the notification the views of readers who aren't on the committee don't depend on what is decided; those of a
-- member and a chair in conflict with paper 1 don't depend on what is decided on it
pub record SameEarly (d : Digests) (mode : Mode) (a : Asides) (v w : Verdicts) : Type 0 where
  pub nobody : seen_in_discussion None d mode a v ≡ seen_in_discussion None d mode a w
  pub account : seen_in_discussion (Some erin) d mode a v ≡ seen_in_discussion (Some erin) d mode a w
  pub author : seen_in_discussion (Some bob) d mode a v ≡ seen_in_discussion (Some bob) d mode a w
  pub coauthor : seen_in_discussion (Some gus) d mode a v ≡ seen_in_discussion (Some gus) d mode a w
  pub conflicted_member : v.other ≡ w.other
      → seen_in_discussion (Some carol) d mode a v ≡ seen_in_discussion (Some carol) d mode a w
  pub conflicted_chair : v.other ≡ w.other
      → seen_in_discussion (Some fay) d mode a v ≡ seen_in_discussion (Some fay) d mode a w

-- the papers that are accepted, if the chairs decide this
abbrev pub accepted_with : Digests → Mode → Asides → Verdicts → List ℕ
accepted_with d mode a v = accepted_of (at_notification d mode a dave v)

-- the last decision on a paper, if the chairs decide this
abbrev pub outcome_with : ℕ → Digests → Mode → Asides → Verdicts → Option Decision
outcome_with paper d mode a v = decision_of paper (at_notification d mode a dave v)

-- from the notification on, if the same papers are accepted, the views of readers who aren't on the committee, and of a
-- member and a chair in conflict with paper 1, don't depend on what else is decided; for authors if the last decision
-- on each of their own papers is the same too
pub record SameLate (d : Digests) (mode : Mode) (a : Asides) (v w : Verdicts) : Type 0 where
  pub nobody : seen_from_notification None d mode a v ≡ seen_from_notification None d mode a w
  pub account : seen_from_notification (Some erin) d mode a v ≡ seen_from_notification (Some erin) d mode a w
  pub author :
      outcome_with 1 d mode a v ≡ outcome_with 1 d mode a w
      → seen_from_notification (Some bob) d mode a v ≡ seen_from_notification (Some bob) d mode a w
  pub coauthor :
      outcome_with 1 d mode a v ≡ outcome_with 1 d mode a w
      → outcome_with 2 d mode a v ≡ outcome_with 2 d mode a w
      → seen_from_notification (Some gus) d mode a v ≡ seen_from_notification (Some gus) d mode a w
  pub conflicted_member :
      v.other ≡ w.other
      → seen_from_notification (Some carol) d mode a v ≡ seen_from_notification (Some carol) d mode a w
  pub conflicted_chair :
      v.other ≡ w.other → seen_from_notification (Some fay) d mode a v ≡ seen_from_notification (Some fay) d mode a w

-- what two conferences share that differ only in what the chairs decide
pub record VerdictTwins (d : Digests) (mode : Mode) (a : Asides) (v w : Verdicts) : Type 0 where
  pub early : SameEarly d mode a v w
  pub late : accepted_with d mode a v ≡ accepted_with d mode a w → SameLate d mode a v w

-- VerdictTwins holds, whatever the digests, the mode, what the committee says and the two decisions
abbrev pub VerdictsHidden : Type 0
VerdictsHidden = (d : Digests) (mode : Mode) (a : Asides) (v w : Verdicts) → VerdictTwins d mode a v w
