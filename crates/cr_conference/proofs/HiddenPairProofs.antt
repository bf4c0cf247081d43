-- SPDX-License-Identifier: Apache-2.0 OR MIT
-- The pairs of histories, each a legal one beside its twin: of each pair the turns that lead to the two, and a test
-- that tells them apart. All else is computed.
use Rattle.std.proofs.Common.{◌≡◌, ℕ, Bool, true, false, List, [], ◌∷◌, ◌++◌, refl, sym, ap, ◌∙◌, ◌&&◌, ◌+◌, Option}
use Rattle.std.proofs.Common.{Some, map, arith}
use Rattle.std.specs.Prelude.{codes, not, ◌==◌}
use Rattle.std.specs.List.{flat_map, list_any}
use Rattle.std.proofs.Math.Bool.{and-false}
use Rattle.std.proofs.lemmas.Bool.{true≢false}
use Rattle.cr_base.specs.declared.command.Command.TheVariants.{SetPhase, Submit, Revise, Upload, Withdraw, Name}
use Rattle.cr_base.specs.declared.command.Command.TheVariants.{SetMode, SetConflict, Bid, Assign, Unassign, Review}
use Rattle.cr_base.specs.declared.command.Command.TheVariants.{Comment, Tag, Decide, SetDeadline, Dismiss, Invite}
use Rattle.cr_base.specs.declared.command.Command.TheVariants.{Uninvite, Respond}
use Rattle.cr_base.specs.declared.entry.Entry.TheVariants as entry
use Rattle.cr_base.specs.declared.entry.EntryKind.{EntryKind}
use Rattle.cr_base.specs.declared.entry.EntryKind.TheVariants as kinds
use Rattle.cr_base.specs.declared.form.Form.{Form}
use Rattle.cr_base.specs.declared.words.Decision.{Decision}
use Rattle.cr_base.specs.declared.words.Decision.TheVariants.{Accept, Reject}
use Rattle.cr_base.specs.declared.words.Kind.{Kind}
use Rattle.cr_base.specs.declared.words.Kind.TheVariants.{Primary, Secondary}
use Rattle.cr_base.specs.declared.words.Mode.{Mode}
use Rattle.cr_base.specs.declared.words.Mode.TheVariants.{Overt, Blind, Anonymous}
use Rattle.cr_base.specs.declared.words.Phase.{Phase}
use Rattle.cr_base.specs.declared.words.Phase.TheVariants.{Submission, Bidding, Reviewing, Response, Discussion}
use Rattle.cr_base.specs.declared.words.Phase.TheVariants.{Notification}
use Rattle.cr_base.specs.declared.words.Role.TheVariants.{Member, Chair}
use Rattle.cr_base.specs.Bounds.{IsForm}
use Rattle.cr_base.specs.Lists.{given, listed, last_or, is_number}
use Rattle.cr_base.specs.History.{History}
use Rattle.cr_base.specs.HistoryFacts.{is_withdrawn, decision_of}
use Rattle.cr_base.specs.Texts.{IsCommentText}
use Rattle.cr_base.specs.Words.{is_accept}
use Rattle.cr_policy.specs.Legal.{Legal}
use Rattle.cr_policy.specs.Sighting.{Sighting}
use Rattle.cr_policy.specs.View.{View}
use Rattle.cr_policy.specs.ViewFacts.{is_kind, is_user, is_text}
use Rattle.cr_policy.specs.ViewRetries.{shows_number}
use Rattle.cr_policy.specs.Witness.{morning}
use Rattle.cr_conference.specs.Conference.{alice, bob, carol, dave, fay, gus, hal, Digests, AreDigests, ◌adds◌}
use Rattle.cr_conference.specs.Conference.{proofs}
use Rattle.cr_conference.specs.Conference.{we_prove, types, we_type, fewer_proofs, we_prove_less, more_proofs}
use Rattle.cr_conference.specs.Conference.{we_prove_more, first_version, second_version, only_version, first_form}
use Rattle.cr_conference.specs.Conference.{second_form, agreed, hot, registered, submitted}
use Rattle.cr_conference.specs.HiddenPairs as pairs
use Rattle.cr_conference.proofs.ConferenceProofs.{Turn, by, by_then, by_number, goes_on, reached, registered-legal}
use Rattle.cr_conference.proofs.ConferenceProofs.{opened-legal, submitted-legal, is_plain_title, is_plain}
use Rattle.cr_conference.proofs.ConferenceProofs.{ascii-title}
use Rattle.cr_conference.proofs.ConferenceProofs.{ascii-abstract, ascii-review, few-ascii, agreed-bounded}
use Rattle.cr_conference.proofs.ConferenceProofs.{bounded-form}
use Rattle.cr_conference.proofs.HiddenPairLaws.{apart, pair, several, once}

-- ---- tests that tell views apart

-- the last sighting is the reader's own
abbrev last_mine : View → Bool
last_mine V = last_or false (map (λ (s : Sighting). s.mine) V)

-- one of this kind is
abbrev own : EntryKind → View → Bool
own kind V = list_any (λ (s : Sighting). is_kind kind s && s.mine) V

-- the last that turns something on or off turns it on
abbrev last_on : View → Bool
last_on V = last_or false (flat_map (λ (s : Sighting). listed s.on) V)

-- one of this kind is there
abbrev there : EntryKind → View → Bool
there kind V = list_any (λ (s : Sighting). is_kind kind s) V

-- one of this kind names this user, or tells that she made it
abbrev names : EntryKind → ℕ → View → Bool
names kind user V = list_any (λ (s : Sighting). is_kind kind s && is_user (Some user) s.user) V

abbrev tells_maker : EntryKind → ℕ → View → Bool
tells_maker kind user V = list_any (λ (s : Sighting). is_kind kind s && is_user (Some user) s.by) V

-- ---- calls

-- a chair opens a phase
abbrev opens : Phase → ℕ → Turn
opens phase chair = by chair (SetPhase phase) tt

-- an author sends texts, whose bytes are below 128
abbrev submits : (author : ℕ) (title abstract : List ℕ) → is_plain_title title ≡ true → is_plain 5000 abstract ≡ true
    → Turn
submits author title abstract titled summed =
    by author (Submit title abstract []) (ascii-title title titled, ascii-abstract abstract summed, omega arith)

abbrev submits_with : List ℕ → Turn
submits_with coauthor = by bob (Submit proofs we_prove (Some coauthor ∷ []))
    (ascii-title proofs refl, ascii-abstract we_prove refl, omega arith)

abbrev revises : (author : ℕ) (title abstract : List ℕ) → is_plain_title title ≡ true → is_plain 5000 abstract ≡ true
    → Turn
revises author title abstract titled summed =
    by author (Revise (Some 1) title abstract) (ascii-title title titled, ascii-abstract abstract summed)

abbrev declares : ℕ → List ℕ → Bool → Turn
declares user name on = by user (SetConflict (Some 1) (Some name) on) tt

abbrev tags : ℕ → Bool → Turn
tags user on = by user (Tag (Some 1) pairs.private_tag on) refl

abbrev assigns : ℕ → List ℕ → Kind → Turn
assigns chair name kind = by chair (Assign (Some 1) (Some name) kind) tt

abbrev unassigns : ℕ → List ℕ → Turn
unassigns chair name = by chair (Unassign (Some 1) (Some name)) tt

-- and so are an account invited, and her invitation taken back, to paper 2
abbrev invites : ℕ → List ℕ → Turn
invites chair name = by chair (Invite (Some 2) (Some name)) tt

abbrev uninvites : ℕ → List ℕ → Turn
uninvites chair name = by chair (Uninvite (Some 2) (Some name)) tt

abbrev reviews : ℕ → (form : Form) → IsForm form → Turn
reviews user form bounded = by user (Review (Some 1) form) bounded

abbrev agrees : ℕ → Turn
agrees user = by user (Comment (Some 1) agreed) agreed-bounded

abbrev responds : ℕ → Turn
responds user = by user (Respond (Some 1) agreed) agreed-bounded

abbrev decides : ℕ → Decision → Turn
decides chair decision = by chair (Decide (Some 1) decision) tt

-- ---- what is within its bounds

prove-commented : IsCommentText we_prove
prove-commented = let p = few-ascii 10000 we_prove refl in record { some = omega arith; few = p.0; utf8 = p.1 }

first-bounded : IsForm first_form
first-bounded = bounded-form first_form refl refl refl (ascii-review first_form.to_pc refl)

second-bounded : IsForm second_form
second-bounded = bounded-form second_form refl refl refl (ascii-review second_form.to_pc refl)

other-bounded : IsForm pairs.other_to_pc
other-bounded = bounded-form pairs.other_to_pc refl refl refl (ascii-review pairs.other_to_pc.to_pc refl)

-- ---- legal beginnings

module _ (d : Digests) (are : AreDigests d) where
  submission-so : (mode : Mode) → Legal (pairs.in_submission mode d)
  submission-so mode = opened-legal d mode (registered-legal d are)

  chairs-so : Legal (pairs.having_chairs d)
  chairs-so = goes_on (registered d) (pairs.having_chairs d) (by alice (Name (Some (codes "fay")) Chair) refl ∷ []) refl
      (registered-legal d are)

  papers-so : Legal (pairs.in_papers d)
  papers-so = submitted-legal d Blind (submission-so Blind)

  declared-so : Legal (pairs.declared d)
  declared-so = goes_on (pairs.in_papers d) (pairs.declared d)
      (declares bob (codes "carol") true ∷ opens Bidding alice ∷ []) refl papers-so

  bids-so : (mode : Mode) → Legal (pairs.in_bids mode d)
  bids-so mode =
      goes_on (submitted d mode) (pairs.in_bids mode d) (opens Bidding alice ∷ []) (leads mode)
      (submitted-legal d mode (submission-so mode))
    where
      leads : (mode : Mode) → reached (submitted d mode) (opens Bidding alice ∷ []) ≡ Some (pairs.in_bids mode d)
      leads Anonymous = refl
      leads mode = refl

  tagged-so : Legal (pairs.tagged d)
  tagged-so = goes_on (pairs.in_bids Blind d) (pairs.tagged d) (tags dave true ∷ []) refl (bids-so Blind)

  assigned-so : Legal (pairs.assigned d)
  assigned-so =
      goes_on (pairs.in_bids Blind d) (pairs.assigned d) (assigns alice (codes "dave") Primary ∷ []) refl
      (bids-so Blind)

  invited-so : Legal (pairs.invited d)
  invited-so =
      goes_on (pairs.in_bids Blind d) (pairs.invited d) (invites alice (codes "erin") ∷ []) refl (bids-so Blind)

  reviews-so : Legal (pairs.in_reviews d)
  reviews-so = goes_on (pairs.assigned d) (pairs.in_reviews d) (opens Reviewing alice ∷ []) refl assigned-so

  abbrev talking : List Turn
  talking = opens Reviewing alice ∷ opens Discussion alice ∷ []

  talk-so : (mode : Mode) → Legal (pairs.in_talk mode d)
  talk-so mode = goes_on (pairs.in_bids mode d) (pairs.in_talk mode d) talking (leads mode) (bids-so mode)
    where
      leads : (mode : Mode) → reached (pairs.in_bids mode d) talking ≡ Some (pairs.in_talk mode d)
      leads Anonymous = refl
      leads mode = refl

  invited_to_talk-so : Legal (pairs.invited_to_talk d)
  invited_to_talk-so = goes_on (pairs.invited d) (pairs.invited_to_talk d) talking refl invited-so

  past_response-so : Legal (pairs.past_response d)
  past_response-so =
      goes_on (pairs.in_reviews d) (pairs.past_response d) (opens Response alice ∷ opens Discussion alice ∷ []) refl
      reviews-so

  response-so : Legal (pairs.awaiting_response d)
  response-so = goes_on (pairs.in_bids Blind d) (pairs.awaiting_response d)
      (opens Reviewing alice ∷ opens Response alice ∷ []) refl (bids-so Blind)

-- ---- who registers, and what the chairs set

pub digest-hidden : pairs.DigestHidden
digest-hidden d other are sized differs =
    pair (registered-legal d are) (registered-legal (record d { ivy = other }) with_other) (refl, tt) (λ p. refl)
    (λ p hers. refl)
    (λ same. differs (ap (λ V. last_or [] (flat_map (λ (s : Sighting). listed s.digest) V)) same))
  where
    with_other : AreDigests (record d { ivy = other })
    with_other = record {
      alice = are.alice;
      bob = are.bob;
      carol = are.carol;
      dave = are.dave;
      erin = are.erin;
      fay = are.fay;
      gus = are.gus;
      hal = are.hal;
      ivy = sized;
    }

-- an account named a member
abbrev names_erin : ℕ → Turn
names_erin chair = by chair (Name (Some (codes "erin")) Member) refl

pub namer-hidden : pairs.NamerHidden
namer-hidden d are =
    once (submission-so d are Blind) (names_erin alice) (names_erin fay) [] last_mine refl refl refl refl refl

abbrev dismisses : ℕ → Turn
dismisses chair = by chair (Dismiss (Some (codes "dave"))) tt

pub dismisser-hidden : pairs.DismisserHidden
dismisser-hidden d are =
    once (submission-so d are Blind) (dismisses alice) (dismisses fay) [] last_mine refl refl refl refl refl

pub mode_setter-hidden : pairs.ModeSetterHidden
mode_setter-hidden d are =
    once (chairs-so d are) (by alice (SetMode Anonymous) tt) (by fay (SetMode Anonymous) tt) [] last_mine refl refl refl
    refl refl

pub phase_setter-hidden : pairs.PhaseSetterHidden
phase_setter-hidden d are =
    once (papers-so d are) (opens Bidding alice) (opens Bidding fay) [] last_mine refl refl refl refl refl

-- a deadline of the submission
abbrev sets_deadline : ℕ → Turn
sets_deadline chair = by chair (SetDeadline Submission (Some (morning + 60))) (refl, (omega arith, omega arith))

pub deadline_setter-hidden : pairs.DeadlineSetterHidden
deadline_setter-hidden d are =
    once (papers-so d are) (sets_deadline alice) (sets_deadline fay) [] last_mine refl refl refl refl refl

pub moment-hidden : pairs.MomentHidden
moment-hidden d are =
    once (papers-so d are) (opens Bidding alice) (by_then alice (morning + 60) (SetPhase Bidding) tt (omega arith)) []
    (list_any (λ (s : Sighting). is_number s.at (morning + 60))) refl refl refl refl refl

pub key-hidden : pairs.KeyHidden
key-hidden d are =
    once (papers-so d are) (opens Bidding alice) (by_number alice (SetPhase Bidding) tt) []
    (list_any (λ (s : Sighting). shows_number 7 s.key)) refl refl refl refl refl

-- ---- papers

pub title-hidden : pairs.TitleHidden
title-hidden d are =
    once (submission-so d are Blind) (submits bob proofs we_prove refl refl) (submits bob types we_prove refl refl) []
    (list_any (λ (s : Sighting). is_text proofs s.title)) refl refl refl refl refl

pub abstract-hidden : pairs.AbstractHidden
abstract-hidden d are =
    once (submission-so d are Blind) (submits bob proofs we_prove refl refl) (submits bob proofs we_type refl refl)
    (declares bob (codes "carol") true ∷ opens Bidding alice ∷ [])
    (list_any (λ (s : Sighting). is_text we_prove s.abstract)) refl refl refl refl refl

pub submitter-hidden : pairs.SubmitterHidden
submitter-hidden d are =
    pair
    (goes_on _ _ (submits bob proofs we_prove refl refl ∷ opens Bidding alice ∷ []) refl
    (submission-so d are Anonymous))
    (goes_on _ _ (submits gus proofs we_prove refl refl ∷ opens Bidding alice ∷ []) refl
    (submission-so d are Anonymous))
    (refl, tt) (λ p. refl) (λ p hers. absurd (true≢false (sym hers ∙ no_author (1 == p))))
    (apart (tells_maker kinds.Submitted bob) _ _ refl)
  where
    no_author : (b : Bool) → list_any (is_number (Some dave)) (given b bob ++ []) ≡ false
    no_author true = refl
    no_author false = refl

pub coauthor-hidden : pairs.CoauthorHidden
coauthor-hidden d are =
    pair
    (goes_on _ _ (submits_with (codes "gus") ∷ opens Bidding alice ∷ []) refl (submission-so d are Anonymous))
    (goes_on _ _ (submits_with (codes "erin") ∷ opens Bidding alice ∷ []) refl (submission-so d are Anonymous))
    (refl, (refl, tt)) (λ p. refl)
    (λ p hers. absurd (true≢false (sym hers ∙ no_author (1 == p)))) (apart (names kinds.Coauthor gus) _ _ refl)
  where
    no_author : (b : Bool) → list_any (is_number (Some dave)) (given b bob ++ (given b gus ++ [])) ≡ false
    no_author true = refl
    no_author false = refl

pub revision-hidden : pairs.RevisionHidden
revision-hidden d are =
    once (papers-so d are) (revises bob fewer_proofs we_prove_less refl refl) (revises bob types we_type refl refl)
    (revises bob more_proofs we_prove_more refl refl ∷ opens Bidding alice ∷ [])
    (list_any (λ (s : Sighting). is_text fewer_proofs s.title)) refl refl refl refl refl

pub reviser-hidden : pairs.ReviserHidden
reviser-hidden d are =
    once (papers-so d are) (revises bob more_proofs we_prove_more refl refl)
    (revises gus more_proofs we_prove_more refl refl)
    (opens Bidding alice ∷ []) (own kinds.Revised) refl refl refl refl refl

pub content-hidden : pairs.ContentHidden
content-hidden d are =
    once (papers-so d are) (by bob (Upload (Some 1) first_version) (omega arith))
    (by bob (Upload (Some 1) only_version) (omega arith))
    (by bob (Upload (Some 1) second_version) (omega arith) ∷ opens Bidding alice ∷ [])
    (list_any (λ (s : Sighting). is_text first_version s.content)) refl refl refl refl refl

pub uploader-hidden : pairs.UploaderHidden
uploader-hidden d are =
    once (papers-so d are) (by bob (Upload (Some 1) first_version) (omega arith))
    (by gus (Upload (Some 1) first_version) (omega arith))
    (opens Bidding alice ∷ []) (own kinds.Uploaded) refl refl refl refl refl

pub withdrawer-hidden : pairs.WithdrawerHidden
withdrawer-hidden d are =
    once (papers-so d are) (by bob (Withdraw (Some 1)) tt) (by gus (Withdraw (Some 1)) tt) (opens Bidding alice ∷ [])
    (own kinds.Withdrawn) refl refl refl refl refl

-- ---- conflicts

pub declared-hidden : pairs.DeclaredHidden
declared-hidden d are =
    once (papers-so d are) (declares bob (codes "carol") true) (declares bob (codes "dave") true)
    (opens Bidding alice ∷ [])
    (names kinds.Conflict carol) refl refl refl refl refl

pub switch-hidden : pairs.SwitchHidden
switch-hidden d are =
    once (declared-so d are) (declares alice (codes "carol") true) (declares alice (codes "carol") false) [] last_on
    refl refl refl refl refl

pub declarer-hidden : pairs.DeclarerHidden
declarer-hidden d are =
    once (papers-so d are) (declares bob (codes "carol") true) (declares gus (codes "carol") true) []
    (own kinds.Conflict) refl refl refl refl refl

-- ---- the bidding

pub bid-hidden : pairs.BidHidden
bid-hidden d are =
    once (bids-so d are Blind) (by dave (Bid (Some 1) 25) (omega arith)) (by dave (Bid (Some 1) 40) (omega arith)) []
    (list_any (λ (s : Sighting). is_number s.value 25)) refl refl refl refl refl

pub bidder-hidden : pairs.BidderHidden
bidder-hidden d are =
    once (bids-so d are Blind) (by dave (Bid (Some 1) 25) (omega arith)) (by hal (Bid (Some 1) 25) (omega arith)) []
    (tells_maker kinds.Bid dave) refl refl refl refl refl

pub tag-hidden : pairs.TagHidden
tag-hidden d are = once (tagged-so d are) (tags dave true) (tags dave false) [] last_on refl refl refl refl refl

pub tagger-hidden : pairs.TaggerHidden
tagger-hidden d are =
    once (bids-so d are Blind) (tags dave true) (tags hal true) [] (own kinds.Tagged) refl refl refl refl refl

pub assigned-hidden : pairs.AssignedHidden
assigned-hidden d are =
    once (bids-so d are Blind) (assigns alice (codes "dave") Primary) (assigns alice (codes "hal") Primary) []
    (there kinds.Assigned) refl refl refl refl refl

-- whether a reviewer is a primary one
abbrev is_primary : Option Kind → Bool
is_primary (Some Primary) = true
is_primary _ = false

pub seat-hidden : pairs.SeatHidden
seat-hidden d are =
    once (bids-so d are Blind) (assigns alice (codes "dave") Primary) (assigns alice (codes "dave") Secondary) []
    (list_any (λ (s : Sighting). is_primary s.review_kind)) refl refl refl refl refl

pub assigner-hidden : pairs.AssignerHidden
assigner-hidden d are =
    once (bids-so d are Blind) (assigns alice (codes "dave") Primary) (assigns fay (codes "dave") Primary) []
    (own kinds.Assigned) refl refl refl refl refl

-- a member is assigned, and taken off again
abbrev comes_and_goes : List ℕ → List Turn
comes_and_goes name = assigns alice name Primary ∷ unassigns alice name ∷ []

pub unassigned-hidden : pairs.UnassignedHidden
unassigned-hidden d are =
    several (bids-so d are Blind) (comes_and_goes (codes "dave")) (comes_and_goes (codes "hal"))
    (there kinds.Unassigned) refl refl (refl, (refl, tt)) refl refl

pub unassigner-hidden : pairs.UnassignerHidden
unassigner-hidden d are =
    once (assigned-so d are) (unassigns alice (codes "dave")) (unassigns fay (codes "dave")) [] (own kinds.Unassigned)
    refl refl refl refl refl

-- ---- invitations

pub invited-hidden : pairs.InvitedHidden
invited-hidden d are =
    once (bids-so d are Blind) (invites alice (codes "erin")) (invites alice (codes "bob")) [] (there kinds.Invited)
    refl refl refl refl refl

pub inviter-hidden : pairs.InviterHidden
inviter-hidden d are =
    once (bids-so d are Blind) (invites alice (codes "erin")) (invites fay (codes "erin")) [] (own kinds.Invited) refl
    refl refl refl refl

abbrev invited_and_back : List ℕ → List Turn
invited_and_back name = invites alice name ∷ uninvites alice name ∷ []

pub uninvited-hidden : pairs.UninvitedHidden
uninvited-hidden d are =
    several (bids-so d are Blind) (invited_and_back (codes "erin")) (invited_and_back (codes "bob"))
    (there kinds.Uninvited) refl refl (refl, (refl, tt)) refl refl

pub uninviter-hidden : pairs.UninviterHidden
uninviter-hidden d are =
    once (invited-so d are) (uninvites alice (codes "erin")) (uninvites fay (codes "erin")) [] (own kinds.Uninvited)
    refl refl refl refl refl

-- and what is hidden from who is invited
pub seat-hidden_from_external : pairs.SeatHiddenFromExternal
seat-hidden_from_external d are =
    once (invited-so d are) (by alice (Assign (Some 2) (Some (codes "dave")) Primary) tt)
    (by alice (Assign (Some 2) (Some (codes "hal")) Primary) tt) []
    (there kinds.Assigned) refl refl refl refl refl

pub bid-hidden_from_external : pairs.BidHiddenFromExternal
bid-hidden_from_external d are =
    once (invited-so d are) (by dave (Bid (Some 2) 25) (omega arith)) (by dave (Bid (Some 2) 40) (omega arith)) []
    (list_any (λ (s : Sighting). is_number s.value 25)) refl refl refl refl refl

pub tag-hidden_from_external : pairs.TagHiddenFromExternal
tag-hidden_from_external d are =
    once (invited-so d are) (by dave (Tag (Some 2) hot true) refl) (by dave (Tag (Some 2) hot false) refl) [] last_on
    refl refl refl refl refl

pub comment-hidden_from_external : pairs.CommentHiddenFromExternal
comment-hidden_from_external d are =
    once (invited_to_talk-so d are) (by dave (Comment (Some 2) agreed) agreed-bounded)
    (by carol (Comment (Some 2) we_prove) prove-commented) []
    (list_any (λ (s : Sighting). is_text agreed s.text)) refl refl refl refl refl

-- ---- reviews

-- the form is the first one
abbrev scores_2 : View → Bool
scores_2 V = list_any (λ (s : Sighting). is_number s.score 2) V

pub form-hidden : pairs.FormHidden
form-hidden d are =
    once (reviews-so d are) (reviews dave first_form first-bounded) (reviews dave second_form second-bounded) []
    scores_2 refl refl refl refl refl

pub form-hidden_from_members : pairs.FormHiddenFromMembers
form-hidden_from_members d are =
    once (reviews-so d are) (reviews dave first_form first-bounded) (reviews dave second_form second-bounded) []
    scores_2 refl refl refl refl refl

pub to_pc-hidden : pairs.ToPcHidden
to_pc-hidden d are =
    once (reviews-so d are) (reviews dave first_form first-bounded) (reviews dave pairs.other_to_pc other-bounded)
    (opens Discussion alice ∷ opens Notification alice ∷ [])
    (list_any (λ (s : Sighting). is_text first_form.to_pc s.to_pc)) refl refl refl refl refl

-- a member is assigned and writes the first form
abbrev gives_form : ℕ → List ℕ → Phase → List Turn
gives_form user name next =
    assigns alice name Primary ∷ opens Reviewing alice ∷ reviews user first_form first-bounded ∷ opens next alice ∷ []

-- and so it stands then
abbrev reviewed : ℕ → Mode → Phase → Digests → History
reviewed member mode next d = pairs.in_bids mode d ++ (pairs.reviewed_by member ++ alice adds entry.PhaseSet next ∷ [])

pub reviewer-hidden : pairs.ReviewerHidden
reviewer-hidden d are =
    pair (so dave (codes "dave") refl) (so hal (codes "hal") refl) (refl, (refl, (refl, tt))) (λ p. refl)
    (λ p hers. refl)
    (apart (names kinds.Assigned dave) _ _ refl)
  where
    so : (member : ℕ) (name : List ℕ)
        → reached (pairs.in_bids Anonymous d) (gives_form member name Discussion)
        ≡ Some (reviewed member Anonymous Discussion d)
        → Legal (reviewed member Anonymous Discussion d)
    so member name leads =
        goes_on (pairs.in_bids Anonymous d) (reviewed member Anonymous Discussion d) (gives_form member name Discussion)
        leads
        (bids-so d are Anonymous)

-- ---- the response

pub early_to_pc-hidden : pairs.EarlyToPcHidden
early_to_pc-hidden d are =
    once (reviews-so d are) (reviews dave first_form first-bounded) (reviews dave pairs.other_to_pc other-bounded)
    (opens Response alice ∷ [])
    (list_any (λ (s : Sighting). is_text first_form.to_pc s.to_pc)) refl refl refl refl refl

pub early_reviewer-hidden : pairs.EarlyReviewerHidden
early_reviewer-hidden d are =
    pair (so dave (codes "dave") refl) (so hal (codes "hal") refl) (refl, (refl, (refl, tt))) (λ p. refl)
    (λ p hers. refl)
    (apart (names kinds.Assigned dave) _ _ refl)
  where
    so : (member : ℕ) (name : List ℕ)
        → reached (pairs.in_bids Overt d) (gives_form member name Response) ≡ Some (reviewed member Overt Response d)
        → Legal (reviewed member Overt Response d)
    so member name leads =
        goes_on (pairs.in_bids Overt d) (reviewed member Overt Response d) (gives_form member name Response) leads
        (bids-so d are Overt)

pub late_form-hidden : pairs.LateFormHidden
late_form-hidden d are =
    once (past_response-so d are) (reviews dave first_form first-bounded) (reviews dave second_form second-bounded) []
    scores_2
    refl refl refl refl refl

pub response-hidden : pairs.ResponseHidden
response-hidden d are =
    once (response-so d are) (responds bob) (by bob (Respond (Some 1) we_prove) prove-commented) []
    (list_any (λ (s : Sighting). is_text agreed s.text)) refl refl refl refl refl

pub response-hidden_from_accounts : pairs.ResponseHiddenFromAccounts
response-hidden_from_accounts d are =
    once (response-so d are) (responds bob) (by bob (Respond (Some 1) we_prove) prove-commented)
    (opens Discussion alice ∷ [])
    (list_any (λ (s : Sighting). is_text agreed s.text)) refl refl refl refl refl

pub responder-hidden : pairs.ResponderHidden
responder-hidden d are =
    once (response-so d are) (responds bob) (responds gus) (opens Discussion alice ∷ []) (own kinds.Responded) refl refl
    refl refl refl

-- ---- the discussion

pub comment-hidden : pairs.CommentHidden
comment-hidden d are =
    once (talk-so d are Blind) (agrees carol) (by carol (Comment (Some 1) we_prove) prove-commented) []
    (list_any (λ (s : Sighting). is_text agreed s.text)) refl refl refl refl refl

pub writer-hidden : pairs.WriterHidden
writer-hidden d are = once (talk-so d are Anonymous) (agrees carol) (agrees dave) [] (tells_maker kinds.Commented carol) refl
    refl refl refl refl

-- paper 1 is decided so
abbrev decided : Decision → Digests → History
decided decision d = pairs.in_talk Blind d ++ alice adds entry.Decided 1 decision ∷ []

abbrev is_chosen : ℕ → History → Bool
is_chosen p H = is_accept (decision_of p H) && not (is_withdrawn p H)

pub decision-hidden : pairs.DecisionHidden
decision-hidden d are =
    pair (so Accept refl) (so Reject refl) (refl, tt) (λ p. early p (decided Accept d) (decided Reject d))
    (λ p hers. refl)
    (apart (list_any (λ (s : Sighting). is_accept s.decision)) _ _ refl)
  where
    so : (decision : Decision) → reached (pairs.in_talk Blind d) (decides alice decision ∷ [])
        ≡ Some (decided decision d)
        → Legal (decided decision d)
    so decision leads =
        goes_on (pairs.in_talk Blind d) (decided decision d) (decides alice decision ∷ []) leads (talk-so d are Blind)

    -- no paper is accepted before the notification
    early : (p : ℕ) (H H' : History) → (is_chosen p H && false) ≡ (is_chosen p H' && false)
    early p H H' = and-false (is_chosen p H) ∙ sym (and-false (is_chosen p H'))

pub decider-hidden : pairs.DeciderHidden
decider-hidden d are = once (talk-so d are Blind) (decides alice Accept) (decides fay Accept) [] (own kinds.Decided)
    refl refl refl refl refl

-- ---- what may be taken out

abbrev calls_hot : Turn
calls_hot = by carol (Tag (Some 1) hot true) refl

pub comment-removable : pairs.CommentRemovable
comment-removable d are = record {
  legal = goes_on (pairs.in_talk Blind d) _ (agrees carol ∷ calls_hot ∷ []) refl (talk-so d are Blind);
  other = goes_on (pairs.in_talk Blind d) _ (calls_hot ∷ []) refl (talk-so d are Blind);
  unseen = refl;
  accepted = λ p. refl;
  same = refl;
  told = apart (there kinds.Commented) _ _ refl;
}

pub version-removable : pairs.VersionRemovable
version-removable d are = record {
  legal = goes_on (pairs.uploaded_once d) _
      (by bob (Upload (Some 1) second_version) (omega arith) ∷ opens Bidding alice ∷ []) refl first;
  other = goes_on (pairs.uploaded_once d) _ (opens Bidding alice ∷ []) refl first;
  unseen = refl;
  accepted = λ p. refl;
  same = refl;
  told = apart (list_any (λ (s : Sighting). is_text first_version s.content)) _ _ refl;
}
  where
    first : Legal (pairs.uploaded_once d)
    first = goes_on (pairs.in_papers d) (pairs.uploaded_once d)
        (declares bob (codes "carol") true ∷ by bob (Upload (Some 1) first_version) (omega arith) ∷ []) refl
        (papers-so d are)
