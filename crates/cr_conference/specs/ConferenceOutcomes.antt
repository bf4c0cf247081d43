-- SPDX-License-Identifier: Apache-2.0 OR MIT
-- What each reader sees of the small conference in the discussion, at the notification and at the close: whole views, a
-- line an entry.
use Rattle.std.specs.Prelude.{[], ◌∷◌, ◌++◌}
use Rattle.cr_base.specs.declared.words.Decision.TheVariants.{Accept, Reject}
use Rattle.cr_base.specs.declared.words.Kind.TheVariants.{Primary, Secondary, Pc}
use Rattle.cr_base.specs.declared.words.Mode.{Mode}
use Rattle.cr_base.specs.declared.words.Mode.TheVariants.{Overt}
use Rattle.cr_base.specs.declared.words.Phase.TheVariants.{Bidding, Reviewing, Discussion, Notification, Closed}
use Rattle.cr_policy.specs.View.{View}
use Rattle.cr_conference.specs.Conference.{alice, dave, erin, fay, gus, hal, ivy, Digests, Asides}
use Rattle.cr_conference.specs.Conference.{types, we_type, only_version, first_form, second_form}
use Rattle.cr_conference.specs.Conference.{last_form, alices_form, ivys_form, agreed}
use Rattle.cr_conference.specs.ConferenceViews.{both_texts_by, upload, assignment, unassignment}
use Rattle.cr_conference.specs.ConferenceViews.{to_members, to_authors, form, as_done, form_to_authors}
use Rattle.cr_conference.specs.ConferenceViews.{comment_by, comment_to_members, own_comment}
use Rattle.cr_conference.specs.ConferenceViews.{decided, as_outcome, as_accepted, acceptance, mine}
use Rattle.cr_conference.specs.ConferenceViews.{bare_paper, phase_set, Views, opened_to, opening_to_nobody}
use Rattle.cr_conference.specs.ConferenceViews.{opening_to, bob_with, bob_before, gus_before}
use Rattle.cr_conference.specs.ConferenceViews.{bare_head, head_by_authors, head_to_members}
use Rattle.cr_conference.specs.ConferenceViews.{title_alone, last_texts, hal_to_bidding, dave_to_tags}
use Rattle.cr_conference.specs.ConferenceViews.{carol_to_bidding, fay_to_bidding, ivy_to_reviewing, alice_to_forms}
use Rattle.cr_conference.specs.ConferenceViews.{views_in_reviewing}

-- ---- in the discussion

-- the view of hal, a member in no conflict, up to the comments: every assignment, from the bidding on, but not who it
-- is if the mode is anonymous; of each label the last form before the discussion, and all later ones, whole; and every
-- comment, with his own label
abbrev pub hal_to_comments : Digests → Mode → Asides → View → View
hal_to_comments d mode a head =
    hal_to_bidding d mode head
    ++ to_members mode (assignment 1 dave Primary 1)
    ∷ to_members mode (assignment 1 alice Secondary 2)
    ∷ to_members mode (assignment 2 fay Pc 1)
    ∷ to_members mode (assignment 2 ivy Secondary 2)
    ∷ phase_set Reviewing
    ∷ to_members mode (unassignment 1 dave 1)
    ∷ to_members mode (assignment 1 dave Pc 3)
    ∷ form 1 2 1 alices_form
    ∷ form 1 3 2 second_form
    ∷ form 2 2 1 ivys_form
    ∷ phase_set Discussion
    ∷ form 1 3 3 (last_form a)
    ∷ comment_to_members mode dave 3 1 1 a.comment
    ∷ own_comment mode hal 0 1 2 agreed
    ∷ []

-- the view of dave, who reviews paper 1, up to the comments: what hal sees, and his own assignments and forms whole
abbrev pub dave_to_comments : Digests → Mode → Asides → View → View
dave_to_comments d mode a head =
    dave_to_tags d mode a head
    ++ assignment 1 dave Primary 1
    ∷ to_members mode (assignment 1 alice Secondary 2)
    ∷ to_members mode (assignment 2 fay Pc 1)
    ∷ to_members mode (assignment 2 ivy Secondary 2)
    ∷ phase_set Reviewing
    ∷ unassignment 1 dave 1
    ∷ assignment 1 dave Pc 3
    ∷ mine (form 1 3 1 first_form)
    ∷ form 1 2 1 alices_form
    ∷ mine (form 1 3 2 second_form)
    ∷ form 2 2 1 ivys_form
    ∷ phase_set Discussion
    ∷ mine (form 1 3 3 (last_form a))
    ∷ own_comment mode dave 3 1 1 a.comment
    ∷ comment_to_members mode hal 0 1 2 agreed
    ∷ []

-- what both are shown of decisions: every one
abbrev pub all_decided : View
all_decided = decided 2 Reject ∷ decided 1 Reject ∷ decided 1 Accept ∷ []

-- the view of carol, a member in conflict with paper 1: of the other papers what any member sees
abbrev pub carol_to_decisions : Digests → Mode → View → View → View
carol_to_decisions d mode head texts =
    carol_to_bidding d mode head texts
    ++ to_members mode (assignment 2 fay Pc 1)
    ∷ to_members mode (assignment 2 ivy Secondary 2)
    ∷ phase_set Reviewing
    ∷ form 2 2 1 ivys_form
    ∷ phase_set Discussion
    ∷ decided 2 Reject
    ∷ []

-- the view of alice, a chair in no conflict, up to the comments: every assignment, and the marks of forms as before; of
-- the forms what any member sees; every comment, and who wrote it
abbrev pub alice_to_comments : Digests → Mode → Asides → View
alice_to_comments d mode a =
    alice_to_forms d mode
    ++ form 1 3 2 second_form
    ∷ as_done (form 2 2 1 ivys_form)
    ∷ mine (phase_set Discussion)
    ∷ form 1 3 3 (last_form a)
    ∷ comment_by dave 1 1 a.comment
    ∷ comment_by hal 1 2 agreed
    ∷ []

-- the view of alice in the discussion: that, and every decision
abbrev pub alice_in_discussion : Digests → Mode → Asides → View
alice_in_discussion d mode a =
    alice_to_comments d mode a ++ decided 2 Reject ∷ mine (decided 1 Reject) ∷ mine (decided 1 Accept) ∷ []

-- the view of fay, a chair in conflict with paper 1: the form of paper 2, and the decision on it, which is her own
abbrev pub fay_to_decisions : Digests → Mode → View → View → View
fay_to_decisions d mode head texts =
    fay_to_bidding d mode head texts
    ++ phase_set Reviewing
    ∷ as_done (form 2 2 1 ivys_form)
    ∷ phase_set Discussion
    ∷ mine (decided 2 Reject)
    ∷ []

-- all views in the discussion. Of paper 1's texts the committee is shown what it was in the bidding. All others,
-- authors among them, are shown the phase.
abbrev pub views_in_discussion : Digests → Mode → Asides → Views
views_in_discussion d mode a = record (opened_to Discussion (views_in_reviewing d mode a)) {
  member = hal_to_comments d mode a (head_to_members mode) ++ all_decided;
  reviewer = dave_to_comments d mode a (head_to_members mode) ++ all_decided;
  conflicted_member = carol_to_decisions d mode bare_head title_alone;
  chair = alice_in_discussion d mode a;
  conflicted_chair = fay_to_decisions d mode bare_head title_alone;
}

-- ---- at the notification

-- what an author of paper 1 sees from the reviewing on, at the notification: of each label the last form, without its
-- number and its text to the committee; in the open mode who was assigned and unassigned, and under which labels, but
-- not whether they are the primary, the secondary or another; and what became of the author's papers. It is a function
-- of what is shown of forms of paper 2.
abbrev pub results : Mode → Asides → View → View → View
results Overt a forms outcomes =
    phase_set Reviewing
    ∷ to_authors (unassignment 1 dave 1)
    ∷ to_authors (assignment 1 dave Pc 3)
    ∷ form_to_authors 1 2 alices_form
    ∷ forms
    ++ phase_set Discussion
    ∷ form_to_authors 1 3 (last_form a)
    ∷ outcomes
    ++ phase_set Notification
    ∷ []
results mode a forms outcomes =
    phase_set Reviewing
    ∷ form_to_authors 1 2 alices_form
    ∷ forms
    ++ phase_set Discussion
    ∷ form_to_authors 1 3 (last_form a)
    ∷ outcomes
    ++ phase_set Notification
    ∷ []

-- what an author of paper 1 is shown of decisions: the last one, by which it is accepted
abbrev pub outcome_of_1 : View
outcome_of_1 = as_accepted (as_outcome (decided 1 Accept)) ∷ []

-- what the author of both papers is shown of decisions: the last one on each
abbrev pub outcomes_of_both : View
outcomes_of_both = as_outcome (decided 2 Reject) ∷ outcome_of_1

-- the view of bob at the notification: that before the bidding, in the open mode who was assigned in it, and then
-- `results`
abbrev pub bob_told : Mode → Asides → View → View → View
bob_told Overt a before outcomes =
    before
    ++ phase_set Bidding
    ∷ to_authors (assignment 1 dave Primary 1)
    ∷ to_authors (assignment 1 alice Secondary 2)
    ∷ results Overt a [] outcomes
bob_told mode a before outcomes = before ++ phase_set Bidding ∷ results mode a [] outcomes

-- what the author of paper 2 is shown of the form on it
abbrev pub form_of_2 : View
form_of_2 = form_to_authors 2 2 ivys_form ∷ []

-- the view of gus, a co-author of paper 1 who wrote paper 2 as well, at the notification
abbrev pub gus_told : Mode → Asides → View → View → View
gus_told Overt a before outcomes =
    before
    ++ phase_set Bidding
    ∷ to_authors (assignment 1 dave Primary 1)
    ∷ to_authors (assignment 1 alice Secondary 2)
    ∷ to_authors (assignment 2 fay Pc 1)
    ∷ to_authors (assignment 2 ivy Secondary 2)
    ∷ results Overt a form_of_2 outcomes
gus_told mode a before outcomes = before ++ phase_set Bidding ∷ results mode a form_of_2 outcomes

-- what a reader who wrote no paper and isn't on the committee is shown of the papers: these lines of papers 1 and 2,
-- that paper 3 is there, and which of the first two is accepted
abbrev pub programme : View → View → View → View
programme papers texts accepted =
    papers
    ++ bare_paper 3
    ∷ texts
    ++ phase_set Bidding
    ∷ phase_set Reviewing
    ∷ phase_set Discussion
    ∷ accepted
    ++ phase_set Notification
    ∷ []

-- what everyone is shown of paper 1, which is accepted: who wrote it, and its last title; of paper 2 that it is there
abbrev pub programme_of_1 : View → View
programme_of_1 texts = programme (head_by_authors ++ bare_paper 2 ∷ []) texts (acceptance 1 ∷ [])

-- what a member in no conflict is shown of decisions at the notification: all, as before, and which one accepts a
-- paper. Who wrote the paper is shown in the anonymous mode too.
abbrev pub all_told : View
all_told = decided 2 Reject ∷ decided 1 Reject ∷ as_accepted (decided 1 Accept) ∷ phase_set Notification ∷ []

-- the view of alice at the notification
abbrev pub alice_at_notification : Digests → Mode → Asides → View
alice_at_notification d mode a =
    alice_to_comments d mode a
    ++ decided 2 Reject
    ∷ mine (decided 1 Reject)
    ∷ mine (as_accepted (decided 1 Accept))
    ∷ mine (phase_set Notification)
    ∷ []

-- what a member or a chair in conflict with paper 1 is shown of the decisions on it: that it is accepted
abbrev pub told_in_conflict : View
told_in_conflict = acceptance 1 ∷ phase_set Notification ∷ []

-- the view of ivy, an external of paper 2, up to the notification: of paper 1 that it is accepted, and who wrote it
abbrev pub ivy_to_notification : Digests → Mode → View → View
ivy_to_notification d mode texts =
    ivy_to_reviewing d mode head_by_authors texts ++ phase_set Discussion ∷ told_in_conflict

-- all views at the notification
abbrev pub views_at_notification : Digests → Mode → Asides → Views
views_at_notification d mode a = record {
  nobody = opening_to_nobody mode ++ programme_of_1 title_alone;
  account = opening_to erin d mode ++ programme_of_1 title_alone;
  external = ivy_to_notification d mode title_alone;
  author = bob_told mode a (bob_before d mode) outcome_of_1;
  coauthor = gus_told mode a (gus_before d mode) outcomes_of_both;
  member = hal_to_comments d mode a head_by_authors ++ all_told;
  reviewer = dave_to_comments d mode a head_by_authors ++ all_told;
  conflicted_member = carol_to_decisions d mode head_by_authors title_alone ++ told_in_conflict;
  chair = alice_at_notification d mode a;
  conflicted_chair = fay_to_decisions d mode head_by_authors title_alone ++ told_in_conflict;
}

-- ---- at the close

-- all views at the close: everyone is shown the last version and the last abstract of paper 1 too, which its authors
-- and members in no conflict have seen already
abbrev pub views_at_close : Digests → Mode → Asides → Views
views_at_close d mode a =
    let seen = views_at_notification d mode a in
    opened_to Closed (record seen {
      nobody = opening_to_nobody mode ++ programme_of_1 last_texts;
      account = opening_to erin d mode ++ programme_of_1 last_texts;
      external = ivy_to_notification d mode last_texts;
      conflicted_member = carol_to_decisions d mode head_by_authors last_texts ++ told_in_conflict;
      conflicted_chair = fay_to_decisions d mode head_by_authors last_texts ++ told_in_conflict;
    })

-- ---- decided the other way round

-- the views of readers who aren't on the committee
pub record Outside : Type 0 where
  pub nobody : View
  pub account : View
  pub author : View
  pub coauthor : View

-- what everyone is shown at the close if the decisions are the other way round: of paper 2, which is accepted, who
-- wrote it, and its texts; of paper 1, which isn't, that it is there
abbrev pub programme_of_2 : View
programme_of_2 =
    programme
    (bare_paper 1 ∷ both_texts_by gus 2 types we_type ∷ [])
    (upload 2 1 only_version ∷ [])
    (acceptance 2 ∷ [])
    ++ phase_set Closed
    ∷ []

-- the views of readers who aren't on the committee at the close, if the decisions are the other way round
abbrev pub reversed_at_close : Digests → Mode → Asides → Outside
reversed_at_close d mode a = record {
  nobody = opening_to_nobody mode ++ programme_of_2;
  account = opening_to erin d mode ++ programme_of_2;
  author =
      bob_told mode a
      (bob_with d mode (both_texts_by gus 2 types we_type) (upload 2 1 only_version ∷ []))
      (acceptance 2 ∷ as_outcome (decided 1 Reject) ∷ [])
      ++ phase_set Closed
      ∷ [];
  coauthor =
      gus_told mode a (gus_before d mode)
      (as_accepted (as_outcome (decided 2 Accept)) ∷ as_outcome (decided 1 Reject) ∷ [])
      ++ phase_set Closed
      ∷ [];
}
