-- SPDX-License-Identifier: Apache-2.0 OR MIT
-- The small conference with a response, which bob writes: the histories in the response, in the discussion after it,
-- and at the notification, and what each reader sees of them, a line an entry.
use Rattle.std.specs.Prelude.{ℕ, List, [], ◌∷◌, ◌++◌, Some, codes}
use Rattle.cr_base.specs.declared.entry.Entry.TheVariants.{PhaseSet, Reviewed, Responded}
use Rattle.cr_base.specs.declared.entry.EntryKind.TheVariants as kinds
use Rattle.cr_base.specs.declared.form.Form.{Form}
use Rattle.cr_base.specs.declared.words.Kind.TheVariants.{Primary, Secondary, Pc}
use Rattle.cr_base.specs.declared.words.Mode.{Mode}
use Rattle.cr_base.specs.declared.words.Mode.TheVariants.{Overt}
use Rattle.cr_base.specs.declared.words.Phase.TheVariants.{Bidding, Reviewing, Response, Discussion, Notification}
use Rattle.cr_base.specs.History.{History}
use Rattle.cr_policy.specs.Sighting.{Sighting, blank}
use Rattle.cr_policy.specs.View.{View}
use Rattle.cr_conference.specs.Conference.{alice, bob, dave, erin, fay, ivy, Digests, Asides, ◌adds◌, in_reviewing}
use Rattle.cr_conference.specs.Conference.{first_form, second_form, last_form, alices_form, ivys_form}
use Rattle.cr_conference.specs.ConferenceOutcomes.{Outside}
use Rattle.cr_conference.specs.ConferenceViews.{assignment, unassignment, to_members, to_authors, form, as_done}
use Rattle.cr_conference.specs.ConferenceViews.{form_to_authors, mine, phase_set, Views, opened_to, opening_to}
use Rattle.cr_conference.specs.ConferenceViews.{opening_to_nobody, bare_papers, bob_before, gus_before, bare_head}
use Rattle.cr_conference.specs.ConferenceViews.{head_to_members, title_alone, hal_to_bidding, dave_to_tags}
use Rattle.cr_conference.specs.ConferenceViews.{carol_to_bidding, fay_to_bidding, alice_to_forms, views_in_reviewing}

-- ---- what they do

-- what bob responds
abbrev pub you_are_right : List ℕ
you_are_right = codes "You are right."

-- fay's form of paper 2, which she writes in the discussion, and none before
abbrev pub late_form : Form
late_form = record { score = 4; confidence = 1; to_authors = codes "Fine."; to_pc = codes "At last." }

-- alice opens the response after the forms of the reviewing, and bob responds
abbrev pub in_response : Digests → Mode → Asides → ℕ → History
in_response d mode a reviewer =
    in_reviewing d mode a reviewer ++ alice adds PhaseSet Response ∷ bob adds Responded 1 you_are_right ∷ []

-- alice opens the discussion, in which the member who reviews paper 1 writes a last form, and fay one of paper 2
abbrev pub behind_response : Digests → Mode → Asides → ℕ → History
behind_response d mode a reviewer =
    in_response d mode a reviewer
    ++ alice adds PhaseSet Discussion
    ∷ reviewer adds Reviewed 1 3 3 (last_form a)
    ∷ fay adds Reviewed 2 1 1 late_form
    ∷ []

-- alice opens the notification, and nothing is decided
abbrev pub told_behind_response : Digests → Mode → Asides → ℕ → History
told_behind_response d mode a reviewer = behind_response d mode a reviewer ++ alice adds PhaseSet Notification ∷ []

-- ---- what is seen in the response

-- what is shown of a response: its text, not who wrote it
abbrev pub response : ℕ → List ℕ → Sighting
response paper text = record (blank kinds.Responded) { paper = Some paper; text = Some text }

-- the view of bob, an author of paper 1, in the response: of each label the last form, in each mode without who wrote
-- it; and his response
abbrev pub bob_in_response : Digests → Mode → View
bob_in_response d mode =
    bob_before d mode
    ++ phase_set Bidding
    ∷ phase_set Reviewing
    ∷ form_to_authors 1 2 alices_form
    ∷ form_to_authors 1 3 second_form
    ∷ phase_set Response
    ∷ mine (response 1 you_are_right)
    ∷ []

-- the view of gus, who wrote paper 2 as well, in the response: of both papers what their authors are shown
abbrev pub gus_in_response : Digests → Mode → View
gus_in_response d mode =
    gus_before d mode
    ++ phase_set Bidding
    ∷ phase_set Reviewing
    ∷ form_to_authors 1 2 alices_form
    ∷ form_to_authors 1 3 second_form
    ∷ form_to_authors 2 2 ivys_form
    ∷ phase_set Response
    ∷ response 1 you_are_right
    ∷ []

-- all views in the response: all others are shown the phase
abbrev pub views_in_response : Digests → Mode → Asides → Views
views_in_response d mode a = record (opened_to Response (views_in_reviewing d mode a)) {
  author = bob_in_response d mode;
  coauthor = gus_in_response d mode;
}

-- ---- and in the discussion behind it

-- the view of hal, a member in no conflict, in the discussion after the response: what the discussion shows, and the
-- response
abbrev pub hal_behind_response : Digests → Mode → Asides → View
hal_behind_response d mode a =
    hal_to_bidding d mode (head_to_members mode)
    ++ to_members mode (assignment 1 dave Primary 1)
    ∷ to_members mode (assignment 1 alice Secondary 2)
    ∷ to_members mode (assignment 2 fay Pc 1)
    ∷ to_members mode (assignment 2 ivy Secondary 2)
    ∷ phase_set Reviewing
    ∷ to_members mode (unassignment 1 dave 1)
    ∷ to_members mode (assignment 1 dave Pc 3)
    ∷ form 1 2 1 alices_form
    ∷ form 1 3 2 second_form
    ∷ form 2 2 1 ivys_form
    ∷ phase_set Response
    ∷ response 1 you_are_right
    ∷ phase_set Discussion
    ∷ form 1 3 3 (last_form a)
    ∷ form 2 1 1 late_form
    ∷ []

-- the view of dave, who reviews paper 1, in the discussion after the response: what hal sees, and his own assignments
-- and forms
abbrev pub dave_behind_response : Digests → Mode → Asides → View
dave_behind_response d mode a =
    dave_to_tags d mode a (head_to_members mode)
    ++ assignment 1 dave Primary 1
    ∷ to_members mode (assignment 1 alice Secondary 2)
    ∷ to_members mode (assignment 2 fay Pc 1)
    ∷ to_members mode (assignment 2 ivy Secondary 2)
    ∷ phase_set Reviewing
    ∷ unassignment 1 dave 1
    ∷ assignment 1 dave Pc 3
    ∷ mine (form 1 3 1 first_form)
    ∷ form 1 2 1 alices_form
    ∷ mine (form 1 3 2 second_form)
    ∷ form 2 2 1 ivys_form
    ∷ phase_set Response
    ∷ response 1 you_are_right
    ∷ phase_set Discussion
    ∷ mine (form 1 3 3 (last_form a))
    ∷ form 2 1 1 late_form
    ∷ []

-- the view of carol, a member in conflict with paper 1, in the discussion after the response: nothing of it, and of
-- paper 2 what the discussion shows
abbrev pub carol_behind_response : Digests → Mode → View
carol_behind_response d mode =
    carol_to_bidding d mode bare_head title_alone
    ++ to_members mode (assignment 2 fay Pc 1)
    ∷ to_members mode (assignment 2 ivy Secondary 2)
    ∷ phase_set Reviewing
    ∷ form 2 2 1 ivys_form
    ∷ phase_set Response
    ∷ phase_set Discussion
    ∷ form 2 1 1 late_form
    ∷ []

-- the view of fay, a chair in conflict with paper 1, in the discussion after the response: nothing of it, and of paper
-- 2 what the discussion shows
abbrev pub fay_behind_response : Digests → Mode → View
fay_behind_response d mode =
    fay_to_bidding d mode bare_head title_alone
    ++ phase_set Reviewing
    ∷ as_done (form 2 2 1 ivys_form)
    ∷ phase_set Response
    ∷ phase_set Discussion
    ∷ mine (as_done (form 2 1 1 late_form))
    ∷ []

-- the view of alice, a chair in no conflict, in the discussion after the response: all of it
abbrev pub alice_behind_response : Digests → Mode → Asides → View
alice_behind_response d mode a =
    alice_to_forms d mode
    ++ form 1 3 2 second_form
    ∷ as_done (form 2 2 1 ivys_form)
    ∷ mine (phase_set Response)
    ∷ response 1 you_are_right
    ∷ mine (phase_set Discussion)
    ∷ form 1 3 3 (last_form a)
    ∷ as_done (form 2 1 1 late_form)
    ∷ []

-- all views in the discussion after the response: authors and all others are shown the phase
abbrev pub views_behind_response : Digests → Mode → Asides → Views
views_behind_response d mode a = record (opened_to Discussion (views_in_response d mode a)) {
  member = hal_behind_response d mode a;
  reviewer = dave_behind_response d mode a;
  conflicted_member = carol_behind_response d mode;
  chair = alice_behind_response d mode a;
  conflicted_chair = fay_behind_response d mode;
}

-- ---- and at the notification

-- what an author of paper 1 is shown at the notification, from its first form on: of each label the form to which they
-- responded, and the last one; else what is shown without a response. It is a function of what is shown of paper 2, in
-- the reviewing and after the response, and of the response.
abbrev pub forms_behind : Asides → View → View → Sighting → View
forms_behind a forms late responded =
    form_to_authors 1 2 alices_form
    ∷ form_to_authors 1 3 second_form
    ∷ forms
    ++ phase_set Response
    ∷ responded
    ∷ phase_set Discussion
    ∷ form_to_authors 1 3 (last_form a)
    ∷ late
    ++ phase_set Notification
    ∷ []

-- what an author of paper 1 is shown at the notification, from the reviewing on
abbrev pub told_behind : Mode → Asides → View → View → Sighting → View
told_behind Overt a forms late responded =
    phase_set Reviewing
    ∷ to_authors (unassignment 1 dave 1)
    ∷ to_authors (assignment 1 dave Pc 3)
    ∷ forms_behind a forms late responded
told_behind mode a forms late responded = phase_set Reviewing ∷ forms_behind a forms late responded

-- the view of bob at the notification after the response
abbrev pub bob_behind : Digests → Mode → Asides → View
bob_behind d Overt a =
    bob_before d Overt
    ++ phase_set Bidding
    ∷ to_authors (assignment 1 dave Primary 1)
    ∷ to_authors (assignment 1 alice Secondary 2)
    ∷ told_behind Overt a [] [] (mine (response 1 you_are_right))
bob_behind d mode a =
    bob_before d mode ++ phase_set Bidding ∷ told_behind mode a [] [] (mine (response 1 you_are_right))

-- the view of gus at the notification after the response
abbrev pub gus_behind : Digests → Mode → Asides → View
gus_behind d Overt a =
    gus_before d Overt
    ++ phase_set Bidding
    ∷ to_authors (assignment 1 dave Primary 1)
    ∷ to_authors (assignment 1 alice Secondary 2)
    ∷ to_authors (assignment 2 fay Pc 1)
    ∷ to_authors (assignment 2 ivy Secondary 2)
    ∷ told_behind Overt a (form_to_authors 2 2 ivys_form ∷ []) (form_to_authors 2 1 late_form ∷ [])
    (response 1 you_are_right)
gus_behind d mode a =
    gus_before d mode
    ++ phase_set Bidding
    ∷ told_behind mode a (form_to_authors 2 2 ivys_form ∷ []) (form_to_authors 2 1 late_form ∷ [])
    (response 1 you_are_right)

-- what a reader who isn't on the committee and wrote nothing is shown from the bidding on: the phases
abbrev pub phases_to_notification : View
phases_to_notification =
    phase_set Bidding
    ∷ phase_set Reviewing
    ∷ phase_set Response
    ∷ phase_set Discussion
    ∷ phase_set Notification
    ∷ []

-- the views of readers who aren't on the committee at the notification after the response
abbrev pub told_outside : Digests → Mode → Asides → Outside
told_outside d mode a = record {
  nobody = opening_to_nobody mode ++ bare_papers ++ phases_to_notification;
  account = opening_to erin d mode ++ bare_papers ++ phases_to_notification;
  author = bob_behind d mode a;
  coauthor = gus_behind d mode a;
}
