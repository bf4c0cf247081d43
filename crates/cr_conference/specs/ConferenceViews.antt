-- SPDX-License-Identifier: Apache-2.0 OR MIT
-- What each reader sees of the small conference, before the bidding, in it and in the reviewing: whole views, a line an
-- entry.
use Rattle.std.specs.Prelude.{ℕ, Bool, true, false, List, [], ◌∷◌, ◌++◌, Some, None, codes, ◌==◌, if◌then◌else◌}
use Rattle.cr_base.specs.declared.entry.EntryKind.TheVariants as kinds
use Rattle.cr_base.specs.declared.form.Form.{Form}
use Rattle.cr_base.specs.declared.words.Decision.{Decision}
use Rattle.cr_base.specs.declared.words.Kind.{Kind}
use Rattle.cr_base.specs.declared.words.Kind.TheVariants.{Primary, Secondary, Pc}
use Rattle.cr_base.specs.declared.words.Mode.{Mode}
use Rattle.cr_base.specs.declared.words.Mode.TheVariants.{Overt, Anonymous}
use Rattle.cr_base.specs.declared.words.Phase.{Phase}
use Rattle.cr_base.specs.declared.words.Phase.TheVariants.{Submission, Bidding, Reviewing}
use Rattle.cr_base.specs.declared.words.Role.{Role}
use Rattle.cr_base.specs.declared.words.Role.TheVariants.{Member, Chair}
use Rattle.cr_policy.specs.Sighting.{Sighting, blank}
use Rattle.cr_policy.specs.View.{View}
use Rattle.cr_policy.specs.Witness.{morning, some_key}
use Rattle.cr_conference.specs.Conference.{alice, bob, carol, dave, erin, fay, gus, hal, ivy, next_morning}
use Rattle.cr_conference.specs.Conference.{Digests, proofs, we_prove, types, we_type}
use Rattle.cr_conference.specs.Conference.{drafts, we_draft, fewer_proofs, we_prove_less, more_proofs, we_prove_more}
use Rattle.cr_conference.specs.Conference.{first_version, second_version, only_version, Asides, hot, own_tag}
use Rattle.cr_conference.specs.Conference.{chairs_tag}
use Rattle.cr_conference.specs.Conference.{first_form, second_form, alices_form, ivys_form}

-- ---- what a line may show

-- an account, without its digest
abbrev pub account : ℕ → List ℕ → Sighting
account user name = record (blank kinds.Registered) { user = Some user; name = Some name }

-- the reader's own account, with its digest
abbrev pub own_account : ℕ → List ℕ → List ℕ → Sighting
own_account user name digest =
    record (account user name) { mine = true; digest = Some digest; at = Some morning; key = Some None }

-- that a user is appointed to a role
abbrev pub role_given : ℕ → Role → Sighting
role_given user role = record (blank kinds.Named) { user = Some user; role = Some role }

-- that a user is dismissed
abbrev pub dismissal : ℕ → Sighting
dismissal user = record (blank kinds.Dismissed) { user = Some user }

-- that the mode is set
abbrev pub mode_set : Mode → Sighting
mode_set mode = record (blank kinds.ModeSet) { mode = Some mode }

-- that the phase is set
abbrev pub phase_set : Phase → Sighting
phase_set phase = record (blank kinds.PhaseSet) { phase = Some phase }

-- that a phase's deadline is set
abbrev pub deadline_set : Phase → ℕ → Sighting
deadline_set phase until = record (blank kinds.DeadlineSet) { phase = Some phase; until = Some (Some until) }

-- that there is this paper, and nothing else of it
abbrev pub bare_paper : ℕ → Sighting
bare_paper paper = record (blank kinds.Submitted) { paper = Some paper }

-- who submitted the paper, and none of its texts
abbrev pub bare_paper_by : ℕ → ℕ → Sighting
bare_paper_by user paper = record (bare_paper paper) { by = Some user }

-- the paper's title and abstract
abbrev pub both_texts : ℕ → List ℕ → List ℕ → Sighting
both_texts paper title abstract = record (bare_paper paper) { title = Some title; abstract = Some abstract }

-- the paper's title and abstract, and who submitted it
abbrev pub both_texts_by : ℕ → ℕ → List ℕ → List ℕ → Sighting
both_texts_by user paper title abstract = record (both_texts paper title abstract) { by = Some user }

-- that a user is a co-author of the paper
abbrev pub coauthor : ℕ → ℕ → Sighting
coauthor paper user = record (blank kinds.Coauthor) { paper = Some paper; user = Some user }

-- the title that a revision gives the paper
abbrev pub new_title : ℕ → List ℕ → Sighting
new_title paper title = record (blank kinds.Revised) { paper = Some paper; title = Some title }

-- the title and the abstract that a revision gives the paper
abbrev pub new_texts : ℕ → List ℕ → List ℕ → Sighting
new_texts paper title abstract = record (new_title paper title) { abstract = Some abstract }

-- a version of the paper's content
abbrev pub upload : ℕ → ℕ → List ℕ → Sighting
upload paper version content =
    record (blank kinds.Uploaded) { paper = Some paper; version = Some version; content = Some content }

-- that the paper is withdrawn
abbrev pub withdrawal : ℕ → Sighting
withdrawal paper = record (blank kinds.Withdrawn) { paper = Some paper }

-- that a user's conflict with the paper is turned on or off
abbrev pub conflict : ℕ → ℕ → Bool → Sighting
conflict paper user on = record (blank kinds.Conflict) { paper = Some paper; user = Some user; on = Some on }

-- a bid on the paper, kept plus 20
abbrev pub bid : ℕ → ℕ → Sighting
bid paper value = record (blank kinds.Bid) { paper = Some paper; value = Some value }

-- a bid on the paper, kept plus 20, and who made it
abbrev pub bid_by : ℕ → ℕ → ℕ → Sighting
bid_by user paper value = record (bid paper value) { by = Some user }

-- that a user is assigned to the paper, as the primary, the secondary or another reviewer, and the ordinal of their
-- label
abbrev pub assignment : ℕ → ℕ → Kind → ℕ → Sighting
assignment paper user kind ordinal = record (blank kinds.Assigned) {
  paper = Some paper;
  user = Some user;
  review_kind = Some kind;
  ordinal = Some ordinal;
}

-- that the user with the label of this ordinal is unassigned from the paper
abbrev pub unassignment : ℕ → ℕ → ℕ → Sighting
unassignment paper user ordinal =
    record (blank kinds.Unassigned) { paper = Some paper; user = Some user; ordinal = Some ordinal }

-- that a user is invited to the paper as an external
abbrev pub invitation : ℕ → ℕ → Sighting
invitation paper user = record (blank kinds.Invited) { paper = Some paper; user = Some user }

-- that a user's invitation to the paper has ended
abbrev pub uninvitation : ℕ → ℕ → Sighting
uninvitation paper user = record (blank kinds.Uninvited) { paper = Some paper; user = Some user }

-- what members who don't oversee the paper are shown of a submission, an assignment or its end: not who it is if the
-- mode is anonymous
abbrev pub to_members : Mode → Sighting → Sighting
to_members Anonymous line = record line { by = None; user = None }
to_members mode line = line

-- what authors who are told their reviewers are shown of an assignment or its end: not whether they are the primary,
-- the secondary or another
abbrev pub to_authors : Sighting → Sighting
to_authors line = record line { review_kind = None }

-- a form, whole
abbrev pub form : ℕ → ℕ → ℕ → Form → Sighting
form paper ordinal version written = record (blank kinds.Reviewed) {
  paper = Some paper;
  ordinal = Some ordinal;
  version = Some version;
  score = Some written.score;
  confidence = Some written.confidence;
  to_authors = Some written.to_authors;
  to_pc = Some written.to_pc;
}

-- the sighting with the mark that there is a form under the label
abbrev pub as_done : Sighting → Sighting
as_done line = record line { done = Some true }

-- that there is a form under the label, and nothing else of it
abbrev pub form_done : ℕ → ℕ → Sighting
form_done paper ordinal = as_done (record (blank kinds.Reviewed) { paper = Some paper; ordinal = Some ordinal })

-- what authors are shown of a form: not its number, and not its text to the committee
abbrev pub form_to_authors : ℕ → ℕ → Form → Sighting
form_to_authors paper ordinal written = record (form paper ordinal 0 written) { version = None; to_pc = None }

-- a comment, with who wrote it
abbrev pub comment_by : ℕ → ℕ → ℕ → List ℕ → Sighting
comment_by user paper n text =
    record (blank kinds.Commented) { paper = Some paper; n = Some n; text = Some text; by = Some user }

-- a comment, with the writer's label; 0 if the writer doesn't review the paper
abbrev pub comment_under : ℕ → ℕ → ℕ → List ℕ → Sighting
comment_under ordinal paper n text =
    record (blank kinds.Commented) { paper = Some paper; n = Some n; text = Some text; ordinal = Some ordinal }

-- what members who don't oversee the paper are shown of a comment: who wrote it, or under which label, by the mode; the
-- ordinal is 0 if the writer doesn't review the paper
abbrev pub comment_to_members : Mode → ℕ → ℕ → ℕ → ℕ → List ℕ → Sighting
comment_to_members Anonymous user ordinal paper n text = comment_under ordinal paper n text
comment_to_members mode user ordinal paper n text = comment_by user paper n text

-- what the writer of a comment is shown of it: what members are, and the label too
abbrev pub own_comment : Mode → ℕ → ℕ → ℕ → ℕ → List ℕ → Sighting
own_comment mode user ordinal paper n text =
    record (comment_to_members mode user ordinal paper n text) {
      mine = true;
      ordinal = Some ordinal;
      at = Some morning;
      key = Some None;
    }

-- that a tag is turned on or off at the paper
abbrev pub tagging : ℕ → List ℕ → Bool → Sighting
tagging paper tag on = record (blank kinds.Tagged) { paper = Some paper; tag = Some tag; on = Some on }

-- what is decided on the paper
abbrev pub decided : ℕ → Decision → Sighting
decided paper decision = record (blank kinds.Decided) { paper = Some paper; decision = Some decision }

-- the sighting with the mark that the decision is what became of the reader's own paper
abbrev pub as_outcome : Sighting → Sighting
as_outcome line = record line { outcome = Some true }

-- the sighting with the mark that the paper is accepted
abbrev pub as_accepted : Sighting → Sighting
as_accepted line = record line { accepted = Some true }

-- that the paper is accepted, without the decision
abbrev pub acceptance : ℕ → Sighting
acceptance paper = as_accepted (record (blank kinds.Decided) { paper = Some paper })

-- the sighting of an entry that the reader made
abbrev pub mine : Sighting → Sighting
mine line = record line { mine = true; at = Some morning; key = Some None }

-- the sighting of an entry that the reader made by the command with a number
abbrev pub mine_by_number : Sighting → Sighting
mine_by_number line = record (mine line) { key = Some (Some some_key) }

-- ---- a view for each kind of reader

-- the views of all kinds of readers
pub record Views : Type 0 where
  pub nobody : View
  pub account : View
  pub external : View
  pub author : View
  pub coauthor : View
  pub member : View
  pub reviewer : View
  pub conflicted_member : View
  pub chair : View
  pub conflicted_chair : View

-- these views after alice has opened the phase
abbrev pub opened_to : Phase → Views → Views
opened_to phase seen = record {
  nobody = seen.nobody ++ phase_set phase ∷ [];
  account = seen.account ++ phase_set phase ∷ [];
  external = seen.external ++ phase_set phase ∷ [];
  author = seen.author ++ phase_set phase ∷ [];
  coauthor = seen.coauthor ++ phase_set phase ∷ [];
  member = seen.member ++ phase_set phase ∷ [];
  reviewer = seen.reviewer ++ phase_set phase ∷ [];
  conflicted_member = seen.conflicted_member ++ phase_set phase ∷ [];
  chair = seen.chair ++ mine (phase_set phase) ∷ [];
  conflicted_chair = seen.conflicted_chair ++ phase_set phase ∷ [];
}

-- ---- registrations, roles, mode, phase and deadline: all is public but the digests, and each reader's own lines are
-- marked

-- what an unauthenticated caller is shown of the registrations, roles, mode, phase and deadline
abbrev pub opening_to_nobody : Mode → View
opening_to_nobody mode =
    account alice (codes "alice")
    ∷ role_given alice Chair
    ∷ account bob (codes "bob")
    ∷ account carol (codes "carol")
    ∷ account dave (codes "dave")
    ∷ account erin (codes "erin")
    ∷ account fay (codes "fay")
    ∷ account gus (codes "gus")
    ∷ account hal (codes "hal")
    ∷ account ivy (codes "ivy")
    ∷ role_given carol Member
    ∷ role_given dave Member
    ∷ role_given fay Chair
    ∷ role_given hal Member
    ∷ role_given ivy Member
    ∷ dismissal ivy
    ∷ mode_set mode
    ∷ phase_set Submission
    ∷ deadline_set Submission next_morning
    ∷ []

-- a user's account, as this reader is shown it: their own with its digest
abbrev pub account_to : ℕ → ℕ → List ℕ → List ℕ → Sighting
account_to reader user name digest = if reader == user then own_account user name digest else account user name

-- an entry that alice made, as this reader is shown it
abbrev pub of_alice_to : ℕ → Sighting → Sighting
of_alice_to reader line = if reader == alice then mine line else line

-- what a user is shown of the registrations, roles, mode, phase and deadline
abbrev pub opening_to : ℕ → Digests → Mode → View
opening_to reader d mode =
    account_to reader alice (codes "alice") d.alice
    ∷ of_alice_to reader (role_given alice Chair)
    ∷ account_to reader bob (codes "bob") d.bob
    ∷ account_to reader carol (codes "carol") d.carol
    ∷ account_to reader dave (codes "dave") d.dave
    ∷ account_to reader erin (codes "erin") d.erin
    ∷ account_to reader fay (codes "fay") d.fay
    ∷ account_to reader gus (codes "gus") d.gus
    ∷ account_to reader hal (codes "hal") d.hal
    ∷ account_to reader ivy (codes "ivy") d.ivy
    ∷ of_alice_to reader (role_given carol Member)
    ∷ of_alice_to reader (role_given dave Member)
    ∷ of_alice_to reader (role_given fay Chair)
    ∷ of_alice_to reader (role_given hal Member)
    ∷ of_alice_to reader (role_given ivy Member)
    ∷ of_alice_to reader (dismissal ivy)
    ∷ of_alice_to reader (mode_set mode)
    ∷ of_alice_to reader (phase_set Submission)
    ∷ of_alice_to reader (deadline_set Submission next_morning)
    ∷ []

-- ---- before the bidding

-- that there are three papers
abbrev pub bare_papers : View
bare_papers = bare_paper 1 ∷ bare_paper 2 ∷ bare_paper 3 ∷ []

-- the view of bob, an author of paper 1, before the bidding: all of his own paper, with what the co-author did and whom
-- they declared; of paper 2 this line, and this of its content; of paper 3 that it is there
abbrev pub bob_with : Digests → Mode → Sighting → View → View
bob_with d mode second content =
    opening_to bob d mode
    ++ mine_by_number (both_texts_by bob 1 proofs we_prove)
    ∷ mine_by_number (coauthor 1 gus)
    ∷ second
    ∷ bare_paper 3
    ∷ mine (upload 1 1 first_version)
    ∷ content
    ++ mine (upload 1 2 second_version)
    ∷ mine (new_texts 1 fewer_proofs we_prove_less)
    ∷ new_texts 1 more_proofs we_prove_more
    ∷ mine (conflict 1 carol true)
    ∷ conflict 1 fay true
    ∷ []

-- the view of bob before the bidding
abbrev pub bob_before : Digests → Mode → View
bob_before d mode = bob_with d mode (bare_paper 2) []

-- the view of gus, a co-author, before the bidding: all of paper 1, and all of his own papers, also that one is
-- withdrawn
abbrev pub gus_before : Digests → Mode → View
gus_before d mode =
    opening_to gus d mode
    ++ both_texts_by bob 1 proofs we_prove
    ∷ coauthor 1 gus
    ∷ mine (both_texts_by gus 2 types we_type)
    ∷ mine (both_texts_by gus 3 drafts we_draft)
    ∷ upload 1 1 first_version
    ∷ mine (upload 2 1 only_version)
    ∷ upload 1 2 second_version
    ∷ new_texts 1 fewer_proofs we_prove_less
    ∷ mine (new_texts 1 more_proofs we_prove_more)
    ∷ mine (withdrawal 3)
    ∷ conflict 1 carol true
    ∷ mine (conflict 1 fay true)
    ∷ []

-- all views before the bidding: others are shown that the papers are there, and those who are declared in conflict that
-- they are
abbrev pub views_before : Digests → Mode → Views
views_before d mode = record {
  nobody = opening_to_nobody mode ++ bare_papers;
  account = opening_to erin d mode ++ bare_papers;
  external = opening_to ivy d mode ++ bare_papers;
  author = bob_before d mode;
  coauthor = gus_before d mode;
  member = opening_to hal d mode ++ bare_papers;
  reviewer = opening_to dave d mode ++ bare_papers;
  conflicted_member = opening_to carol d mode ++ bare_papers ++ conflict 1 carol true ∷ [];
  chair = opening_to alice d mode ++ bare_papers;
  conflicted_chair = opening_to fay d mode ++ bare_papers ++ conflict 1 fay true ∷ [];
}

-- ---- in the bidding

-- of paper 1 that it is there
abbrev pub bare_head : View
bare_head = bare_paper 1 ∷ []

-- of paper 1 that it is there, and who wrote it
abbrev pub head_by_authors : View
head_by_authors = bare_paper_by bob 1 ∷ coauthor 1 gus ∷ []

-- what members in no conflict are shown of the submission of paper 1: who wrote it, unless the mode is anonymous
abbrev pub head_to_members : Mode → View
head_to_members Anonymous = bare_head
head_to_members mode = head_by_authors

-- the last title of paper 1
abbrev pub title_alone : View
title_alone = new_title 1 more_proofs ∷ []

-- the last version and both last texts of paper 1
abbrev pub last_texts : View
last_texts = upload 1 2 second_version ∷ new_texts 1 more_proofs we_prove_more ∷ []

-- what the committee is shown of the papers: of paper 1 this; of the others the last texts, the last version and
-- whether they are withdrawn, and unless the mode is anonymous who wrote them. Chairs are shown this in each mode as in
-- the open one.
abbrev pub papers_told : Mode → View → View → View
papers_told mode head texts =
    head
    ++ to_members mode (both_texts_by gus 2 types we_type)
    ∷ to_members mode (both_texts_by gus 3 drafts we_draft)
    ∷ upload 2 1 only_version
    ∷ texts
    ++ withdrawal 3
    ∷ []

-- the view of ivy, an external of paper 2, in the bidding: of paper 2 the texts, the content, and unless the mode is
-- anonymous who wrote it; of invitations and assignments her own
abbrev pub ivy_to_bidding : Digests → Mode → View → View → View
ivy_to_bidding d mode head texts =
    opening_to ivy d mode
    ++ head
    ++ to_members mode (both_texts_by gus 2 types we_type)
    ∷ bare_paper 3
    ∷ upload 2 1 only_version
    ∷ texts
    ++ phase_set Bidding
    ∷ invitation 1 ivy
    ∷ uninvitation 1 ivy
    ∷ invitation 2 ivy
    ∷ assignment 2 ivy Secondary 2
    ∷ []

-- the view of hal, a member in no conflict, in the bidding: all papers, and of the tags the committee's. Here and below
-- a view is a function of what is shown of paper 1, which is more if it is accepted.
abbrev pub hal_to_bidding : Digests → Mode → View → View
hal_to_bidding d mode head =
    opening_to hal d mode
    ++ papers_told mode head last_texts
    ++ phase_set Bidding
    ∷ tagging 1 hot true
    ∷ mine (tagging 1 hot false)
    ∷ []

-- the view of dave, who reviews paper 1, up to the tags: of the conflicts and the bids his own, and of the tags his own
-- too
abbrev pub dave_to_tags : Digests → Mode → Asides → View → View
dave_to_tags d mode a head =
    opening_to dave d mode
    ++ papers_told mode head last_texts
    ++ phase_set Bidding
    ∷ mine (conflict 2 dave true)
    ∷ conflict 2 dave false
    ∷ mine (bid 1 25)
    ∷ mine (bid 1 40)
    ∷ mine (tagging 1 hot true)
    ∷ mine (tagging 1 (own_tag a) true)
    ∷ tagging 1 hot false
    ∷ []

-- the view of dave in the bidding: that, and of the assignments his own
abbrev pub dave_in_bidding : Digests → Mode → Asides → View
dave_in_bidding d mode a = dave_to_tags d mode a (head_to_members mode) ++ assignment 1 dave Primary 1 ∷ []

-- the view of carol, a member in conflict with paper 1, in the bidding: of it no tag; of the other papers what any
-- member sees, and her own bid
abbrev pub carol_to_bidding : Digests → Mode → View → View → View
carol_to_bidding d mode head texts =
    opening_to carol d mode
    ++ papers_told mode head texts
    ++ conflict 1 carol true
    ∷ phase_set Bidding
    ∷ mine (bid 2 17)
    ∷ []

-- the view of alice, a chair in no conflict, in the bidding: what a member sees, whatever the mode; every conflict, but
-- not who declared it; every bid, and who made it; the committee's tags and those for chairs; and every assignment and
-- invitation
abbrev pub alice_in_bidding : Digests → Mode → View
alice_in_bidding d mode =
    opening_to alice d mode
    ++ papers_told Overt head_by_authors last_texts
    ++ conflict 1 carol true
    ∷ conflict 1 fay true
    ∷ mine (phase_set Bidding)
    ∷ mine (conflict 1 fay false)
    ∷ conflict 1 fay true
    ∷ conflict 2 dave true
    ∷ mine (conflict 2 dave false)
    ∷ bid_by dave 1 25
    ∷ bid_by carol 2 17
    ∷ mine (bid_by alice 1 0)
    ∷ bid_by dave 1 40
    ∷ tagging 1 hot true
    ∷ mine (tagging 1 chairs_tag true)
    ∷ tagging 1 hot false
    ∷ tagging 2 chairs_tag true
    ∷ mine (assignment 1 dave Primary 1)
    ∷ mine (assignment 1 alice Secondary 2)
    ∷ mine (assignment 2 fay Pc 1)
    ∷ mine (invitation 1 ivy)
    ∷ mine (uninvitation 1 ivy)
    ∷ mine (invitation 2 ivy)
    ∷ mine (assignment 2 ivy Secondary 2)
    ∷ []

-- the view of fay, a chair in conflict with paper 1, in the bidding: of its conflicts her own, and no tag; of the other
-- papers what any chair sees
abbrev pub fay_to_bidding : Digests → Mode → View → View → View
fay_to_bidding d mode head texts =
    opening_to fay d mode
    ++ papers_told Overt head texts
    ++ conflict 1 fay true
    ∷ phase_set Bidding
    ∷ conflict 1 fay false
    ∷ mine (conflict 1 fay true)
    ∷ conflict 2 dave true
    ∷ conflict 2 dave false
    ∷ bid_by carol 2 17
    ∷ mine (tagging 2 chairs_tag true)
    ∷ assignment 2 fay Pc 1
    ∷ invitation 2 ivy
    ∷ assignment 2 ivy Secondary 2
    ∷ []

-- all views in the bidding. Of paper 1 members in no conflict are shown the last texts, and who wrote it unless the
-- mode is anonymous; those in conflict only the last title. All others, authors among them, are shown the phase, and
-- not what the committee declares, bids, tags and assigns.
abbrev pub views_in_bidding : Digests → Mode → Asides → Views
views_in_bidding d mode a = record (opened_to Bidding (views_before d mode)) {
  external = ivy_to_bidding d mode bare_head [];
  member = hal_to_bidding d mode (head_to_members mode);
  reviewer = dave_in_bidding d mode a;
  conflicted_member = carol_to_bidding d mode bare_head title_alone;
  chair = alice_in_bidding d mode;
  conflicted_chair = fay_to_bidding d mode bare_head title_alone;
}

-- ---- in the reviewing

-- the view of dave, who reviews paper 1, in the reviewing: his own assignments, and his own forms whole
abbrev pub dave_in_reviewing : Digests → Mode → Asides → View
dave_in_reviewing d mode a =
    dave_in_bidding d mode a
    ++ phase_set Reviewing
    ∷ unassignment 1 dave 1
    ∷ assignment 1 dave Pc 3
    ∷ mine (form 1 3 1 first_form)
    ∷ mine (form 1 3 2 second_form)
    ∷ []

-- the view of ivy, an external of paper 2 who reviews it, in the reviewing: her own form whole
abbrev pub ivy_to_reviewing : Digests → Mode → View → View → View
ivy_to_reviewing d mode head texts =
    ivy_to_bidding d mode head texts ++ phase_set Reviewing ∷ mine (form 2 2 1 ivys_form) ∷ []

-- the view of alice, a chair in no conflict who reviews paper 1 too, up to the forms: every assignment, her own form
-- whole, and under which labels there is one
abbrev pub alice_to_forms : Digests → Mode → View
alice_to_forms d mode =
    alice_in_bidding d mode
    ++ mine (phase_set Reviewing)
    ∷ mine (unassignment 1 dave 1)
    ∷ mine (assignment 1 dave Pc 3)
    ∷ form_done 1 3
    ∷ mine (as_done (form 1 2 1 alices_form))
    ∷ []

-- the view of alice in the reviewing
abbrev pub alice_in_reviewing : Digests → Mode → View
alice_in_reviewing d mode = alice_to_forms d mode ++ form_done 2 2 ∷ []

-- the view of fay, a chair in conflict with paper 1, in the reviewing: of the other papers what any chair sees
abbrev pub fay_in_reviewing : Digests → Mode → View
fay_in_reviewing d mode = fay_to_bidding d mode bare_head title_alone ++ phase_set Reviewing ∷ form_done 2 2 ∷ []

-- all views in the reviewing: all others are shown the phase
abbrev pub views_in_reviewing : Digests → Mode → Asides → Views
views_in_reviewing d mode a = record (opened_to Reviewing (views_in_bidding d mode a)) {
  external = ivy_to_reviewing d mode bare_head [];
  reviewer = dave_in_reviewing d mode a;
  chair = alice_in_reviewing d mode;
  conflicted_chair = fay_in_reviewing d mode;
}
