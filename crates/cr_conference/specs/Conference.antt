-- SPDX-License-Identifier: Apache-2.0 OR MIT
-- A small conference, from its first registration to its close: nine users, three papers, and every kind of entry but
-- a response. In its twin alice assigns another member to paper 1. It is a function of the digests of secrets, the
-- mode, what the committee says that no author reads (Asides), and what the chairs decide (Verdicts).
use Rattle.std.specs.Prelude.{ℕ, ◌≡◌, ◌+◌, true, false, List, [], ◌∷◌, ◌++◌, length}
use Rattle.std.specs.Prelude.{Option, Some, None, codes, ◌==◌, if◌then◌else◌, IsTrue}
use Rattle.cr_base.specs.declared.entry.Entry.{Entry}
use Rattle.cr_base.specs.declared.entry.Entry.TheVariants.{Registered, Named, PhaseSet, ModeSet, Submitted}
use Rattle.cr_base.specs.declared.entry.Entry.TheVariants.{Coauthor, Revised, Uploaded, Withdrawn, Conflict}
use Rattle.cr_base.specs.declared.entry.Entry.TheVariants.{Bid, Assigned, Unassigned, Reviewed}
use Rattle.cr_base.specs.declared.entry.Entry.TheVariants.{Commented, Tagged, Decided, DeadlineSet}
use Rattle.cr_base.specs.declared.entry.Entry.TheVariants.{Dismissed, Invited, Uninvited}
use Rattle.cr_base.specs.declared.entry.Stamped.{Stamped}
use Rattle.cr_base.specs.declared.form.Form.{Form}
use Rattle.cr_base.specs.declared.words.Decision.{Decision}
use Rattle.cr_base.specs.declared.words.Decision.TheVariants.{Accept, Reject}
use Rattle.cr_base.specs.declared.words.Kind.TheVariants.{Primary, Secondary, Pc}
use Rattle.cr_base.specs.declared.words.Mode.{Mode}
use Rattle.cr_base.specs.declared.words.Phase.TheVariants.{Submission, Bidding, Reviewing}
use Rattle.cr_base.specs.declared.words.Phase.TheVariants.{Discussion, Notification, Closed}
use Rattle.cr_base.specs.declared.words.Role.TheVariants.{Member, Chair}
use Rattle.cr_base.specs.Calls.{stamp_by}
use Rattle.cr_base.specs.Drawn.{stamped}
use Rattle.cr_base.specs.History.{History}
use Rattle.cr_base.specs.TagTexts.{is_tag}
use Rattle.cr_base.specs.Texts.{IsReviewText, IsCommentText}
use Rattle.cr_policy.specs.Witness.{morning, some_key}

-- ---- who takes part

-- a chair in no conflict, who reviews paper 1 and decides on it
abbrev pub alice : ℕ
alice = 1

-- the submitter of paper 1
abbrev pub bob : ℕ
bob = 2

-- a member in conflict with paper 1
abbrev pub carol : ℕ
carol = 3

-- a member in no conflict, at the end, who reviews paper 1
abbrev pub dave : ℕ
dave = 4

-- an account and nothing else
abbrev pub erin : ℕ
erin = 5

-- a chair in conflict with paper 1, who reviews paper 2 and decides on it
abbrev pub fay : ℕ
fay = 6

-- a co-author of paper 1, and the author of papers 2 and 3
abbrev pub gus : ℕ
gus = 7

-- a member in no conflict, who reviews paper 1 only in the twin
abbrev pub hal : ℕ
hal = 8

-- a member who is dismissed, and is then an external of paper 2 and reviews it
abbrev pub ivy : ℕ
ivy = 9

-- the nine users, in the order of their registration
abbrev pub cast : List ℕ
cast = alice ∷ bob ∷ carol ∷ dave ∷ erin ∷ fay ∷ gus ∷ hal ∷ ivy ∷ []

-- the digests of their secrets, whatever these are
pub record Digests : Type 0 where
  pub alice : List ℕ
  pub bob : List ℕ
  pub carol : List ℕ
  pub dave : List ℕ
  pub erin : List ℕ
  pub fay : List ℕ
  pub gus : List ℕ
  pub hal : List ℕ
  pub ivy : List ℕ

-- each digest has 32 bytes
pub record AreDigests (d : Digests) : Type 0 where
  pub alice : length d.alice ≡ 32
  pub bob : length d.bob ≡ 32
  pub carol : length d.carol ≡ 32
  pub dave : length d.dave ≡ 32
  pub erin : length d.erin ≡ 32
  pub fay : length d.fay ≡ 32
  pub gus : length d.gus ≡ 32
  pub hal : length d.hal ≡ 32
  pub ivy : length d.ivy ≡ 32

-- ---- texts

-- the title of paper 1
abbrev pub proofs : List ℕ
proofs = codes "Proofs"

-- the abstract of paper 1
abbrev pub we_prove : List ℕ
we_prove = codes "We prove."

-- the title of paper 2
abbrev pub types : List ℕ
types = codes "Types"

-- the abstract of paper 2
abbrev pub we_type : List ℕ
we_type = codes "We type."

-- the title of paper 3
abbrev pub drafts : List ℕ
drafts = codes "Drafts"

-- the abstract of paper 3
abbrev pub we_draft : List ℕ
we_draft = codes "We draft."

-- the title of paper 1 after its first revision
abbrev pub fewer_proofs : List ℕ
fewer_proofs = codes "Fewer proofs"

-- the abstract of paper 1 after its first revision
abbrev pub we_prove_less : List ℕ
we_prove_less = codes "We prove less."

-- the title of paper 1 after its second revision
abbrev pub more_proofs : List ℕ
more_proofs = codes "More proofs"

-- the abstract of paper 1 after its second revision
abbrev pub we_prove_more : List ℕ
we_prove_more = codes "We prove more."

-- the first version of the content of paper 1
abbrev pub first_version : List ℕ
first_version = codes "Let x be."

-- the second version of the content of paper 1
abbrev pub second_version : List ℕ
second_version = codes "Let x be, and y."

-- the content of paper 2
abbrev pub only_version : List ℕ
only_version = codes "x : A"

-- what the committee says that no author reads: how dave's own tag goes on, the last form's text to the committee, and
-- the first comment
pub record Asides : Type 0 where
  pub tag : List ℕ
  pub to_pc : List ℕ
  pub comment : List ℕ

-- a tag for the committee
abbrev pub hot : List ℕ
hot = codes "hot"

-- dave's own tag
abbrev pub own_tag : Asides → List ℕ
own_tag a = codes "~x" ++ a.tag

-- a tag for chairs
abbrev pub chairs_tag : List ℕ
chairs_tag = codes "~~x"

-- the first form of the member who reviews paper 1
abbrev pub first_form : Form
first_form = record { score = 2; confidence = 3; to_authors = codes "Weak."; to_pc = codes "New to me." }

-- the second form of the member who reviews paper 1
abbrev pub second_form : Form
second_form = record { score = 3; confidence = 4; to_authors = codes "Fair."; to_pc = codes "I read on." }

-- the last form of the member who reviews paper 1
abbrev pub last_form : Asides → Form
last_form a = record { score = 5; confidence = 4; to_authors = codes "Good."; to_pc = a.to_pc }

-- alice's form of paper 1
abbrev pub alices_form : Form
alices_form = record { score = 4; confidence = 2; to_authors = codes "Thin."; to_pc = codes "Take it." }

-- ivy's form of paper 2
abbrev pub ivys_form : Form
ivys_form = record { score = 1; confidence = 5; to_authors = codes "Old."; to_pc = codes "No." }

-- the second comment
abbrev pub agreed : List ℕ
agreed = codes "Agreed."

-- what the committee says is within its bounds
pub record AreAsides (a : Asides) : Type 0 where
  pub tag : IsTrue (is_tag (own_tag a))
  pub to_pc : IsReviewText a.to_pc
  pub comment : IsCommentText a.comment

-- ---- what they do

-- a day after the timestamp of every request here
abbrev pub next_morning : ℕ
next_morning = morning + 86400

-- `user adds e`: the entry e, which the user made, as the only one of its command
infix 90 ◌adds◌
abbrev pub ◌adds◌ : ℕ → Entry → Stamped
user adds entry = stamped (stamp_by user morning None) false entry

-- all have registered; alice, the first, is a chair for that
abbrev pub registered : Digests → History
registered d =
    stamped (stamp_by alice morning None) true (Registered alice (codes "alice") d.alice)
    ∷ alice adds Named alice Chair
    ∷ bob adds Registered bob (codes "bob") d.bob
    ∷ carol adds Registered carol (codes "carol") d.carol
    ∷ dave adds Registered dave (codes "dave") d.dave
    ∷ erin adds Registered erin (codes "erin") d.erin
    ∷ fay adds Registered fay (codes "fay") d.fay
    ∷ gus adds Registered gus (codes "gus") d.gus
    ∷ hal adds Registered hal (codes "hal") d.hal
    ∷ ivy adds Registered ivy (codes "ivy") d.ivy
    ∷ []

-- alice appoints the others of the committee, and ivy, whom she dismisses, sets the mode, opens the submission and sets
-- its deadline
abbrev pub opened : Digests → Mode → History
opened d mode =
    registered d
    ++ alice adds Named carol Member
    ∷ alice adds Named dave Member
    ∷ alice adds Named fay Chair
    ∷ alice adds Named hal Member
    ∷ alice adds Named ivy Member
    ∷ alice adds Dismissed ivy
    ∷ alice adds ModeSet mode
    ∷ alice adds PhaseSet Submission
    ∷ alice adds DeadlineSet Submission (Some next_morning)
    ∷ []

-- bob submits paper 1 with gus, by a command with a number, and gus submits papers 2 and 3
abbrev pub submitted : Digests → Mode → History
submitted d mode =
    opened d mode
    ++ stamped (stamp_by bob morning (Some some_key)) true (Submitted 1 proofs we_prove)
    ∷ stamped (stamp_by bob morning (Some some_key)) false (Coauthor 1 gus)
    ∷ gus adds Submitted 2 types we_type
    ∷ gus adds Submitted 3 drafts we_draft
    ∷ []

-- bob uploads two versions of paper 1, and gus one of paper 2 between them; bob revises paper 1, and then gus does, who
-- withdraws paper 3; bob declares carol in conflict with paper 1, and gus declares fay
abbrev pub before_bidding : Digests → Mode → History
before_bidding d mode =
    submitted d mode
    ++ bob adds Uploaded 1 1 first_version
    ∷ gus adds Uploaded 2 1 only_version
    ∷ bob adds Uploaded 1 2 second_version
    ∷ bob adds Revised 1 fewer_proofs we_prove_less
    ∷ gus adds Revised 1 more_proofs we_prove_more
    ∷ gus adds Withdrawn 3
    ∷ bob adds Conflict 1 carol true
    ∷ gus adds Conflict 1 fay true
    ∷ []

-- alice opens the bidding, and turns fay's conflict off; fay declares it herself; dave declares a conflict of his own
-- with paper 2, and alice turns that off
abbrev pub opened_bidding : Digests → Mode → History
opened_bidding d mode =
    before_bidding d mode
    ++ alice adds PhaseSet Bidding
    ∷ alice adds Conflict 1 fay false
    ∷ fay adds Conflict 1 fay true
    ∷ dave adds Conflict 2 dave true
    ∷ alice adds Conflict 2 dave false
    ∷ []

-- dave and alice bid on paper 1, dave a second time, and carol on paper 2: 5, -20, 20 and -3, each kept plus 20
abbrev pub having_bids : Digests → Mode → History
having_bids d mode =
    opened_bidding d mode
    ++ dave adds Bid 1 25
    ∷ carol adds Bid 2 17
    ∷ alice adds Bid 1 0
    ∷ dave adds Bid 1 40
    ∷ []

-- dave sets the committee's tag and his own at paper 1, and alice the chairs'; hal turns the first off; fay sets the
-- chairs' tag at paper 2
abbrev pub having_tags : Digests → Mode → Asides → History
having_tags d mode a =
    having_bids d mode
    ++ dave adds Tagged 1 hot true
    ∷ dave adds Tagged 1 (own_tag a) true
    ∷ alice adds Tagged 1 chairs_tag true
    ∷ hal adds Tagged 1 hot false
    ∷ fay adds Tagged 2 chairs_tag true
    ∷ []

-- alice assigns a member to paper 1 (dave, or hal in the twin), herself too, and fay to paper 2; she invites ivy to
-- paper 1, ends that invitation, invites her to paper 2, and assigns her to it
abbrev pub in_bidding : Digests → Mode → Asides → ℕ → History
in_bidding d mode a reviewer =
    having_tags d mode a
    ++ alice adds Assigned 1 reviewer Primary 1
    ∷ alice adds Assigned 1 alice Secondary 2
    ∷ alice adds Assigned 2 fay Pc 1
    ∷ alice adds Invited 1 ivy
    ∷ alice adds Uninvited 1 ivy
    ∷ alice adds Invited 2 ivy
    ∷ alice adds Assigned 2 ivy Secondary 2
    ∷ []

-- alice opens the reviewing, unassigns the member from paper 1 and assigns the same one again, under the next label;
-- the member writes two forms, and alice one between them; ivy writes one of paper 2
abbrev pub in_reviewing : Digests → Mode → Asides → ℕ → History
in_reviewing d mode a reviewer =
    in_bidding d mode a reviewer
    ++ alice adds PhaseSet Reviewing
    ∷ alice adds Unassigned 1 reviewer 1
    ∷ alice adds Assigned 1 reviewer Pc 3
    ∷ reviewer adds Reviewed 1 3 1 first_form
    ∷ alice adds Reviewed 1 2 1 alices_form
    ∷ reviewer adds Reviewed 1 3 2 second_form
    ∷ ivy adds Reviewed 2 2 1 ivys_form
    ∷ []

-- of dave and hal the one who doesn't review paper 1
abbrev pub other_than : ℕ → ℕ
other_than reviewer = if reviewer == dave then hal else dave

-- alice opens the discussion; the member writes a last form, and comments on paper 1, and the other of dave and hal
-- does
abbrev pub having_comments : Digests → Mode → Asides → ℕ → History
having_comments d mode a reviewer =
    in_reviewing d mode a reviewer
    ++ alice adds PhaseSet Discussion
    ∷ reviewer adds Reviewed 1 3 3 (last_form a)
    ∷ reviewer adds Commented 1 1 (Some 3) a.comment
    ∷ other_than reviewer adds Commented 1 2 None agreed
    ∷ []

-- ---- what the chairs decide

-- what the chairs decide: fay on paper 2, and alice on paper 1, at most twice; each decision may be left out
pub record Verdicts : Type 0 where
  pub other : Option Decision
  pub first : Option Decision
  pub last : Option Decision

-- paper 2 is rejected; paper 1 is first rejected, and then accepted
abbrev pub verdicts : Verdicts
verdicts = record { other = Some Reject; first = Some Reject; last = Some Accept }

-- paper 2 is accepted; paper 1 is first accepted, and then rejected
abbrev pub reversed : Verdicts
reversed = record { other = Some Accept; first = Some Accept; last = Some Reject }

-- the user's decision on the paper, if there is one
abbrev pub decides : ℕ → ℕ → Option Decision → History
decides chair paper None = []
decides chair paper (Some decision) = chair adds Decided paper decision ∷ []

-- the history up to the end of the discussion
abbrev pub in_discussion : Digests → Mode → Asides → ℕ → Verdicts → History
in_discussion d mode a reviewer v =
    having_comments d mode a reviewer ++ decides fay 2 v.other ++ decides alice 1 v.first ++ decides alice 1 v.last

-- alice opens the notification
abbrev pub at_notification : Digests → Mode → Asides → ℕ → Verdicts → History
at_notification d mode a reviewer v = in_discussion d mode a reviewer v ++ alice adds PhaseSet Notification ∷ []

-- alice closes the conference
abbrev pub at_close : Digests → Mode → Asides → ℕ → Verdicts → History
at_close d mode a reviewer v = at_notification d mode a reviewer v ++ alice adds PhaseSet Closed ∷ []
