-- SPDX-License-Identifier: Apache-2.0 OR MIT
-- The small conference is legal, whatever its chairs decide.
use Rattle.std.proofs.Common.{ℕ, Bool, true, false, List, [], ◌∷◌, ◌++◌, map, refl, sym, ◌≡◌, length, ◌&&◌, Option}
use Rattle.std.proofs.Common.{Some, None, if◌then◌else◌, arith}
use Rattle.std.specs.Prelude.{codes, nat_le, ◌≤◌, ◌==◌, IsTrue}
use Rattle.std.specs.List.{list_all, list_any}
use Rattle.std.specs.Str.{is_utf8}
use Rattle.std.proofs.lemmas.Bool.{and_parts, leb-true, true≢false}
use Rattle.std.proofs.lemmas.Option.{none-some, same_Some}
use Rattle.cr_base.specs.declared.command.Call.{Call}
use Rattle.cr_base.specs.declared.command.Command.{Command}
use Rattle.cr_base.specs.declared.command.Command.TheVariants.{SetPhase, Submit, Revise, Upload, Withdraw, Name}
use Rattle.cr_base.specs.declared.command.Command.TheVariants.{SetMode, SetConflict, Bid, Assign, Unassign, Review}
use Rattle.cr_base.specs.declared.command.Command.TheVariants.{Comment, Tag, Decide, SetDeadline, Dismiss, Invite}
use Rattle.cr_base.specs.declared.command.Command.TheVariants.{Uninvite, Respond}
use Rattle.cr_base.specs.declared.form.Form.{Form}
use Rattle.cr_base.specs.declared.retry.RetryKey.{RetryKey}
use Rattle.cr_base.specs.declared.words.Decision.{Decision}
use Rattle.cr_base.specs.declared.words.Kind.TheVariants.{Primary, Secondary, Pc}
use Rattle.cr_base.specs.declared.words.Mode.{Mode}
use Rattle.cr_base.specs.declared.words.Mode.TheVariants.{Anonymous, Overt}
use Rattle.cr_base.specs.declared.words.Phase.TheVariants.{Submission, Bidding, Reviewing, Response, Discussion}
use Rattle.cr_base.specs.declared.words.Phase.TheVariants.{Notification, Closed}
use Rattle.cr_base.specs.declared.words.Role.TheVariants.{Member, Chair}
use Rattle.cr_base.specs.Bounds.{IsGrade, IsForm, IsBoundedCommand}
use Rattle.cr_base.specs.Calls.{call_of}
use Rattle.cr_base.specs.History.{History, Registration, all_told, registration_told}
use Rattle.cr_base.specs.Keys.{kept_under}
use Rattle.cr_base.specs.Lists.{is_nothing}
use Rattle.cr_base.specs.Logins.{command_wants_login}
use Rattle.cr_base.specs.Texts.{IsName, IsTitle, IsAbstract, IsReviewText, IsCommentText, is_name_byte, is_name}
use Rattle.cr_base.specs.Texts.{is_title_byte}
use Rattle.cr_base.specs.Moments.{IsMoment}
use Rattle.cr_policy.specs.Legal.{CallsAs, IsKeyOf, IsNewKey, step, Move, calls, LeadsTo, Legal}
use Rattle.cr_policy.specs.Witness.{morning, some_key}
use Rattle.cr_policy.proofs.LegalLaws.{LeadsTo-append}
use Rattle.cr_policy.proofs.WitnessLaws.{register, ascii-utf8}
use Rattle.cr_conference.specs.Conference.{alice, bob, carol, dave, fay, gus, hal, ivy, next_morning, Digests}
use Rattle.cr_conference.specs.Conference.{AreDigests}
use Rattle.cr_conference.specs.Conference.{Asides, AreAsides, other_than, proofs, we_prove, types, we_type, drafts}
use Rattle.cr_conference.specs.Conference.{we_draft, fewer_proofs, we_prove_less, more_proofs, we_prove_more}
use Rattle.cr_conference.specs.Conference.{first_version}
use Rattle.cr_conference.specs.Conference.{second_version, only_version, hot, own_tag, chairs_tag, first_form}
use Rattle.cr_conference.specs.Conference.{second_form}
use Rattle.cr_conference.specs.Conference.{last_form, alices_form, ivys_form, agreed, registered, opened, submitted}
use Rattle.cr_conference.specs.Conference.{before_bidding, having_tags, in_bidding, in_reviewing, having_comments}
use Rattle.cr_conference.specs.Conference.{Verdicts}
use Rattle.cr_conference.specs.Conference.{verdicts, in_discussion, at_notification, at_close}
use Rattle.cr_conference.specs.ConferenceLaws.{IsReviewed, IsDecided, IsResponded, ConferenceLegal}
use Rattle.cr_conference.specs.ConferenceResponse.{you_are_right, late_form, in_response, behind_response}
use Rattle.cr_conference.specs.ConferenceResponse.{told_behind_response}

-- ---- calls

-- a call that is within its bounds, at some moment, by a key that its caller may give
pub record Turn : Type 0 where
  pub call : Call
  pub bounded : IsBoundedCommand call.command
  pub moment : IsMoment call.at
  pub key : IsKeyOf call.caller call.key

abbrev pub calls_of : List Turn → List Move
calls_of turns = map (λ (turn : Turn). calls turn.call) turns

-- who calls may do so, as a test
abbrev pub calls_as : History → Bool → Option ℕ → Bool
calls_as H false None = true
calls_as H false (Some user) = false
calls_as H true None = false
calls_as H true (Some user) = list_any (λ (r : Registration). r.user == user) (all_told registration_told H)

calls_as-so : (H : History) (login : Bool) (caller : Option ℕ) → calls_as H login caller ≡ true → CallsAs H login caller
calls_as-so H false None h = refl
calls_as-so H false (Some user) h = absurd (true≢false (sym h))
calls_as-so H true None h = absurd (true≢false (sym h))
calls_as-so H true (Some user) h = h

-- and so that its number is new
abbrev is_new : History → Option ℕ → Option RetryKey → Bool
is_new H caller None = true
is_new H None (Some key) = false
is_new H (Some user) (Some key) = is_nothing (kept_under user key.number H)

is_new-so : (H : History) (caller : Option ℕ) (key : Option RetryKey) → is_new H caller key ≡ true
    → IsNewKey H caller key
is_new-so H caller None h = tt
is_new-so H None (Some key) h = absurd (true≢false (sym h))
is_new-so H (Some user) (Some key) h = nothing (kept_under user key.number H) h
  where
    nothing : (es : History) → is_nothing es ≡ true → es ≡ []
    nothing [] h = refl
    nothing (e ∷ es) h = absurd (true≢false (sym h))

abbrev may_turn : History → Call → Bool
may_turn H call = calls_as H (command_wants_login call.command) call.caller && is_new H call.caller call.key

-- the history to which the turns lead, where each is taken by who may
abbrev pub reached : History → List Turn → Option History
reached H [] = Some H
reached H (turn ∷ turns) = if may_turn H turn.call then reached (step H turn.call) turns else None

reached-leads : (from to : History) (turns : List Turn) → reached from turns ≡ Some to
    → LeadsTo from (calls_of turns) to
reached-leads from to [] h = same_Some from to h
reached-leads from to (turn ∷ turns) h =
    called (may_turn from turn.call) refl (λ i. reached-leads (step from turn.call) to turns i) h
  where
    called : (may : Bool) → may_turn from turn.call ≡ may
        → (reached (step from turn.call) turns ≡ Some to → LeadsTo (step from turn.call) (calls_of turns) to)
        → (if may then reached (step from turn.call) turns else None) ≡ Some to
        → LeadsTo from (calls turn.call ∷ calls_of turns) to
    called false is rest h = absurd (none-some to h)
    called true is rest h =
        let login : Bool = command_wants_login turn.call.command in
        let may = and_parts (calls_as from login turn.call.caller) (is_new from turn.call.caller turn.call.key) is in (
          record {
            given = record {
              caller = calls_as-so from login turn.call.caller may.0;
              bounded = turn.bounded;
              moment = turn.moment;
              key = turn.key;
            };
            unused = is_new-so from turn.call.caller turn.call.key may.1;
          },
          rest h,
        )

-- a legal history goes on by turns
pub goes_on : (from to : History) (turns : List Turn) → reached from turns ≡ Some to → Legal from → Legal to
goes_on from to turns leads legal = (
  legal.0 ++ calls_of turns,
  LeadsTo-append [] from to legal.0 (calls_of turns) legal.1
      (reached-leads from to turns leads),
)

-- a user's command, at that moment, and at the one of all examples
abbrev pub by_then : (user : ℕ) (at : ℕ) (command : Command) → IsBoundedCommand command → IsMoment at → Turn
by_then user at command bounded moment =
    record { call = call_of (Some user) at None command; bounded = bounded; moment = moment; key = tt }

abbrev pub by : (user : ℕ) (command : Command) → IsBoundedCommand command → Turn
by user command bounded = by_then user morning command bounded (omega arith)

-- and by the number that a command here has
abbrev pub by_number : (user : ℕ) (command : Command) → IsBoundedCommand command → Turn
by_number user command bounded = record {
  call = call_of (Some user) morning (Some some_key) command;
  bounded = bounded;
  moment = omega arith;
  key = record { low = omega arith; high = omega arith; mark = refl };
}

-- ---- bounds, by computing

pub is_name-bounded : (name : List ℕ) → is_name name ≡ true → IsName name
is_name-bounded name h =
    let bytes = and_parts (nat_le 1 (length name) && nat_le (length name) 32) (list_all is_name_byte name) h in
    let sized = and_parts (nat_le 1 (length name)) (nat_le (length name) 32) bytes.0 in
    record { some = leb-true 1 (length name) sized.0; few = leb-true (length name) 32 sized.1; bytes = bytes.1 }

-- of texts whose bytes are below 128
abbrev pub is_plain_title : List ℕ → Bool
is_plain_title text = nat_le 1 (length text) && nat_le (length text) 200 && list_all is_title_byte text
    && list_all (λ b. nat_le b 127) text

abbrev pub is_plain : ℕ → List ℕ → Bool
is_plain limit text = nat_le (length text) limit && list_all (λ b. nat_le b 127) text

pub ascii-title : (text : List ℕ) → is_plain_title text ≡ true → IsTitle text
ascii-title text h =
    let p = and_parts (nat_le 1 (length text) && nat_le (length text) 200 && list_all is_title_byte text)
    (list_all (λ b. nat_le b 127) text) h in
    let q = and_parts (nat_le 1 (length text) && nat_le (length text) 200) (list_all is_title_byte text) p.0 in
    let sized = and_parts (nat_le 1 (length text)) (nat_le (length text) 200) q.0 in
    record {
      some = leb-true 1 (length text) sized.0;
      few = leb-true (length text) 200 sized.1;
      bytes = q.1;
      utf8 = ascii-utf8 text p.1;
    }

pub few-ascii : (limit : ℕ) (text : List ℕ) → is_plain limit text ≡ true → (length text ≤ limit) × IsTrue (is_utf8 text)
few-ascii limit text h =
    let p = and_parts (nat_le (length text) limit) (list_all (λ b. nat_le b 127) text)
    h in (leb-true (length text) limit p.0, ascii-utf8 text p.1)

pub ascii-abstract : (text : List ℕ) → is_plain 5000 text ≡ true → IsAbstract text
ascii-abstract text h = let p = few-ascii 5000 text h in record { few = p.0; utf8 = p.1 }

pub ascii-review : (text : List ℕ) → is_plain 20000 text ≡ true → IsReviewText text
ascii-review text h = let p = few-ascii 20000 text h in record { few = p.0; utf8 = p.1 }

pub agreed-bounded : IsCommentText agreed
agreed-bounded = let p = few-ascii 10000 agreed refl in record { some = omega arith; few = p.0; utf8 = p.1 }

you_are_right-bounded : IsCommentText you_are_right
you_are_right-bounded = let p =
    few-ascii 10000 you_are_right refl in record { some = omega arith; few = p.0; utf8 = p.1 }

-- of forms whose text to the committee is
pub bounded-form : (form : Form) → (nat_le 1 form.score && nat_le form.score 5) ≡ true
    → (nat_le 1 form.confidence && nat_le form.confidence 5) ≡ true
    → is_plain 20000 form.to_authors ≡ true → IsReviewText form.to_pc → IsForm form
bounded-form form score confidence to_authors to_pc = record {
  score = grade form.score score;
  confidence = grade form.confidence confidence;
  to_authors = ascii-review form.to_authors to_authors;
  to_pc = to_pc;
}
  where
    grade : (n : ℕ) → (nat_le 1 n && nat_le n 5) ≡ true → IsGrade n
    grade n h = let p = and_parts (nat_le 1 n) (nat_le n 5) h in (leb-true 1 n p.0, leb-true n 5 p.1)

-- ---- before the bidding

-- anybody may register
abbrev pub joins : (name digest : List ℕ) → is_name name ≡ true → length digest ≡ 32 → Turn
joins name digest named digested =
    record {
      call = register name digest;
      bounded = (is_name-bounded name named, digested);
      moment = omega arith;
      key = tt;
    }

pub registered-legal : (d : Digests) → AreDigests d → Legal (registered d)
registered-legal d are =
    goes_on [] (registered d)
    (
    joins (codes "alice") d.alice refl are.alice
    ∷ joins (codes "bob") d.bob refl are.bob
    ∷ joins (codes "carol") d.carol refl are.carol
    ∷ joins (codes "dave") d.dave refl are.dave
    ∷ joins (codes "erin") d.erin refl are.erin
    ∷ joins (codes "fay") d.fay refl are.fay
    ∷ joins (codes "gus") d.gus refl are.gus
    ∷ joins (codes "hal") d.hal refl are.hal
    ∷ joins (codes "ivy") d.ivy refl are.ivy
    ∷ []
    )
    refl ([], refl)

pub opened-legal : (d : Digests) (mode : Mode) → Legal (registered d) → Legal (opened d mode)
opened-legal d mode =
    goes_on (registered d) (opened d mode)
    (
    by alice (Name (Some (codes "carol")) Member) refl
    ∷ by alice (Name (Some (codes "dave")) Member) refl
    ∷ by alice (Name (Some (codes "fay")) Chair) refl
    ∷ by alice (Name (Some (codes "hal")) Member) refl
    ∷ by alice (Name (Some (codes "ivy")) Member) refl
    ∷ by alice (Dismiss (Some (codes "ivy"))) tt
    ∷ by alice (SetMode mode) tt
    ∷ by alice (SetPhase Submission) tt
    ∷ by alice (SetDeadline Submission (Some next_morning)) (refl, (omega arith, omega arith))
    ∷ []
    )
    refl

pub submitted-legal : (d : Digests) (mode : Mode) → Legal (opened d mode) → Legal (submitted d mode)
submitted-legal d mode =
    goes_on (opened d mode) (submitted d mode)
    (
    by_number bob (Submit proofs we_prove (Some (codes "gus") ∷ []))
    (ascii-title proofs refl, ascii-abstract we_prove refl, omega arith)
    ∷ by gus (Submit types we_type []) (ascii-title types refl, ascii-abstract we_type refl, omega arith)
    ∷ by gus (Submit drafts we_draft []) (ascii-title drafts refl, ascii-abstract we_draft refl, omega arith)
    ∷ []
    )
    refl

before-legal : (d : Digests) (mode : Mode) → Legal (submitted d mode) → Legal (before_bidding d mode)
before-legal d mode =
    goes_on (submitted d mode) (before_bidding d mode)
    (
    by bob (Upload (Some 1) first_version) (omega arith)
    ∷ by gus (Upload (Some 2) only_version) (omega arith)
    ∷ by bob (Upload (Some 1) second_version) (omega arith)
    ∷ by bob (Revise (Some 1) fewer_proofs we_prove_less)
    (ascii-title fewer_proofs refl, ascii-abstract we_prove_less refl)
    ∷ by gus (Revise (Some 1) more_proofs we_prove_more)
    (ascii-title more_proofs refl, ascii-abstract we_prove_more refl)
    ∷ by gus (Withdraw (Some 3)) tt
    ∷ by bob (SetConflict (Some 1) (Some (codes "carol")) true) tt
    ∷ by gus (SetConflict (Some 1) (Some (codes "fay")) true) tt
    ∷ []
    )
    refl

-- ---- from the bidding on

-- the two members whom alice may assign to paper 1: dave, or in the twin hal
abbrev assigned : Bool → ℕ
assigned false = dave
assigned true = hal

abbrev assigned_name : Bool → List ℕ
assigned_name false = codes "dave"
assigned_name true = codes "hal"

abbrev bidding_turns : (a : Asides) → AreAsides a → List Turn
bidding_turns a are =
    by alice (SetPhase Bidding) tt
    ∷ by alice (SetConflict (Some 1) (Some (codes "fay")) false) tt
    ∷ by fay (SetConflict (Some 1) (Some (codes "fay")) true) tt
    ∷ by dave (SetConflict (Some 2) (Some (codes "dave")) true) tt
    ∷ by alice (SetConflict (Some 2) (Some (codes "dave")) false) tt
    ∷ by dave (Bid (Some 1) 25) (omega arith)
    ∷ by carol (Bid (Some 2) 17) (omega arith)
    ∷ by alice (Bid (Some 1) 0) (omega arith)
    ∷ by dave (Bid (Some 1) 40) (omega arith)
    ∷ by dave (Tag (Some 1) hot true) refl
    ∷ by dave (Tag (Some 1) (own_tag a) true) are.tag
    ∷ by alice (Tag (Some 1) chairs_tag true) refl
    ∷ by hal (Tag (Some 1) hot false) refl
    ∷ by fay (Tag (Some 2) chairs_tag true) refl
    ∷ []

abbrev assigning_turns : Bool → List Turn
assigning_turns twin =
    by alice (Assign (Some 1) (Some (assigned_name twin)) Primary) tt
    ∷ by alice (Assign (Some 1) (Some (codes "alice")) Secondary) tt
    ∷ by alice (Assign (Some 2) (Some (codes "fay")) Pc) tt
    ∷ by alice (Invite (Some 1) (Some (codes "ivy"))) tt
    ∷ by alice (Uninvite (Some 1) (Some (codes "ivy"))) tt
    ∷ by alice (Invite (Some 2) (Some (codes "ivy"))) tt
    ∷ by alice (Assign (Some 2) (Some (codes "ivy")) Secondary) tt
    ∷ []

abbrev reviewing_turns : Bool → List Turn
reviewing_turns twin =
    by alice (SetPhase Reviewing) tt
    ∷ by alice (Unassign (Some 1) (Some (assigned_name twin))) tt
    ∷ by alice (Assign (Some 1) (Some (assigned_name twin)) Pc) tt
    ∷ by (assigned twin) (Review (Some 1) first_form)
    (bounded-form first_form refl refl refl (ascii-review first_form.to_pc refl))
    ∷ by alice (Review (Some 1) alices_form)
    (bounded-form alices_form refl refl refl (ascii-review alices_form.to_pc refl))
    ∷ by (assigned twin) (Review (Some 1) second_form)
    (bounded-form second_form refl refl refl (ascii-review second_form.to_pc refl))
    ∷ by ivy (Review (Some 2) ivys_form) (bounded-form ivys_form refl refl refl (ascii-review ivys_form.to_pc refl))
    ∷ []

abbrev comment_turns : (a : Asides) → AreAsides a → Bool → List Turn
comment_turns a are twin =
    by alice (SetPhase Discussion) tt
    ∷ by (assigned twin) (Review (Some 1) (last_form a)) (bounded-form (last_form a) refl refl refl are.to_pc)
    ∷ by (assigned twin) (Comment (Some 1) a.comment) are.comment
    ∷ by (other_than (assigned twin)) (Comment (Some 1) agreed) agreed-bounded
    ∷ []

abbrev deciding : ℕ → ℕ → Option Decision → List Turn
deciding chair paper None = []
deciding chair paper (Some decision) = by chair (Decide (Some paper) decision) tt ∷ []

abbrev decision_turns : Verdicts → List Turn
decision_turns v = deciding fay 2 v.other ++ deciding alice 1 v.first ++ deciding alice 1 v.last

abbrev notification_turns : List Turn
notification_turns = by alice (SetPhase Notification) tt ∷ []

abbrev closing_turns : List Turn
closing_turns = by alice (SetPhase Closed) tt ∷ []

-- that each call is allowed is computed: in each mode where a member calls who may not oversee the paper, and for
-- each of the two whom alice may assign
bidding-leads : (d : Digests) (mode : Mode) (a : Asides) (are : AreAsides a)
    → reached (before_bidding d mode) (bidding_turns a are) ≡ Some (having_tags d mode a)
bidding-leads d Anonymous a are = refl
bidding-leads d mode a are = refl

assigning-leads : (d : Digests) (mode : Mode) (a : Asides) (twin : Bool)
    → reached (having_tags d mode a) (assigning_turns twin) ≡ Some (in_bidding d mode a (assigned twin))
assigning-leads d mode a false = refl
assigning-leads d mode a true = refl

reviewing-leads : (d : Digests) (mode : Mode) (a : Asides) (twin : Bool)
    → reached (in_bidding d mode a (assigned twin)) (reviewing_turns twin)
    ≡ Some (in_reviewing d mode a (assigned twin))
reviewing-leads d Anonymous a false = refl
reviewing-leads d Anonymous a true = refl
reviewing-leads d mode a false = refl
reviewing-leads d mode a true = refl

comments-lead : (d : Digests) (mode : Mode) (a : Asides) (are : AreAsides a) (twin : Bool)
    → reached (in_reviewing d mode a (assigned twin)) (comment_turns a are twin)
    ≡ Some (having_comments d mode a (assigned twin))
comments-lead d Anonymous a are false = refl
comments-lead d Anonymous a are true = refl
comments-lead d mode a are false = refl
comments-lead d mode a are true = refl

-- what the chairs decide, and the phases behind it, where this member is assigned to paper 1
record AreLed (d : Digests) (mode : Mode) (a : Asides) (member : ℕ) (v : Verdicts) : Type 0 where
  discussion : reached (having_comments d mode a member) (decision_turns v) ≡ Some (in_discussion d mode a member v)
  notification : reached (in_discussion d mode a member v) notification_turns ≡ Some (at_notification d mode a member v)
  closed : reached (at_notification d mode a member v) closing_turns ≡ Some (at_close d mode a member v)

led : (d : Digests) (mode : Mode) (a : Asides) (other first last : Option Decision)
    → AreLed d mode a dave (record { other = other; first = first; last = last })
led d mode a None None None = record { discussion = refl; notification = refl; closed = refl }
led d mode a None None (Some last) = record { discussion = refl; notification = refl; closed = refl }
led d mode a None (Some first) None = record { discussion = refl; notification = refl; closed = refl }
led d mode a None (Some first) (Some last) = record { discussion = refl; notification = refl; closed = refl }
led d mode a (Some other) None None = record { discussion = refl; notification = refl; closed = refl }
led d mode a (Some other) None (Some last) = record { discussion = refl; notification = refl; closed = refl }
led d mode a (Some other) (Some first) None = record { discussion = refl; notification = refl; closed = refl }
led d mode a (Some other) (Some first) (Some last) = record { discussion = refl; notification = refl; closed = refl }

twin-led : (d : Digests) (mode : Mode) (a : Asides) → AreLed d mode a hal verdicts
twin-led d mode a = record { discussion = refl; notification = refl; closed = refl }

-- each phase is legal
module _ (d : Digests) (mode : Mode) (a : Asides) (are : AreAsides a) (twin : Bool) where
  bidding-legal : Legal (before_bidding d mode) → Legal (in_bidding d mode a (assigned twin))
  bidding-legal legal =
      goes_on (having_tags d mode a) (in_bidding d mode a (assigned twin)) (assigning_turns twin)
      (assigning-leads d mode a twin)
      (goes_on (before_bidding d mode) (having_tags d mode a) (bidding_turns a are) (bidding-leads d mode a are) legal)

  reviewing-legal : Legal (in_bidding d mode a (assigned twin)) → Legal (in_reviewing d mode a (assigned twin))
  reviewing-legal =
      goes_on (in_bidding d mode a (assigned twin)) (in_reviewing d mode a (assigned twin)) (reviewing_turns twin)
      (reviewing-leads d mode a twin)

  comments-legal : Legal (in_reviewing d mode a (assigned twin)) → Legal (having_comments d mode a (assigned twin))
  comments-legal =
      goes_on (in_reviewing d mode a (assigned twin)) (having_comments d mode a (assigned twin))
      (comment_turns a are twin)
      (comments-lead d mode a are twin)

  up_to-comments : Legal (before_bidding d mode) → Legal (having_comments d mode a (assigned twin))
  up_to-comments before = comments-legal (reviewing-legal (bidding-legal before))

-- the three phases behind it, where this member is assigned
record AreLegal (d : Digests) (mode : Mode) (a : Asides) (member : ℕ) (v : Verdicts) : Type 0 where
  discussion : Legal (in_discussion d mode a member v)
  notification : Legal (at_notification d mode a member v)
  closed : Legal (at_close d mode a member v)

decided-legal : (d : Digests) (mode : Mode) (a : Asides) (member : ℕ) (v : Verdicts) → AreLed d mode a member v
    → Legal (having_comments d mode a member) → AreLegal d mode a member v
decided-legal d mode a member v led legal =
    let discussion = goes_on (having_comments d mode a member) (in_discussion d mode a member v) (decision_turns v)
    led.discussion legal in
    let notification = goes_on (in_discussion d mode a member v) (at_notification d mode a member v) notification_turns
    led.notification discussion in
    let closed =
    goes_on (at_notification d mode a member v) (at_close d mode a member v) closing_turns led.closed notification in
    record { discussion = discussion; notification = notification; closed = closed }

-- who is what in it is computed for each of the two members
reviewed : (d : Digests) (mode : Mode) (a : Asides) → AreAsides a → Legal (before_bidding d mode) → (twin : Bool)
    → IsReviewed d mode a (assigned twin)
reviewed d mode a are before twin =
    let bidding = bidding-legal d mode a are twin before in
    let reviewing = reviewing-legal d mode a are twin bidding in
    by_member twin bidding reviewing (comments-legal d mode a are twin reviewing)
  where
    by_member : (twin : Bool) → Legal (in_bidding d mode a (assigned twin))
        → Legal (in_reviewing d mode a (assigned twin))
        → Legal (having_comments d mode a (assigned twin)) → IsReviewed d mode a (assigned twin)
    by_member false bidding reviewing comments =
        let decided =
        decided-legal d mode a dave verdicts (led d mode a verdicts.other verdicts.first verdicts.last) comments in
        record {
          bidding = record { legal = bidding; cast = refl };
          reviewing = record { legal = reviewing; cast = refl };
          discussion = record { legal = decided.discussion; cast = refl };
          notification = record { legal = decided.notification; cast = refl };
          closed = record { legal = decided.closed; cast = refl };
        }
    by_member true bidding reviewing comments =
        let decided = decided-legal d mode a hal verdicts (twin-led d mode a) comments in
        record {
          bidding = record { legal = bidding; cast = refl };
          reviewing = record { legal = reviewing; cast = refl };
          discussion = record { legal = decided.discussion; cast = refl };
          notification = record { legal = decided.notification; cast = refl };
          closed = record { legal = decided.closed; cast = refl };
        }

-- and the phases are legal whatever is decided
decided : (d : Digests) (mode : Mode) (a : Asides) → Legal (having_comments d mode a dave) → (v : Verdicts)
    → IsDecided d mode a v
decided d mode a comments v =
    let legal = decided-legal d mode a dave v (led d mode a v.other v.first v.last) comments in
    record { discussion = legal.discussion; notification = legal.notification; closed = legal.closed }

-- ---- with a response

-- an author's view may name reviewers to her, by the mode
abbrev response_turns : List Turn
response_turns = by alice (SetPhase Response) tt ∷ by bob (Respond (Some 1) you_are_right) you_are_right-bounded ∷ []

abbrev behind_turns : (a : Asides) → AreAsides a → Bool → List Turn
behind_turns a are twin =
    by alice (SetPhase Discussion) tt
    ∷ by (assigned twin) (Review (Some 1) (last_form a)) (bounded-form (last_form a) refl refl refl are.to_pc)
    ∷ by fay (Review (Some 2) late_form) (bounded-form late_form refl refl refl (ascii-review late_form.to_pc refl))
    ∷ []

response-leads : (d : Digests) (mode : Mode) (a : Asides) (twin : Bool)
    → reached (in_reviewing d mode a (assigned twin)) response_turns ≡ Some (in_response d mode a (assigned twin))
response-leads d Overt a false = refl
response-leads d Overt a true = refl
response-leads d mode a false = refl
response-leads d mode a true = refl

behind-leads : (d : Digests) (mode : Mode) (a : Asides) (are : AreAsides a) (twin : Bool)
    → reached (in_response d mode a (assigned twin)) (behind_turns a are twin)
    ≡ Some (behind_response d mode a (assigned twin))
behind-leads d Anonymous a are false = refl
behind-leads d Anonymous a are true = refl
behind-leads d mode a are false = refl
behind-leads d mode a are true = refl

told-leads : (d : Digests) (mode : Mode) (a : Asides) (twin : Bool)
    → reached (behind_response d mode a (assigned twin)) notification_turns
    ≡ Some (told_behind_response d mode a (assigned twin))
told-leads d mode a false = refl
told-leads d mode a true = refl

responded : (d : Digests) (mode : Mode) (a : Asides) → AreAsides a → (twin : Bool)
    → Legal (in_reviewing d mode a (assigned twin))
    → IsResponded d mode a (assigned twin)
responded d mode a are twin reviewing =
    let member : ℕ = assigned twin in
    let response = goes_on (in_reviewing d mode a member) (in_response d mode a member) response_turns
    (response-leads d mode a twin) reviewing in
    let behind = goes_on (in_response d mode a member) (behind_response d mode a member) (behind_turns a are twin)
    (behind-leads d mode a are twin) response in
    let told = goes_on (behind_response d mode a member) (told_behind_response d mode a member) notification_turns
    (told-leads d mode a twin) behind in
    by_member twin response behind told
  where
    by_member : (twin : Bool) → Legal (in_response d mode a (assigned twin))
        → Legal (behind_response d mode a (assigned twin))
        → Legal (told_behind_response d mode a (assigned twin)) → IsResponded d mode a (assigned twin)
    by_member false response behind told = record {
      response = record { legal = response; cast = refl };
      discussion = record { legal = behind; cast = refl };
      notification = record { legal = told; cast = refl };
    }
    by_member true response behind told = record {
      response = record { legal = response; cast = refl };
      discussion = record { legal = behind; cast = refl };
      notification = record { legal = told; cast = refl };
    }

pub conference-legal : ConferenceLegal
conference-legal d mode a digests asides =
    let before = before-legal d mode (submitted-legal d mode (opened-legal d mode (registered-legal d digests))) in
    let reviewing : (twin : Bool) → Legal (in_reviewing d mode a (assigned twin)) =
    λ twin. reviewing-legal d mode a asides twin (bidding-legal d mode a asides twin before) in
    record {
      responded = responded d mode a asides false (reviewing false);
      responded_twin = responded d mode a asides true (reviewing true);
      before = record { legal = before; cast = refl };
      reviewed = reviewed d mode a asides before false;
      twin = reviewed d mode a asides before true;
      decided = decided d mode a (up_to-comments d mode a asides false before);
    }
