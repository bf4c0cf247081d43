-- SPDX-License-Identifier: Apache-2.0 OR MIT
-- The words of the table and those of the bounds tell the same: one lemma a word.
use Rattle.std.proofs.Common.{◌≡◌, ℕ, Bool, true, false, List, [], ◌∷◌, ◌++◌, eqb, refl, ap, ◌∙◌, arith, ◌||◌, ◌&&◌}
use Rattle.std.proofs.Common.{Option, Some, None}
use Rattle.std.specs.Prelude.{not}
use Rattle.std.specs.List.{list_any}
use Rattle.std.proofs.lemmas.Bool.{true≢false, false≢true, and_right}
use Rattle.cr_base.specs.declared.entry.Entry.{Entry}
use Rattle.cr_base.specs.declared.entry.Entry.TheVariants.{Submitted, Revised, Uploaded, PhaseSet, Reviewed, Decided}
use Rattle.cr_base.specs.declared.entry.Stamped.{Stamped}
use Rattle.cr_base.specs.declared.words.Decision.{Decision}
use Rattle.cr_base.specs.declared.words.Decision.TheVariants.{Accept, Reject}
use Rattle.cr_base.specs.declared.words.Phase.{Phase}
use Rattle.cr_base.specs.declared.words.Phase.TheVariants.{Bidding, Response, Discussion, Notification, Closed}
use Rattle.cr_base.specs.declared.words.Mode.{Mode}
use Rattle.cr_base.specs.declared.words.Role.{Role}
use Rattle.cr_base.specs.Lists.{given, is_nothing, until}
use Rattle.cr_base.specs.History.{History, all_told, opens, opens_discussion, opens_response, title_told, upload_told}
use Rattle.cr_base.specs.History.{form_told, decision_told, whole_form}
use Rattle.cr_base.specs.Phases.{is_from, is_phase}
use Rattle.cr_base.specs.TagTexts.{is_for_all, is_for_chairs}
use Rattle.cr_base.specs.Words.{is_anonymous, is_overt, is_member, is_chair, is_accept}
use Rattle.cr_policy.specs.Triggers.{none_in}
use Rattle.cr_bounds.specs.ShownTo.{is_on_committee, chairs_committee, is_past_submission, is_response_or_later}
use Rattle.cr_bounds.specs.ShownTo.{is_past_reviewing, is_past_discussion, is_over, takes, decides, is_decided_again}
use Rattle.cr_bounds.specs.ShownTo.{hides_authors, hides_reviewers, names_reviewers, is_response, begins_response}
use Rattle.cr_bounds.specs.ShownTo.{is_responded_to, is_discussion, begins_discussion, gives_form, is_reviewed}
use Rattle.cr_bounds.specs.ShownTo.{is_discussed, is_committees, is_chairs, gives_texts, is_replaced, gives_content}
use Rattle.cr_bounds.specs.ShownTo.{is_superseded}

pub member-committee : (role : Role) → is_member role ≡ is_on_committee role
member-committee role = grind arith

pub chair-leads : (role : Role) → is_chair role ≡ chairs_committee role
chair-leads role = grind arith

-- a chair is on the committee
pub chair-committee : (role : Role) → (is_on_committee role && is_chair role) ≡ is_chair role
chair-committee role = grind arith

-- phases: what the bidding, the response, the discussion, the notification and the end begin, and that the discussion
-- comes behind the bidding, and the notification behind the discussion
pub record PhaseWords (phase : Phase) : Type 0 where
  pub bidding : is_from Bidding phase ≡ is_past_submission phase
  pub response : is_from Response phase ≡ is_response_or_later phase
  pub discussion : is_from Discussion phase ≡ is_past_reviewing phase
  pub notification : is_from Notification phase ≡ is_past_discussion phase
  pub closed : is_from Closed phase ≡ is_over phase
  pub discussion_later : (is_past_submission phase && is_past_reviewing phase) ≡ is_past_reviewing phase
  pub notification_later : (is_past_reviewing phase && is_past_discussion phase) ≡ is_past_discussion phase

pub phase-words : (phase : Phase) → PhaseWords phase
phase-words phase = grind arith

-- decisions: what is taken
pub accept-takes : (decision : Option Decision) → is_accept decision ≡ takes decision
accept-takes None = refl
accept-takes (Some Accept) = refl
accept-takes (Some Reject) = refl

-- modes: what is hidden from members, what authors are named, and that no mode has both
pub record ModeWords (mode : Mode) : Type 0 where
  pub authors : is_anonymous mode ≡ hides_authors mode
  pub reviewers : is_anonymous mode ≡ hides_reviewers mode
  pub named : is_overt mode ≡ names_reviewers mode
  pub never_both : (hides_reviewers mode && names_reviewers mode) ≡ false

pub mode-words : (mode : Mode) → ModeWords mode
mode-words mode = grind arith

-- whom a tag is for
pub for-committee : (tag : List ℕ) → is_for_all tag ≡ is_committees tag
for-committee [] = refl
for-committee (a ∷ tag) = refl

pub for-chairs : (tag : List ℕ) → is_for_chairs tag ≡ is_chairs tag
for-chairs [] = refl
for-chairs (a ∷ []) = and_right (eqb a 126) false refl
for-chairs (a ∷ b ∷ tag) = refl

-- entries that tell nothing of a series are those of which none gives a paper anything of it
append-nothing : {A : Type 0} (xs ys : List A) (gives later : Bool) → is_nothing xs ≡ not gives
    → is_nothing ys ≡ not later → is_nothing (xs ++ ys)
    ≡ not (gives || later)
append-nothing [] ys true later h rest = absurd (true≢false h)
append-nothing [] ys false later h rest = rest
append-nothing (x ∷ xs) ys true later h rest = refl
append-nothing (x ∷ xs) ys false later h rest = absurd (false≢true h)

none-told : {A : Type 0} (told : Entry → List A) (gives : Entry → Bool)
    → ((e : Entry) → is_nothing (told e) ≡ not (gives e)) → (H : History)
    → none_in told H ≡ not (list_any (λ (e : Stamped). gives e.entry) H)
none-told told gives one [] = refl
none-told told gives one (e ∷ H) =
    append-nothing (told e.entry) (all_told told H) (gives e.entry) (list_any (λ (e : Stamped). gives e.entry) H)
    (one e.entry) (none-told told gives one H)

given-nothing : {A : Type 0} (b : Bool) (x : A) → is_nothing (given b x) ≡ not b
given-nothing true x = refl
given-nothing false x = refl

pub none_in-replaced : (p : ℕ) (H : History) → none_in (title_told p) H ≡ not (is_replaced p H)
none_in-replaced p H = none-told (title_told p) (gives_texts p) one H
  where
    one : (e : Entry) → is_nothing (title_told p e) ≡ not (gives_texts p e)
    one (Submitted paper title abstract) = given-nothing (eqb paper p) title
    one (Revised paper title abstract) = given-nothing (eqb paper p) title
    one e = refl

pub none_in-superseded : (p : ℕ) (H : History) → none_in (upload_told p) H ≡ not (is_superseded p H)
none_in-superseded p H = none-told (upload_told p) (gives_content p) one H
  where
    one : (e : Entry) → is_nothing (upload_told p e) ≡ not (gives_content p e)
    one (Uploaded paper version content) = given-nothing (eqb paper p) (record { version = version; content = content })
    one e = refl

pub none_in-reviewed : (p o : ℕ) (H : History) → none_in (form_told p o) H ≡ not (is_reviewed p o H)
none_in-reviewed p o H = none-told (form_told p o) (gives_form p o) one H
  where
    one : (e : Entry) → is_nothing (form_told p o e) ≡ not (gives_form p o e)
    one (Reviewed paper ordinal version form) = given-nothing (eqb paper p && eqb ordinal o) (whole_form version form)
    one e = refl

pub none_in-decided : (p : ℕ) (H : History) → none_in (decision_told p) H ≡ not (is_decided_again p H)
none_in-decided p H = none-told (decision_told p) (decides p) one H
  where
    one : (e : Entry) → is_nothing (decision_told p e) ≡ not (decides p e)
    one (Decided paper decision) = given-nothing (eqb paper p) decision
    one e = refl

-- what opens the discussion begins it, and so a form stands as the table says
phase-discussion : (phase : Phase) → is_phase phase Discussion ≡ is_discussion phase
phase-discussion phase = grind arith

opens-begins : (e : Entry) → opens Discussion e ≡ begins_discussion e
opens-begins (PhaseSet phase) = phase-discussion phase
opens-begins e = refl

abbrev begins : Stamped → Bool
begins e = begins_discussion e.entry

discussion-tests : opens_discussion ≡ begins
discussion-tests = λ i e. opens-begins e.entry i

pub discussed-same : (p o : ℕ) (before later : History)
    → ((not (list_any opens_discussion before) && none_in (form_told p o) (until opens_discussion later))
    || list_any opens_discussion before)
    ≡ is_discussed p o before later
discussed-same p o before later =
    ap (λ (test : Stamped → Bool). (not (list_any test before) && none_in (form_told p o) (until test later))
    || list_any test before) discussion-tests
    ∙ by (list_any begins before) _ _ (none_in-reviewed p o (until begins later))
  where
    by : (begun none reviewed : Bool) → none ≡ not reviewed → ((not begun && none) || begun) ≡ (begun || not reviewed)
    by begun none reviewed h = grind (arith, h)

-- what opens the response begins it, and so of a form it is said alike that authors respond to it, where the response
-- is opened in the whole history exactly where it is before the form or behind it
phase-response : (phase : Phase) → is_phase phase Response ≡ is_response phase
phase-response phase = grind arith

pub response-begins : (e : Entry) → opens Response e ≡ begins_response e
response-begins (PhaseSet phase) = phase-response phase
response-begins e = refl

abbrev heard_from : Stamped → Bool
heard_from e = begins_response e.entry

pub response-tests : opens_response ≡ (λ (e : Stamped). begins_response e.entry)
response-tests = λ i e. response-begins e.entry i

pub responded-same : (p o : ℕ) (before later : History) (had : Bool)
    → had ≡ (list_any opens_response before || list_any opens_response later)
    → ((not (list_any opens_response before) && none_in (form_told p o) (until opens_response later)) && had)
    ≡ is_responded_to p o before later
responded-same p o before later had whole =
    ap (λ (test : Stamped → Bool). (not (list_any test before) && none_in (form_told p o) (until test later)) && had)
    response-tests
    ∙ by (list_any heard_from before) (list_any heard_from later) _ _ had
    (none_in-reviewed p o (until heard_from later))
    (whole ∙ ap (λ (test : Stamped → Bool). list_any test before || list_any test later) response-tests)
  where
    by : (begun begins none reviewed had : Bool) → none ≡ not reviewed → had ≡ (begun || begins)
        → ((not begun && none) && had) ≡ (not begun && begins && not reviewed)
    by begun begins none reviewed had hn hh = grind (arith, hn, hh)
