-- SPDX-License-Identifier: Apache-2.0 OR MIT
-- What the bounds leave for outsiders.
use Rattle.std.proofs.Common.{◌≡◌, ℕ, Bool, true, false, cond, List, refl, sym, ap, subst, ◌∙◌, arith, ◌||◌, ◌&&◌}
use Rattle.std.proofs.Common.{Option, Some, None}
use Rattle.std.specs.Prelude.{not}
use Rattle.std.proofs.lemmas.Bool.{eqb-true, or_parts, or_from, and_parts, false≢true, and_right}
use Rattle.cr_base.specs.declared.entry.Entry.{Entry}
use Rattle.cr_base.specs.declared.entry.Entry.TheVariants.{Registered, Submitted, Coauthor, Revised, Uploaded}
use Rattle.cr_base.specs.declared.entry.Entry.TheVariants.{Withdrawn, Conflict, Bid, Assigned, Unassigned, Reviewed}
use Rattle.cr_base.specs.declared.entry.Entry.TheVariants.{Commented, Tagged, Decided, Invited, Uninvited, Responded}
use Rattle.cr_base.specs.declared.entry.EntryKind.TheVariants as kinds
use Rattle.cr_base.specs.declared.entry.Stamp.{Stamp}
use Rattle.cr_base.specs.declared.entry.Stamped.{Stamped}
use Rattle.cr_base.specs.Lists.{is_number}
use Rattle.cr_base.specs.History.{History}
use Rattle.cr_base.specs.HistoryFacts.{mode_of, phase_of, role_of, is_author}
use Rattle.cr_policy.specs.Sighting.{Sighting, blank}
use Rattle.cr_policy.specs.ViewFacts.{is_user}
use Rattle.cr_bounds.specs.ShownTo.{chairs_committee, is_response_or_later, is_past_reviewing, is_past_discussion}
use Rattle.cr_bounds.specs.ShownTo.{is_responded_to, hides_authors, hides_reviewers, names_reviewers, serves}
use Rattle.cr_bounds.specs.ShownTo.{is_eligible, oversees, administers, discusses, is_answered, is_in_programme}
use Rattle.cr_bounds.specs.ShownTo.{appears, is_decided_again, learns_outcome, is_announced, is_replaced}
use Rattle.cr_bounds.specs.ShownTo.{is_superseded}
use Rattle.cr_bounds.specs.ShownTo.{is_reviewed, is_discussed, is_party, is_told, where_known, paper_for}
use Rattle.cr_bounds.specs.ShownTo.{reviewer_for}
use Rattle.cr_bounds.specs.ShownTo.{knows_writers, learns_form, is_committees, is_chairs, reads_visiting}
use Rattle.cr_bounds.specs.ShownTo.{reads_to_judge}
use Rattle.cr_bounds.specs.ViewBounds.{outsider, IsLeft, OutsidersShown}
use Rattle.cr_bounds.proofs.BoundsParts.{IsWriters}
use Rattle.cr_bounds.proofs.BoundsWalk.{shown_to, writers-all, all-view}

-- ---- what is hidden

pub known-not : {A : Type 0} (known : Bool) (x : A) → known ≡ false → where_known known x ≡ None
known-not known x h = ap (λ b. where_known b x) h

-- what is known to those alone of whom a test holds
pub known-alone : {A : Type 0} (known test : Bool) (x : A) → (test ≡ false → known ≡ false)
    → where_known known x ≡ cond test (where_known known x) None
known-alone known true x h = refl
known-alone known false x h = known-not known x (h refl)

-- a text isn't shown to one who is no author of the paper and may not know the last one, where it isn't public; nor
-- is who made it to one whom the paper isn't before. `v` is that she reads it as an external, `b` that it is before
-- her
text-hidden : (a n s v p : Bool) → a ≡ false → v ≡ false → (s || p) ≡ false → (a || (n && (s || v || p))) ≡ false
text-hidden a n s v p ha hv hs = grind (arith, ha, hv, hs)

text-unread : (own a n b p : Bool) → a ≡ false → b ≡ false → (own || p) ≡ false
    → ((own || a) || (n && (b || p))) ≡ false
text-unread own a n b p ha hb hp = grind (arith, ha, hb, hp)

maker-hidden : (a h leads b hides p : Bool) → a ≡ false → h ≡ false → b ≡ false → p ≡ false
    → (a || (h && leads) || (b && not hides) || p) ≡ false
maker-hidden a h leads b hides p ha hh hb hp = grind (arith, ha, hh, hb, hp)

-- who is told of a co-author, a revision, an upload or a withdrawal: their maker; of a revision and a withdrawal
-- besides who serves; and everyone where it is public
coauthor-left : (own a h leads b hides p : Bool) → a ≡ false → h ≡ false → b ≡ false
    → ((own || a) || (h && leads) || (b && not hides) || p) ≡ true
    → (own || p) ≡ true
coauthor-left own a h leads b hides p ha hh hb told = grind (arith, ha, hh, hb, told)

upload-left : (own a n b p : Bool) → a ≡ false → b ≡ false → ((own || a) || (n && (b || p))) ≡ true → (own || p) ≡ true
upload-left own a n b p ha hb told = grind (arith, ha, hb, told)

revision-left : (own a n s v p : Bool) → a ≡ false → v ≡ false → ((own || a) || (n && (s || v || p))) ≡ true
    → (own || s || p) ≡ true
revision-left own a n s v p ha hv told = grind (arith, ha, hv, told)

withdrawal-left : (own a s v : Bool) → a ≡ false → v ≡ false → ((own || a) || s || v) ≡ true → (own || s) ≡ true
withdrawal-left own a s v ha hv told = grind (arith, ha, hv, told)

-- of bids none is told but their maker, and of assignments and invitations none but their parties
pub bid-own : (own h leads : Bool) → h ≡ false → (own || (h && leads)) ≡ true → own ≡ true
bid-own own h leads hh told = grind (arith, hh, told)

seat-left : (n own l h d v a names past : Bool) → h ≡ false → a ≡ false
    → ((n || own || l) || (h && d) || (a && names && past)) ≡ true
    → (own || (((n || own || l) || (h && d && v) || (a && names && past)) && n) || l) ≡ true
seat-left n own l h d v a names past hh ha told = grind (arith, hh, ha, told)

party-left : (n own l : Bool) → (n || own || l) ≡ true → (own || n || l) ≡ true
party-left n own l told = grind (arith, told)

-- of forms none is told but their makers and those who administer the paper, and these read nothing of them; of
-- comments and tags none but their makers
form-left : (own h past k l n a w c d r : Bool) → h ≡ false → a ≡ false
    → ((own || ((h && past) && k)) || (l && n) || (((a && w) && c) || ((a && d) && r))) ≡ true → (own || l) ≡ true
form-left own h past k l n a w c d r hh ha told = grind (arith, hh, ha, told)

pub form-unread : (h past k : Bool) → h ≡ false → ((h && past) && k) ≡ false
form-unread h past k hh = grind (arith, hh)

review-unread : (h past k a w c d r : Bool) → h ≡ false → a ≡ false
    → (((h && past) && k) || (((a && w) && c) || ((a && d) && r))) ≡ false
review-unread h past k a w c d r hh ha = grind (arith, hh, ha)

pub response-own : (own a h past : Bool) → a ≡ false → h ≡ false → ((own || a) || (h && past)) ≡ true → own ≡ true
response-own own a h past ha hh told = grind (arith, ha, hh, told)

pub comment-own : (own h past : Bool) → h ≡ false → (own || (h && past)) ≡ true → own ≡ true
comment-own own h past hh told = grind (arith, hh, told)

pub tag-own : (own all chairs h leads : Bool) → h ≡ false → (own || ((all && h) || (chairs && (h && leads)))) ≡ true
    → own ≡ true
tag-own own all chairs h leads hh told = grind (arith, hh, told)

-- of decisions none is told but their makers, and everyone where the paper is accepted; and nobody learns the outcome
-- but authors. `n` is that it is the last, `p` that everyone is told
decision-left : (own h past n a d p : Bool) → h ≡ false → a ≡ false
    → ((own || (h && past)) || (n && (a && d)) || p) ≡ true → (own || p) ≡ true
decision-left own h past n a d p hh ha told = grind (arith, hh, ha, told)

outcome-unlearnt : (n a d : Bool) → a ≡ false → (n && (a && d)) ≡ false
outcome-unlearnt n a d ha = grind (arith, ha)

verdict-unread : (own h past n a d : Bool) → own ≡ false → h ≡ false → a ≡ false
    → ((own || (h && past)) || (n && (a && d))) ≡ false
verdict-unread own h past n a d ho hh ha = grind (arith, ho, hh, ha)

-- the reader is the user who is named, where she may know it
pub user-known : (u : Option ℕ) (known : Bool) (user : ℕ)
    → is_user u (where_known known user) ≡ (known && is_number u user)
user-known u true user = refl
user-known u false user = refl

-- ---- who neither wrote a paper nor is eligible for it

module _ (u : Option ℕ) (H : History) (paper : ℕ) (wrote : is_author u paper H ≡ false)
    (handled : is_eligible u paper H ≡ false) where
  -- who submitted the paper, and its texts, as those may know them who made the entry (`own`), where others follow
  -- (`replaced`)
  abbrev pub maker_known : Bool
  maker_known = is_author u paper H || oversees u paper H
      || (reads_to_judge u paper H && not (hides_authors (mode_of H))) || is_in_programme paper H

  abbrev pub title_known : Bool → Bool
  title_known replaced =
      is_author u paper H || (not replaced && (serves u H || reads_visiting u paper H || is_in_programme paper H))

  abbrev pub text_known : Bool → Bool → Bool
  text_known own replaced =
      (own || is_author u paper H) || (not replaced && (reads_to_judge u paper H || appears paper H))

  -- nor reads it as an external: who submitted the paper is known where the paper is in the programme; a title to
  -- those who serve besides; and a text that isn't her own where the paper appears
  module _ (away : reads_visiting u paper H ≡ false) where
    apart : reads_to_judge u paper H ≡ false
    apart = or_from (is_eligible u paper H) (reads_visiting u paper H) handled away

    pub maker-left : (maker : ℕ) → where_known maker_known maker ≡ cond (is_in_programme paper H)
        (where_known maker_known maker) None
    maker-left maker =
        known-alone maker_known (is_in_programme paper H) maker
        (maker-hidden (is_author u paper H) (is_eligible u paper H) (chairs_committee (role_of u H))
        (reads_to_judge u paper H)
        (hides_authors (mode_of H)) (is_in_programme paper H) wrote handled apart)

    pub title-left : (replaced : Bool) (title : List ℕ)
        → where_known (title_known replaced) title ≡ cond (serves u H || is_in_programme paper H)
        (where_known (title_known replaced) title) None
    title-left replaced title =
        known-alone (title_known replaced) (serves u H || is_in_programme paper H) title
        (text-hidden (is_author u paper H) (not replaced) (serves u H) (reads_visiting u paper H)
        (is_in_programme paper H) wrote away)

    pub text-left : (own replaced : Bool) (text : List ℕ)
        → where_known (text_known own replaced) text ≡ cond (own || appears paper H)
        (where_known (text_known own replaced) text) None
    text-left own replaced text =
        known-alone (text_known own replaced) (own || appears paper H) text
        (text-unread own (is_author u paper H) (not replaced) (reads_to_judge u paper H) (appears paper H) wrote apart)

    -- who is told of a co-author, a revision, an upload or a withdrawal
    abbrev pub coauthor_known : Bool → Bool
    coauthor_known own =
        (own || is_author u paper H) || oversees u paper H
        || (reads_to_judge u paper H && not (hides_authors (mode_of H)))
        || is_in_programme paper H

    pub left-coauthor : (own : Bool) → coauthor_known own ≡ true → (own || is_in_programme paper H) ≡ true
    left-coauthor own =
        coauthor-left own (is_author u paper H) (is_eligible u paper H) (chairs_committee (role_of u H))
        (reads_to_judge u paper H)
        (hides_authors (mode_of H)) (is_in_programme paper H) wrote handled apart

    pub left-revision : (own replaced : Bool)
        →
        ((own || is_author u paper H)
        || (not replaced && (serves u H || reads_visiting u paper H || is_in_programme paper H))) ≡ true
        → (own || serves u H || is_in_programme paper H) ≡ true
    left-revision own replaced =
        revision-left own (is_author u paper H) (not replaced) (serves u H) (reads_visiting u paper H)
        (is_in_programme paper H) wrote away

    pub left-upload : (own superseded : Bool) → text_known own superseded ≡ true → (own || appears paper H) ≡ true
    left-upload own superseded =
        upload-left own (is_author u paper H) (not superseded) (reads_to_judge u paper H) (appears paper H) wrote apart

    pub left-withdrawal : (own : Bool) → ((own || is_author u paper H) || serves u H || reads_visiting u paper H) ≡ true
        → (own || serves u H) ≡ true
    left-withdrawal own = withdrawal-left own (is_author u paper H) (serves u H) (reads_visiting u paper H) wrote away

  -- whoever is told of an assignment is a party to it
  party : (user maker : ℕ) → (is_party u H maker paper user || discusses u paper H || is_answered u paper H) ≡ true
      → (is_number u maker || is_user u (reviewer_for u H maker paper user) || administers u paper H) ≡ true
  party user maker told =
      ap (λ b. is_number u maker || b || administers u paper H) (user-known u _ user)
      ∙ seat-left (is_number u user) (is_number u maker) (administers u paper H) (is_eligible u paper H)
      (is_past_reviewing (phase_of H))
      (not (hides_reviewers (mode_of H))) (is_author u paper H) (names_reviewers (mode_of H))
      (is_past_discussion (phase_of H))
      handled wrote told

  -- a form is left to its maker, who reads it, and to those who administer the paper, who are told that it is there
  module _ (before later : History) (ordinal : ℕ) where
    abbrev form_known : Bool → Bool
    form_known own = own || (discusses u paper H && is_discussed paper ordinal before later)

    abbrev review_known : Bool → Bool
    review_known own = form_known own || learns_form u H before later paper ordinal

    abbrev done_known : Bool → Bool
    done_known led = led && not (is_reviewed paper ordinal before)

    pub left-form : (own : Bool)
        → (form_known own || done_known (administers u paper H) || learns_form u H before later paper ordinal) ≡ true
        → (own || administers u paper H) ≡ true
    left-form own told =
        form-left own (is_eligible u paper H) (is_past_reviewing (phase_of H)) (is_discussed paper ordinal before later)
        (administers u paper H)
        (not (is_reviewed paper ordinal before)) (is_author u paper H) (is_response_or_later (phase_of H))
        (is_responded_to paper ordinal before later)
        (is_past_discussion (phase_of H)) (not (is_reviewed paper ordinal later)) handled wrote told

    form-own : {A : Type 0} (own : Bool) (x : A)
        → where_known (form_known own) x ≡ cond own (where_known (form_known own) x) None
    form-own own x =
        known-alone (form_known own) own x
        (λ other. ap (λ b. b || (discusses u paper H && is_discussed paper ordinal before later)) other
        ∙ form-unread (is_eligible u paper H) (is_past_reviewing (phase_of H)) (is_discussed paper ordinal before later)
        handled)

    review-own : {A : Type 0} (own : Bool) (x : A)
        → where_known (review_known own) x ≡ cond own (where_known (review_known own) x) None
    review-own own x =
        known-alone (review_known own) own x (λ other. ap review_known other
        ∙ review-unread (is_eligible u paper H) (is_past_reviewing (phase_of H))
        (is_discussed paper ordinal before later) (is_author u paper H)
        (is_response_or_later (phase_of H)) (is_responded_to paper ordinal before later)
        (is_past_discussion (phase_of H)) (not (is_reviewed paper ordinal later)) handled wrote)

    done-led : (led : Bool) → where_known (done_known led) true ≡ cond led (where_known (done_known led) true) None
    done-led led = known-alone (done_known led) led true (ap done_known)

  -- a decision is left to its maker, and everyone is told that the paper is accepted
  module _ (later : History) where
    abbrev verdict_known : Bool → Bool
    verdict_known own = (own || discusses u paper H) || learns_outcome u H later paper

    pub decision-told : (own : Bool) → (verdict_known own || is_announced H later paper) ≡ true
        → (own || is_announced H later paper) ≡ true
    decision-told own told =
        decision-left own (is_eligible u paper H) (is_past_reviewing (phase_of H)) (not (is_decided_again paper later))
        (is_author u paper H)
        (is_past_discussion (phase_of H)) (is_announced H later paper) handled wrote told

    pub announced-in : is_announced H later paper ≡ true → is_in_programme paper H ≡ true
    announced-in announced = (and_parts (not (is_decided_again paper later)) (is_in_programme paper H) announced).1

    pub verdict-unknown : (own : Bool) → own ≡ false → verdict_known own ≡ false
    verdict-unknown own other =
        verdict-unread own (is_eligible u paper H) (is_past_reviewing (phase_of H)) (not (is_decided_again paper later))
        (is_author u paper H)
        (is_past_discussion (phase_of H)) other handled wrote

    pub outcome-unknown : learns_outcome u H later paper ≡ false
    outcome-unknown = outcome-unlearnt (not (is_decided_again paper later)) (is_author u paper H)
        (is_past_discussion (phase_of H)) wrote

    accepted-left : where_known (is_announced H later paper) true
        ≡ cond (is_in_programme paper H) (where_known (is_announced H later paper) true) None
    accepted-left =
        known-alone (is_announced H later paper) (is_in_programme paper H) true
        (and_right (not (is_decided_again paper later)) (is_in_programme paper H))

-- what the bounds leave of an entry, on its paper
abbrev LeftAt : Option ℕ → History → Sighting → Option ℕ → Type 0
LeftAt u H s None = Unit {0}
LeftAt u H s (Some paper) =
    is_author u paper H ≡ false → is_eligible u paper H ≡ false → reads_visiting u paper H ≡ false
    → IsLeft u (outsider u paper H) s.kind s

module _ (u : Option ℕ) (H : History) where
  -- the moment is left to who made the entry, and so is the key
  moment-left : (stamp : Stamp) → where_known (is_number u stamp.maker) stamp.at ≡ cond (is_number u stamp.maker)
      (where_known (is_number u stamp.maker) stamp.at) None
  moment-left stamp = known-alone (is_number u stamp.maker) (is_number u stamp.maker) stamp.at (λ other. other)

  key-left : (stamp : Stamp) → where_known (is_number u stamp.maker) stamp.key ≡ cond (is_number u stamp.maker)
      (where_known (is_number u stamp.maker) stamp.key) None
  key-left stamp = known-alone (is_number u stamp.maker) (is_number u stamp.maker) stamp.key (λ other. other)

  left-one : (before later : History) (stamp : Stamp) (e : Entry) → IsWriters u H stamp.maker e
      → is_told u H before later stamp.maker e ≡ true
      → LeftAt u H (shown_to u H before later stamp e) (paper_for u H before later stamp e)
  left-one before later stamp (Submitted paper title abstract) writes told =
      λ wrote handled away. λ i. record (blank kinds.Submitted) {
        mine = other wrote i;
        paper = Some paper;
        by = maker-left u H paper wrote handled away stamp.maker i;
        title = title-left u H paper wrote handled away (is_replaced paper later) title i;
        abstract = text-left u H paper wrote handled away false (is_replaced paper later) abstract i;
        at = known-not _ stamp.at (other wrote) i;
        key = known-not _ stamp.key (other wrote) i;
      }
    where
      other : is_author u paper H ≡ false → is_number u stamp.maker ≡ false
      other wrote = by (is_number u stamp.maker) writes
        where
          by : (own : Bool) → (own ≡ true → is_author u paper H ≡ true) → own ≡ false
          by true h = absurd (false≢true (sym wrote ∙ h refl))
          by false h = refl
  left-one before later stamp (Coauthor paper user) writes told = λ wrote handled away. (
    left-coauthor u H paper wrote handled away (is_number u stamp.maker) told,
    λ i. record (shown_to u H before later stamp (Coauthor paper user))
        { at = moment-left stamp i; key = key-left stamp i },
  )
  left-one before later stamp (Revised paper title abstract) writes told = λ wrote handled away. (
    left-revision u H paper wrote handled away (is_number u stamp.maker) (is_replaced paper later) told,
    λ i. record (shown_to u H before later stamp (Revised paper title abstract)) {
      at = moment-left stamp i;
      key = key-left stamp i;
      abstract = text-left u H paper wrote handled away (is_number u stamp.maker) (is_replaced paper later) abstract i;
    },
  )
  left-one before later stamp (Uploaded paper version content) writes told = λ wrote handled away. (
    left-upload u H paper wrote handled away (is_number u stamp.maker) (is_superseded paper later) told,
    λ i. record (shown_to u H before later stamp (Uploaded paper version content))
        { at = moment-left stamp i; key = key-left stamp i },
  )
  left-one before later stamp (Withdrawn paper) writes told = λ wrote handled away. (
    left-withdrawal u H paper wrote handled away (is_number u stamp.maker) told,
    λ i. record (shown_to u H before later stamp (Withdrawn paper))
        { at = moment-left stamp i; key = key-left stamp i },
  )
  left-one before later stamp (Conflict paper user on) writes told = λ wrote handled away. (
    hers (is_number u user) (is_number u stamp.maker) (is_author u paper H) (is_author (Some stamp.maker) paper H)
        (oversees u paper H) wrote
        (ap (λ b. b && chairs_committee (role_of u H)) handled) told,
    λ i. record (shown_to u H before later stamp (Conflict paper user on))
        { at = moment-left stamp i; key = key-left stamp i },
  )
    where
      hers : (named own a w o : Bool) → a ≡ false → o ≡ false → (named || own || (a && w) || o) ≡ true
          → (own || named) ≡ true
      hers named own a w o ha ho h = grind arith
  left-one before later stamp (Bid paper value) writes told = λ wrote handled away. (
    bid-own (is_number u stamp.maker) (is_eligible u paper H) (chairs_committee (role_of u H)) handled told,
    λ i. record (shown_to u H before later stamp (Bid paper value)) {
      at = moment-left stamp i;
      key = key-left stamp i;
      by = known-not _ stamp.maker (ap (λ b. b && chairs_committee (role_of u H)) handled) i;
    },
  )
  left-one before later stamp (Assigned paper user review_kind ordinal) writes told = λ wrote handled away. (
    party u H paper wrote handled user stamp.maker told,
    λ i. record (shown_to u H before later stamp (Assigned paper user review_kind ordinal))
        { at = moment-left stamp i; key = key-left stamp i },
  )
  left-one before later stamp (Unassigned paper user ordinal) writes told = λ wrote handled away. (
    party u H paper wrote handled user stamp.maker told,
    λ i. record (shown_to u H before later stamp (Unassigned paper user ordinal))
        { at = moment-left stamp i; key = key-left stamp i },
  )
  left-one before later stamp (Invited paper user) writes told = λ wrote handled away. (
    party-left (is_number u user) (is_number u stamp.maker) (administers u paper H) told,
    λ i. record (shown_to u H before later stamp (Invited paper user))
        { at = moment-left stamp i; key = key-left stamp i },
  )
  left-one before later stamp (Uninvited paper user) writes told = λ wrote handled away. (
    party-left (is_number u user) (is_number u stamp.maker) (administers u paper H) told,
    λ i. record (shown_to u H before later stamp (Uninvited paper user))
        { at = moment-left stamp i; key = key-left stamp i },
  )
  left-one before later stamp (Reviewed paper ordinal version form) writes told = λ wrote handled away. (
    left-form u H paper wrote handled before later ordinal (is_number u stamp.maker) told,
    λ i. record (shown_to u H before later stamp (Reviewed paper ordinal version form)) {
      at = moment-left stamp i;
      key = key-left stamp i;
      version = form-own u H paper wrote handled before later ordinal (is_number u stamp.maker) version i;
      score = review-own u H paper wrote handled before later ordinal (is_number u stamp.maker) form.score i;
      confidence = review-own u H paper wrote handled before later ordinal (is_number u stamp.maker) form.confidence i;
      to_authors = review-own u H paper wrote handled before later ordinal (is_number u stamp.maker) form.to_authors i;
      to_pc = form-own u H paper wrote handled before later ordinal (is_number u stamp.maker) form.to_pc i;
      done = done-led u H paper wrote handled before later ordinal (administers u paper H) i;
    },
  )
  left-one before later stamp (Commented paper n ordinal text) writes told = λ wrote handled away. (
    comment-own (is_number u stamp.maker) (is_eligible u paper H) (is_past_reviewing (phase_of H)) handled told,
    λ i. record (shown_to u H before later stamp (Commented paper n ordinal text)) {
      at = moment-left stamp i;
      key = key-left stamp i;
      by =
          known-not _ stamp.maker (form-unread (is_eligible u paper H) (is_past_reviewing (phase_of H))
          (knows_writers u H) handled) i;
    },
  )
  left-one before later stamp (Responded paper text) writes told = λ wrote handled away. (
    response-own (is_number u stamp.maker) (is_author u paper H) (is_eligible u paper H)
        (is_past_reviewing (phase_of H)) wrote handled told,
    λ i. record (shown_to u H before later stamp (Responded paper text))
        { at = moment-left stamp i; key = key-left stamp i },
  )
  left-one before later stamp (Tagged paper tag on) writes told = λ wrote handled away. (
    tag-own (is_number u stamp.maker) (is_committees tag) (is_chairs tag) (is_eligible u paper H)
        (chairs_committee (role_of u H)) handled told,
    λ i. record (shown_to u H before later stamp (Tagged paper tag on))
        { at = moment-left stamp i; key = key-left stamp i },
  )
  left-one before later stamp (Decided paper decision) writes told = λ wrote handled away. (
    own-or-in (is_number u stamp.maker) (is_announced H later paper)
        (decision-told u H paper wrote handled later (is_number u stamp.maker) told)
        (announced-in u H paper wrote handled later),
    λ i. record (shown_to u H before later stamp (Decided paper decision)) {
      at = moment-left stamp i;
      key = key-left stamp i;
      decision = known-alone _ (is_number u stamp.maker) decision
          (verdict-unknown u H paper wrote handled later (is_number u stamp.maker)) i;
      outcome = known-not _ true (outcome-unknown u H paper wrote handled later) i;
      accepted = accepted-left u H paper wrote handled later i;
    },
  )
    where
      own-or-in : (own announced : Bool) → (own || announced) ≡ true
          → (announced ≡ true → is_in_programme paper H ≡ true)
          → (own || is_in_programme paper H) ≡ true
      own-or-in true announced told in_it = refl
      own-or-in false announced told in_it = in_it told
  left-one before later stamp (Registered user name digest) writes told = tt
  left-one before later stamp e writes told = tt

pub outsiders-shown : OutsidersShown
outsiders-shown u p H out =
    all-view u H (λ (s : Sighting). is_number s.paper p ≡ true → IsLeft u (outsider u p H) s.kind s)
    (λ (e : Stamped). IsWriters u H e.stamp.maker e.entry)
    (λ before later stamp more e writes told.
    on-paper (shown_to u H before later stamp e) (paper_for u H before later stamp e)
    (left-one u H before later stamp e writes told))
    (writers-all u H)
  where
    on-paper : (s : Sighting) (paper : Option ℕ) → LeftAt u H s paper → is_number paper p ≡ true
        → IsLeft u (outsider u p H) s.kind s
    on-paper s None left on_it = absurd (false≢true on_it)
    on-paper s (Some paper) left on_it =
        let same : paper ≡ p = eqb-true paper p on_it in
        let away = or_parts (is_author u p H || is_eligible u p H) (reads_visiting u p H) out in
        let parts = or_parts (is_author u p H) (is_eligible u p H) away.0 in
        subst (λ n. IsLeft u (outsider u n H) s.kind s) same
        (left (ap (λ n. is_author u n H) same ∙ parts.0) (ap (λ n. is_eligible u n H) same ∙ parts.1)
        (ap (λ n. reads_visiting u n H) same ∙ away.1))
