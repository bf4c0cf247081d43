-- SPDX-License-Identifier: Apache-2.0 OR MIT
-- Each sighting on a paper has its place in an answer, or is the reader's own on a paper that she isn't eligible for,
-- or doesn't oversee.
use Rattle.std.proofs.Common.{◌≡◌, ℕ, Bool, true, false, List, [], ◌∷◌, ◌++◌, refl, sym, ap, ◌∙◌, ◌||◌, ◌&&◌, Option}
use Rattle.std.proofs.Common.{Some, None, append_assoc, eqb, arith}
use Rattle.std.specs.Prelude.{not, ◌==◌, is_some, IsTrue, if◌then◌else◌}
use Rattle.std.specs.List.{AllByRecursion, list_any}
use Rattle.std.proofs.lemmas.Bool.{or_left, eq-eqb, eqb-true, true≢false}
use Rattle.std.proofs.lemmas.List.Concat.{flat_map-append}
use Rattle.std.proofs.lemmas.List.Elements.{recursion_from_All}
use Rattle.std.proofs.lemmas.List.Folds.{list_any-append}
use Rattle.cr_base.specs.declared.entry.Entry.{Entry}
use Rattle.cr_base.specs.declared.entry.Entry.TheVariants.{Withdrawn, Conflict, Bid, Assigned, Unassigned, Reviewed}
use Rattle.cr_base.specs.declared.entry.Entry.TheVariants.{Commented, Tagged, Decided, Responded}
use Rattle.cr_base.specs.declared.entry.Stamp.{Stamp}
use Rattle.cr_base.specs.declared.entry.Stamped.{Stamped}
use Rattle.cr_base.specs.declared.words.Phase.{Phase}
use Rattle.cr_base.specs.declared.words.Phase.TheVariants.{Setup, Submission, Bidding, Reviewing, Response}
use Rattle.cr_base.specs.declared.words.Phase.TheVariants.{Discussion}
use Rattle.cr_base.specs.declared.words.Phase.TheVariants.{Notification, Closed}
use Rattle.cr_base.specs.Lists.{given, is_number}
use Rattle.cr_base.specs.Drawn.{stamped}
use Rattle.cr_base.specs.History.{History, paper_told, response_told}
use Rattle.cr_base.specs.HistoryFacts.{phase_of, mode_of, role_of, papers_of, is_author, is_reviewer, response_of}
use Rattle.cr_base.specs.Phases.{is_from, is_phase, committee_works}
use Rattle.cr_history.specs.Invariants.{Invariants, IsInOrder, InTurn, IsSubmitted, IsHeld}
use Rattle.cr_policy.specs.Legal.{Legal}
use Rattle.cr_policy.specs.Sighting.{Sighting}
use Rattle.cr_policy.specs.View.{view}
use Rattle.cr_policy.specs.ViewFacts.{is_user}
use Rattle.cr_policy.proofs.DecisionTells.{accepted-seen}
use Rattle.cr_policy.proofs.LegalLaws.{legal_invariants}
use Rattle.cr_bounds.specs.ShownTo.{is_on_committee, chairs_committee, is_past_submission, is_past_reviewing}
use Rattle.cr_bounds.specs.ShownTo.{has_conflict, serves, is_eligible, visits, reads_visiting, reads_to_judge}
use Rattle.cr_bounds.specs.ShownTo.{oversees}
use Rattle.cr_bounds.specs.ShownTo.{discusses, is_party, is_answered, is_notified, is_author_since_response}
use Rattle.cr_bounds.specs.ShownTo.{is_responded_to, is_in_programme, is_told, where_known, is_committees, is_chairs}
use Rattle.cr_bounds.specs.ShownTo.{hides_reviewers, is_discussed, is_reviewed, is_decided_again}
use Rattle.cr_bounds.proofs.BoundsWords.{phase-words}
use Rattle.cr_bounds.proofs.BoundsWalk.{shown_to}
use Rattle.cr_told.specs.ToldPages.{is_shown_accepted}
use Rattle.cr_told.specs.ToldPlaces.{has_key, has_reviews, has_comments, has_response, is_placed, PlacesTold}
use Rattle.cr_told.specs.ToldReviews.{is_reviewing_now, was_asked_to_respond, reviews_now, reviews_visiting}
use Rattle.cr_told.proofs.ToldLists.{leads-serves, page_lists_told, comments_told, response_answer}
use Rattle.cr_told.proofs.ToldEach.{last-there, all-sightings}
use Rattle.cr_told.proofs.ToldMakers.{still-author}
use Rattle.cr_told.proofs.ToldPages.{pages_told, programme}
use Rattle.cr_told.proofs.ToldPhases.{phase-rises}
use Rattle.cr_told.proofs.ToldReviews.{reviews_told, heard-responds}
use Rattle.cr_told.proofs.ToldShown as reads

pub number-is : (v : Option ℕ) (user : ℕ) → is_number v user ≡ true → v ≡ Some user
number-is None user h = absurd (true≢false (sym h))
number-is (Some v) user h = ap (λ (n : ℕ). Some n) (eqb-true v user h)

-- a paper stays there
still-there : (p : ℕ) (before after H : History) → before ++ after ≡ H → IsSubmitted before p → IsSubmitted H p
still-there p before after H whole is =
    ap (λ (G : History). list_any (λ q. q == p) (papers_of G)) (sym whole)
    ∙ ap (list_any (λ q. q == p)) (flat_map-append (λ (e : Stamped). paper_told e.entry) before after)
    ∙ list_any-append (λ q. q == p) (papers_of before) (papers_of after)
    ∙ or_left (list_any (λ q. q == p) (papers_of before)) (list_any (λ q. q == p) (papers_of after)) is

-- ---- what is so of each entry at the end

committee-begun : (phase : Phase) → committee_works phase ≡ true → is_from Bidding phase ≡ true
committee-begun Setup h = absurd (true≢false (sym h))
committee-begun Submission h = absurd (true≢false (sym h))
committee-begun Bidding h = refl
committee-begun Reviewing h = refl
committee-begun Response h = refl
committee-begun Discussion h = refl
committee-begun Notification h = refl
committee-begun Closed h = refl

reviewed-in : (phase : Phase) → (is_phase phase Reviewing || is_phase phase Discussion) ≡ true
    → is_from Reviewing phase ≡ true
reviewed-in Setup h = absurd (true≢false (sym h))
reviewed-in Submission h = absurd (true≢false (sym h))
reviewed-in Bidding h = absurd (true≢false (sym h))
reviewed-in Reviewing h = refl
reviewed-in Response h = refl
reviewed-in Discussion h = refl
reviewed-in Notification h = refl
reviewed-in Closed h = refl

discussed-in : (phase : Phase) → is_phase phase Discussion ≡ true → is_from Discussion phase ≡ true
discussed-in Setup h = absurd (true≢false (sym h))
discussed-in Submission h = absurd (true≢false (sym h))
discussed-in Bidding h = absurd (true≢false (sym h))
discussed-in Reviewing h = absurd (true≢false (sym h))
discussed-in Response h = absurd (true≢false (sym h))
discussed-in Discussion h = refl
discussed-in Notification h = refl
discussed-in Closed h = refl

-- the paper is there; and who made it is an author of it still, or a reviewer; and the phase is no earlier one
abbrev pub IsSettled : History → ℕ → Entry → Type 0
IsSettled H maker (Withdrawn paper) = IsSubmitted H paper × (is_author (Some maker) paper H ≡ true)
IsSettled H maker (Conflict paper user on) = IsSubmitted H paper
IsSettled H maker (Bid paper value) = IsSubmitted H paper
IsSettled H maker (Assigned paper user review_kind ordinal) =
    IsSubmitted H paper × (is_from Bidding (phase_of H) ≡ true)
IsSettled H maker (Unassigned paper user ordinal) = IsSubmitted H paper × (is_from Bidding (phase_of H) ≡ true)
IsSettled H maker (Reviewed paper ordinal version form) =
    IsSubmitted H paper × (is_from Reviewing (phase_of H) ≡ true) × (is_reviewer (Some maker) paper H ≡ true)
IsSettled H maker (Commented paper n ordinal text) = IsSubmitted H paper × (is_from Discussion (phase_of H) ≡ true)
IsSettled H maker (Responded paper text) =
    IsSubmitted H paper × (is_author (Some maker) paper H ≡ true) × (is_some (response_of paper H) ≡ true)
IsSettled H maker (Tagged paper tag on) = IsSubmitted H paper
IsSettled H maker (Decided paper decision) = IsSubmitted H paper × (is_from Discussion (phase_of H) ≡ true)
IsSettled H maker _ = Unit {0}

module _ (H : History) where
  module _ (before after : History) (whole : before ++ after ≡ H) (order : InTurn IsInOrder before after) where
    there : (p : ℕ) → IsSubmitted before p → IsSubmitted H p
    there p is = still-there p before after H whole is

    from : (first : Phase) → is_from first (phase_of before) ≡ true → is_from first (phase_of H) ≡ true
    from first is = phase-rises first before after H whole order is

    writes : (v : Option ℕ) (p : ℕ) → is_author v p before ≡ true → is_author v p H ≡ true
    writes v p is = still-author v p before after H whole is

    settled-one : (stamp : Stamp) (more : Bool) (e : Entry) (rest : History) → after ≡ stamped stamp more e ∷ rest
        → IsInOrder before (stamped stamp more e) → IsHeld H stamp.maker e → IsSettled H stamp.maker e
    settled-one stamp more (Withdrawn paper) rest here is held =
        (there paper is.about, writes (Some stamp.maker) paper is.right)
    settled-one stamp more (Conflict paper user on) rest here is held = there paper is.about.0
    settled-one stamp more (Bid paper value) rest here is held = there paper is.about
    settled-one stamp more (Assigned paper user review_kind ordinal) rest here is held =
        (there paper is.about.0, from Bidding (committee-begun (phase_of before) is.phase))
    settled-one stamp more (Unassigned paper user ordinal) rest here is held =
        (there paper is.about.0, from Bidding (committee-begun (phase_of before) is.phase))
    settled-one stamp more (Reviewed paper ordinal version form) rest here is held =
        (there paper is.about, from Reviewing (reviewed-in (phase_of before) is.phase), ap is_some held)
    settled-one stamp more (Commented paper n ordinal text) rest here is held =
        (there paper is.about, from Discussion (discussed-in (phase_of before) is.phase))
    settled-one stamp more (Responded paper text) rest here is held = (
      there paper is.about,
      writes (Some stamp.maker) paper is.right,
      ap (λ (G : History). is_some (response_of paper G)) (sym whole)
          ∙ ap (λ (G : History). is_some (response_of paper (before ++ G))) here
          ∙ last-there (λ (e : Stamped). response_told paper e.entry) before rest
          (stamped stamp more (Responded paper text)) text
          (ap (λ b. given b text) (eq-eqb paper paper refl)),
    )
    settled-one stamp more (Tagged paper tag on) rest here is held = there paper is.about
    settled-one stamp more (Decided paper decision) rest here is held =
        (there paper is.about, from Discussion (discussed-in (phase_of before) is.phase))
    settled-one stamp more e rest here is held = tt

  abbrev pub Settled : Stamped → Type 0
  Settled e = IsSettled H e.stamp.maker e.entry

  settled-all : (before after : History) → before ++ after ≡ H → InTurn IsInOrder before after
      → AllByRecursion (λ (e : Stamped). IsHeld H e.stamp.maker e.entry) after
      → AllByRecursion Settled after
  settled-all before [] whole order held = tt
  settled-all before (e ∷ after) whole order held = (
    settled-one before (e ∷ after) whole order e.stamp e.more e.entry after refl order.0 held.0,
    settled-all (before ++ e ∷ []) after (append_assoc before (e ∷ []) after ∙ whole) order.1 held.1,
  )

  pub settled : Invariants H → AllByRecursion Settled H
  settled kept = settled-all [] H refl kept.in_order
      (recursion_from_All (λ (e : Stamped). IsHeld H e.stamp.maker e.entry) H kept.stay)

-- ---- the places

pub known-some : {A : Type 0} (b : Bool) (x : A) → is_some (where_known b x) ≡ b
known-some true x = refl
known-some false x = refl

-- what is so of an entry's maker is so of a user, where she made it
pub own-so : (P : Option ℕ → Bool) (u : Option ℕ) (maker : ℕ) → P (Some maker) ≡ true
    → (not (is_number u maker) || P u) ≡ true
own-so P None maker is = refl
own-so P (Some v) maker is = by (eqb v maker) refl
  where
    by : (b : Bool) → eqb v maker ≡ b → (not b || P (Some v)) ≡ true
    by true same = ap (λ (n : ℕ). P (Some n)) (eqb-true v maker same) ∙ is
    by false same = refl

-- a user who may be shown is this one
pub user-known : (u : Option ℕ) (known : Bool) (user : ℕ)
    → is_user u (where_known known user) ≡ (known && is_number u user)
user-known u true user = refl
user-known u false user = refl

-- in the reviewing, or later
pub reviewing-on : (phase : Phase) → is_from Reviewing phase ≡ true
    → (is_past_reviewing phase || is_reviewing_now phase) ≡ true
reviewing-on Setup h = absurd (true≢false (sym h))
reviewing-on Submission h = absurd (true≢false (sym h))
reviewing-on Bidding h = absurd (true≢false (sym h))
reviewing-on Reviewing h = refl
reviewing-on Response h = refl
reviewing-on Discussion h = refl
reviewing-on Notification h = refl
reviewing-on Closed h = refl

pub reviewing-begun : (phase : Phase) → is_from Reviewing phase ≡ true → is_past_submission phase ≡ true
reviewing-begun Setup h = absurd (true≢false (sym h))
reviewing-begun Submission h = absurd (true≢false (sym h))
reviewing-begun Bidding h = absurd (true≢false (sym h))
reviewing-begun Reviewing h = refl
reviewing-begun Response h = refl
reviewing-begun Discussion h = refl
reviewing-begun Notification h = refl
reviewing-begun Closed h = refl

module _ (u : Option ℕ) (H : History) (legal : Legal H) where
  -- of this reader
  abbrev onc : Bool
  onc = is_on_committee (role_of u H)

  abbrev lead : Bool
  lead = chairs_committee (role_of u H)

  module _ (q : ℕ) (is : IsSubmitted H q) where
    pub withdrawn-key : has_key (λ page. page.withdrawn) u q H ≡ (is_author u q H || serves u H || reads_visiting u q H)
    withdrawn-key = ap is_some (pages_told u q H legal is).withdrawn
        ∙ known-some (is_author u q H || serves u H || reads_visiting u q H) _

    pub decision-key : has_key (λ page. page.decision) u q H
        ≡ (discusses u q H || is_notified u q H || is_in_programme q H)
    decision-key =
        ap is_some (pages_told u q H legal is).decision
        ∙ known-some (discusses u q H || is_notified u q H || is_shown_accepted q (view u H)) _
        ∙ ap (λ b. discusses u q H || is_notified u q H || b)
        (sym (reads.accepted u q H) ∙ accepted-seen u q H ∙ programme u q H is (legal_invariants H legal).in_order)

    pub declared-key : has_key (λ page. page.declared) u q H ≡ is_author u q H
    declared-key = ap is_some (pages_told u q H legal is).declared ∙ known-some (is_author u q H) _

    pub conflicts-key : has_key (λ page. page.conflicts) u q H ≡ oversees u q H
    conflicts-key = ap is_some (pages_told u q H legal is).conflicts ∙ known-some (oversees u q H) _

    pub bid-key : has_key (λ page. page.bid) u q H ≡ is_eligible u q H
    bid-key = ap is_some (pages_told u q H legal is).bid ∙ known-some (is_eligible u q H) _

    pub bids-key : has_key (λ page. page.bids) u q H ≡ oversees u q H
    bids-key = ap is_some (page_lists_told u q H legal is).bids ∙ known-some (oversees u q H) _

    pub reviewers-key : has_key (λ page. page.reviewers) u q H
        ≡ (oversees u q H || discusses u q H || is_answered u q H)
    reviewers-key = ap is_some (page_lists_told u q H legal is).reviewers
        ∙ known-some (oversees u q H || discusses u q H || is_answered u q H) _

    pub tags-key : has_key (λ page. page.tags) u q H ≡ is_eligible u q H
    tags-key = ap is_some (page_lists_told u q H legal is).tags ∙ known-some (is_eligible u q H) _

    pub reviews-key : has_reviews u q H ≡ (is_notified u q H || was_asked_to_respond u q H || discusses u q H
        || reviews_now u q H || reviews_visiting u q H)
    reviews-key =
        ap is_some (reviews_told u q H legal is)
        ∙ known-some (is_notified u q H || was_asked_to_respond u q H || discusses u q H || reviews_now u q H
        || reviews_visiting u q H) _

    pub comments-key : has_comments u q H ≡ discusses u q H
    comments-key = ap is_some (comments_told u q H legal is) ∙ known-some (discusses u q H) _

    pub response-key : has_response u q H ≡ ((is_author u q H || discusses u q H) && is_some (response_of q H))
    response-key =
        ap is_some (response_answer u q H legal is) ∙ either (is_author u q H || discusses u q H) (response_of q H)
      where
        either : (b : Bool) (o : Option (List ℕ)) → is_some (if b then o else None) ≡ (b && is_some o)
        either true o = refl
        either false o = refl

  at : (paper p : ℕ) (P : ℕ → Bool) → eqb paper p ≡ true → P paper ≡ true → P p ≡ true
  at paper p P same holds = ap P (sym (eqb-true paper p same)) ∙ holds

  -- who may know who reviews
  abbrev names : ℕ → ℕ → ℕ → Bool
  names maker paper user =
      is_party u H maker paper user || (discusses u paper H && not (hides_reviewers (mode_of H)))
      || is_answered u paper H

  -- one who is assigned, or taken off
  seat-placed : (m n l o s c d h a k : Bool) → k ≡ ((((n || m) || (l && not c)) || (d && not h)) || a)
      → ((((n || m) || (l && not c)) || d) || a) ≡ true → s ≡ true → (o && l) ≡ l
      → (((k && n) || (((((o && s) && not c) && l) || d) || a))
      || ((m || (k && n)) && not ((((o && s) && not c) && l) || d))) ≡ true
  seat-placed m n l o s c d h a k hk told hs hl = grind (arith, hk, told, hs, hl)

  each : (p : ℕ) (before later : History) (stamp : Stamp) (more : Bool) (e : Entry)
      → before ++ stamped stamp more e ∷ later ≡ H → IsSettled H stamp.maker e
      → is_told u H before later stamp.maker e ≡ true
      → IsTrue (is_number (shown_to u H before later stamp e).paper p)
      → IsTrue (is_placed u p H (shown_to u H before later stamp e).kind (shown_to u H before later stamp e))
  each p before later stamp more (Withdrawn paper) whole is told same =
      at paper p (λ n. has_key (λ page. page.withdrawn) u n H) same
      (withdrawn-key paper is.0 ∙ by (is_number u stamp.maker) (is_author u paper H) (serves u H)
      (reads_visiting u paper H) told (own-so (λ v. is_author v paper H) u stamp.maker is.1))
    where
      by : (m a s v : Bool) → (((m || a) || s) || v) ≡ true → (not m || a) ≡ true → ((a || s) || v) ≡ true
      by m a s v h own = grind (arith, h, own)
  each p before later stamp more (Conflict paper user on) whole is told same =
      at paper p
      (λ n. is_number u user || has_key (λ page. page.declared) u n H || has_key (λ page. page.conflicts) u n H
      || (is_number u stamp.maker && not (is_number u user) && not (oversees u n H))) same
      ((λ i. is_number u user || declared-key paper is i || conflicts-key paper is i
      || (is_number u stamp.maker && not (is_number u user) && not (oversees u paper H)))
      ∙ by (is_number u stamp.maker) (is_number u user) (is_author u paper H) (is_author (Some stamp.maker) paper H)
      (oversees u paper H) told)
    where
      by : (m n a w o : Bool) → (((n || m) || (a && w)) || o) ≡ true
          → (((n || a) || o) || ((m && not n) && not o)) ≡ true
      by m n a w o told = grind (arith, told)
  each p before later stamp more (Bid paper value) whole is told same =
      at paper p
      (λ n. has_key (λ page. page.bids) u n H || (is_number u stamp.maker && has_key (λ page. page.bid) u n H)
      || (is_number u stamp.maker && not (is_eligible u n H))) same
      ((λ i. bids-key paper is i || (is_number u stamp.maker && bid-key paper is i)
      || (is_number u stamp.maker && not (is_eligible u paper H)))
      ∙ by (is_number u stamp.maker) (is_eligible u paper H) (oversees u paper H) told)
    where
      by : (m h o : Bool) → (m || o) ≡ true → ((o || (m && h)) || (m && not h)) ≡ true
      by m h o told = grind (arith, told)
  each p before later stamp more (Assigned paper user review_kind ordinal) whole is told same =
      at paper p
      (λ n. is_user u s.user || has_key (λ page. page.reviewers) u n H
      || ((is_number u stamp.maker || is_user u s.user) && not (oversees u n H || discusses u n H))) same
      ((λ i. user-known u (names stamp.maker paper user) user i || reviewers-key paper is.0 i
      || ((is_number u stamp.maker || user-known u (names stamp.maker paper user) user i)
      && not (oversees u paper H || discusses u paper H)))
      ∙ seat-placed (is_number u stamp.maker) (is_number u user) lead onc (is_past_submission (phase_of H))
      (has_conflict u paper H) (discusses u paper H)
      (hides_reviewers (mode_of H)) (is_answered u paper H) (names stamp.maker paper user) refl told
      (sym (phase-words (phase_of H)).bidding ∙ is.1)
      (leads-serves (role_of u H)))
    where
      s : Sighting
      s = shown_to u H before later stamp (Assigned paper user review_kind ordinal)
  each p before later stamp more (Unassigned paper user ordinal) whole is told same =
      at paper p
      (λ n. is_user u s.user || has_key (λ page. page.reviewers) u n H
      || ((is_number u stamp.maker || is_user u s.user) && not (oversees u n H || discusses u n H))) same
      ((λ i. user-known u (names stamp.maker paper user) user i || reviewers-key paper is.0 i
      || ((is_number u stamp.maker || user-known u (names stamp.maker paper user) user i)
      && not (oversees u paper H || discusses u paper H)))
      ∙ seat-placed (is_number u stamp.maker) (is_number u user) lead onc (is_past_submission (phase_of H))
      (has_conflict u paper H) (discusses u paper H)
      (hides_reviewers (mode_of H)) (is_answered u paper H) (names stamp.maker paper user) refl told
      (sym (phase-words (phase_of H)).bidding ∙ is.1)
      (leads-serves (role_of u H)))
    where
      s : Sighting
      s = shown_to u H before later stamp (Unassigned paper user ordinal)
  each p before later stamp more (Reviewed paper ordinal version form) whole is told same =
      at paper p
      (λ n. has_reviews u n H || has_key (λ page. page.reviewers) u n H
      || (is_number u stamp.maker && not (reads_to_judge u n H))) same
      ((λ i. reviews-key paper is.0 i || reviewers-key paper is.0 i
      || (is_number u stamp.maker && not (reads_to_judge u paper H)))
      ∙ by (is_number u stamp.maker) onc (visits u paper H) (is_past_submission (phase_of H)) (has_conflict u paper H)
      lead (is_past_reviewing (phase_of H)) (is_reviewing_now (phase_of H))
      (is_reviewer u paper H) (is_discussed paper ordinal before later) (not (is_reviewed paper ordinal before))
      (is_notified u paper H)
      (not (is_reviewed paper ordinal later)) (is_answered u paper H) (is_author_since_response u paper H)
      (is_responded_to paper ordinal before later) (was_asked_to_respond u paper H)
      (heard-responds u H paper ordinal before later stamp more (Reviewed paper ordinal version form) whole)
      told (reviewing-begun (phase_of H) is.1) (reviewing-on (phase_of H) is.1)
      (own-so (λ v. is_reviewer v paper H) u stamp.maker is.2) (leads-serves (role_of u H)))
    where
      by : (m o v s c l d w r x y n z a h q f : Bool) → (not (h && q) || f) ≡ true
          → (((m || ((((o && s) && not c) && d) && x)) || ((l && not c) && y)) || ((h && q) || (n && z))) ≡ true
          → s ≡ true → (d || w) ≡ true → (not m || r) ≡ true → (o && l) ≡ l
          →
          ((((((n || f) || (((o && s) && not c) && d)) || ((((o && s) && not c) && r) && w))
          || ((((v && not c) && s) && r) && (w || d)))
          || (((((o && s) && not c) && l) || (((o && s) && not c) && d)) || a))
          || (m && not (((o && s) && not c) || ((v && not c) && s)))) ≡ true
      by m o v s c l d w r x y n z a h q f heard told hs hd own hl = grind (arith, heard, told, hs, hd, own, hl)
  each p before later stamp more (Commented paper n ordinal text) whole is told same =
      at paper p (λ n. has_comments u n H || (is_number u stamp.maker && not (is_eligible u n H))) same
      ((λ i. comments-key paper is.0 i || (is_number u stamp.maker && not (is_eligible u paper H)))
      ∙ by (is_number u stamp.maker) (is_eligible u paper H) (is_past_reviewing (phase_of H)) told
      (sym (phase-words (phase_of H)).discussion ∙ is.1))
    where
      by : (m h d : Bool) → (m || (h && d)) ≡ true → d ≡ true → ((h && d) || (m && not h)) ≡ true
      by m h d told hd = grind (arith, told, hd)
  each p before later stamp more (Responded paper text) whole is told same =
      at paper p (λ n. has_response u n H) same
      (response-key paper is.0
      ∙ by (is_number u stamp.maker) (is_author u paper H) (discusses u paper H) (is_some (response_of paper H)) told
      (own-so (λ v. is_author v paper H) u stamp.maker is.1) is.2)
    where
      by : (m a d r : Bool) → ((m || a) || d) ≡ true → (not m || a) ≡ true → r ≡ true → ((a || d) && r) ≡ true
      by m a d r told own hr = grind (arith, told, own, hr)
  each p before later stamp more (Tagged paper tag on) whole is told same =
      at paper p (λ n. has_key (λ page. page.tags) u n H || (is_number u stamp.maker && not (is_eligible u n H))) same
      ((λ i. tags-key paper is i || (is_number u stamp.maker && not (is_eligible u paper H)))
      ∙ by (is_number u stamp.maker) (is_committees tag) (is_chairs tag) (is_eligible u paper H) lead told)
    where
      by : (m t k h l : Bool) → (m || ((t && h) || (k && (h && l)))) ≡ true → (h || (m && not h)) ≡ true
      by m t k h l told = grind (arith, told)
  each p before later stamp more (Decided paper decision) whole is told same =
      at paper p (λ n. has_key (λ page. page.decision) u n H || (is_number u stamp.maker && not (is_eligible u n H)))
      same
      ((λ i. decision-key paper is.0 i || (is_number u stamp.maker && not (is_eligible u paper H)))
      ∙ by (is_number u stamp.maker) (is_eligible u paper H) (is_past_reviewing (phase_of H))
      (not (is_decided_again paper later)) (is_notified u paper H) (is_in_programme paper H)
      told (sym (phase-words (phase_of H)).discussion ∙ is.1))
    where
      by : (m h d x n g : Bool) → (((m || (h && d)) || (x && n)) || (x && g)) ≡ true → d ≡ true
          → ((((h && d) || n) || g) || (m && not h)) ≡ true
      by m h d x n g told hd = grind (arith, told, hd)
  each p before later stamp more e whole is told same = refl

pub places_told : PlacesTold
places_told u p H legal =
    all-sightings u H (λ (s : Sighting). IsTrue (is_number s.paper p) → IsTrue (is_placed u p H s.kind s))
    (λ (e : Stamped). IsSettled H e.stamp.maker e.entry)
    (each u H legal p) (settled H (legal_invariants H legal))
