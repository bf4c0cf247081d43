-- SPDX-License-Identifier: Apache-2.0 OR MIT
-- Of the bids on a paper, and of who reviews it, little is shown but to chairs in no conflict with it.
use Rattle.std.proofs.Common.{◌≡◌, ℕ, Bool, true, false, eqb, refl, sym, ap, ◌∙◌, arith, ◌||◌, ◌&&◌, Option, None}
use Rattle.std.specs.Prelude.{not, All}
use Rattle.std.proofs.lemmas.Bool.{eqb-true, false≢true, and_parts, and_right}
use Rattle.cr_base.specs.declared.entry.Entry.{Entry}
use Rattle.cr_base.specs.declared.entry.Entry.TheVariants.{Bid, Assigned, Unassigned}
use Rattle.cr_base.specs.declared.entry.EntryKind.TheVariants as kinds
use Rattle.cr_base.specs.declared.entry.Stamp.{Stamp}
use Rattle.cr_base.specs.Lists.{is_number}
use Rattle.cr_base.specs.History.{History}
use Rattle.cr_base.specs.HistoryFacts.{phase_of, mode_of, is_author}
use Rattle.cr_base.proofs.Small.{and_not_or}
use Rattle.cr_policy.specs.Sighting.{Sighting}
use Rattle.cr_policy.specs.View.{view}
use Rattle.cr_policy.specs.ViewFacts.{is_user, is_kind}
use Rattle.cr_bounds.specs.ShownTo.{is_past_reviewing, is_past_discussion, hides_reviewers, names_reviewers}
use Rattle.cr_bounds.specs.ShownTo.{is_eligible, oversees, administers, discusses, is_answered, is_party, is_told}
use Rattle.cr_bounds.specs.ShownTo.{reviewer_for}
use Rattle.cr_bounds.specs.ViewBounds.{is_of_other, BidsAreOwn, ReviewersFromAuthors, ReviewersEarly}
use Rattle.cr_bounds.specs.ViewBounds.{ReviewersUnnamed}
use Rattle.cr_bounds.proofs.BoundsWords.{phase-words, mode-words}
use Rattle.cr_bounds.proofs.BoundsWalk.{shown_to, each-view}
use Rattle.cr_bounds.proofs.BoundsLeft.{known-not, user-known}

-- ---- bids

pub own-bids : BidsAreOwn
own-bids u p H apart =
    each-view u H (λ (s : Sighting). (is_kind kinds.Bid s && is_number s.paper p) ≡ true → s.mine ≡ true) each
  where
    own : (o over : Bool) → over ≡ false → (o || over) ≡ true → o ≡ true
    own o over h told = grind (arith, h, told)

    each : (before later : History) (stamp : Stamp) (e : Entry) → is_told u H before later stamp.maker e ≡ true
        → (is_kind kinds.Bid (shown_to u H before later stamp e) && is_number (shown_to u H before later stamp e).paper
        p) ≡ true → is_number u stamp.maker ≡ true
    each before later stamp (Bid paper value) told on_it =
        own (is_number u stamp.maker) (oversees u paper H) (ap (λ n. oversees u n H) (eqb-true paper p on_it) ∙ apart)
        told
    each before later stamp e told on_it = absurd (false≢true on_it)

-- ---- who reviews

-- an assignment on the paper: `n` is that it names the reader, `o` that it is her own, `l` that she administers the
-- paper, `d` that she discusses it, `v` that reviewers aren't hidden, `r` that she is named the paper's reviewers
none-other : (n o l d v r : Bool) → l ≡ false → d ≡ false → r ≡ false → ((n || o || l) || d || r) ≡ true
    → not (o || (((n || o || l) || (d && v) || r) && n)) ≡ false
none-other n o l d v r hl hd hr told = grind (arith, hl, hd, hr, told)

none-named : (n o l d v r : Bool) → l ≡ false → v ≡ false → r ≡ false
    → not (o || (((n || o || l) || (d && v) || r) && n)) ≡ true → ((n || o || l) || (d && v) || r) ≡ false
none-named n o l d v r hl hv hr other = grind (arith, hl, hv, hr, other)

module _ (u : Option ℕ) (p : ℕ) (H : History) where
  -- the assignment that a reader sees is of another than her
  abbrev is_other : ℕ → ℕ → ℕ → Bool
  is_other maker paper user = not (is_number u maker || is_user u (reviewer_for u H maker paper user))

  -- the reader may know whom an assignment names
  abbrev is_known : ℕ → ℕ → ℕ → Bool
  is_known maker paper user =
      is_party u H maker paper user || (discusses u paper H && not (hides_reviewers (mode_of H)))
      || is_answered u paper H

  other-known : (maker paper user : ℕ) → is_other maker paper user
      ≡ not (is_number u maker || (is_known maker paper user && is_number u user))
  other-known maker paper user = ap (λ b. not (is_number u maker || b)) (user-known u _ user)

  -- who neither administers the paper nor discusses it nor is named its reviewers sees none of another
  unseen : administers u p H ≡ false → discusses u p H ≡ false → is_answered u p H ≡ false
      → All (λ (s : Sighting). is_of_other u p s ≡ false) (view u H)
  unseen apart silent unanswered =
      each-view u H (λ (s : Sighting). is_of_other u p s ≡ false) each
    where
      one : (maker paper user : ℕ) → (is_party u H maker paper user || discusses u paper H || is_answered u paper H)
          ≡ true
          → (same : Bool) → (same ≡ true → paper ≡ p) → (same && is_other maker paper user) ≡ false
      one maker paper user told false on_it = refl
      one maker paper user told true on_it =
          other-known maker paper user
          ∙ none-other (is_number u user) (is_number u maker) (administers u paper H) (discusses u paper H)
          (not (hides_reviewers (mode_of H)))
          (is_answered u paper H) (ap (λ n. administers u n H) (on_it refl) ∙ apart)
          (ap (λ n. discusses u n H) (on_it refl) ∙ silent)
          (ap (λ n. is_answered u n H) (on_it refl) ∙ unanswered) told

      each : (before later : History) (stamp : Stamp) (e : Entry) → is_told u H before later stamp.maker e ≡ true
          → is_of_other u p (shown_to u H before later stamp e) ≡ false
      each before later stamp (Assigned paper user review_kind ordinal) told =
          one stamp.maker paper user told (eqb paper p) (eqb-true paper p)
      each before later stamp (Unassigned paper user ordinal) told =
          one stamp.maker paper user told (eqb paper p) (eqb-true paper p)
      each before later stamp e told = refl

  -- an author is in conflict, so she neither administers nor discusses her paper
  pub author-apart : is_author u p H ≡ true → (administers u p H ≡ false) × (is_eligible u p H ≡ false)
  author-apart wrote = (and_not_or _ _ _ wrote, and_not_or _ _ _ wrote)

  unanswered-by : (names_reviewers (mode_of H) && is_past_discussion (phase_of H)) ≡ false → is_answered u p H ≡ false
  unanswered-by h = by (is_author u p H) (names_reviewers (mode_of H)) (is_past_discussion (phase_of H)) h
    where
      by : (a n d : Bool) → (n && d) ≡ false → (a && n && d) ≡ false
      by a n d h = grind (arith, h)

  -- the sighting of another's assignment doesn't name her, where reviewers are hidden
  unnamed : administers u p H ≡ false → hides_reviewers (mode_of H) ≡ true → is_answered u p H ≡ false
      → All (λ (s : Sighting). is_of_other u p s ≡ true → s.user ≡ None) (view u H)
  unnamed apart hides unanswered =
      each-view u H (λ (s : Sighting). is_of_other u p s ≡ true → s.user ≡ None) each
    where
      one : (maker paper user : ℕ) → (eqb paper p && is_other maker paper user) ≡ true
          → reviewer_for u H maker paper user ≡ None
      one maker paper user other =
          let parts = and_parts (eqb paper p) (is_other maker paper user) other in
          let same : paper ≡ p = eqb-true paper p parts.0 in
          known-not _ user
          (none-named (is_number u user) (is_number u maker) (administers u paper H) (discusses u paper H)
          (not (hides_reviewers (mode_of H))) (is_answered u paper H)
          (ap (λ n. administers u n H) same ∙ apart) (ap not hides) (ap (λ n. is_answered u n H) same ∙ unanswered)
          (sym (other-known maker paper user) ∙ parts.1))

      each : (before later : History) (stamp : Stamp) (e : Entry) → is_told u H before later stamp.maker e ≡ true
          → is_of_other u p (shown_to u H before later stamp e) ≡ true → (shown_to u H before later stamp e).user ≡ None
      each before later stamp (Assigned paper user review_kind ordinal) told other = one stamp.maker paper user other
      each before later stamp (Unassigned paper user ordinal) told other = one stamp.maker paper user other
      each before later stamp e told other = absurd (false≢true other)

pub reviewers-from-authors : ReviewersFromAuthors
reviewers-from-authors u p H wrote unnamed =
    let apart = author-apart u p H wrote in
    unseen u p H apart.0 (ap (λ b. b && is_past_reviewing (phase_of H)) apart.1) (unanswered-by u p H unnamed)

pub reviewers-early : ReviewersEarly
reviewers-early u p H apart early =
    unseen u p H apart (and_right (is_eligible u p H) (is_past_reviewing (phase_of H)) early)
    (unanswered-by u p H (and_right (names_reviewers (mode_of H)) (is_past_discussion (phase_of H)) not-yet))
  where
    not-yet : is_past_discussion (phase_of H) ≡ false
    not-yet = sym (phase-words (phase_of H)).notification_later ∙ ap (λ b. b && is_past_discussion (phase_of H)) early

pub reviewers-unnamed : ReviewersUnnamed
reviewers-unnamed u p H apart hides =
    unnamed u p H apart hides
    (unanswered-by u p H (ap (λ b. b && is_past_discussion (phase_of H)) nameless))
  where
    nameless : names_reviewers (mode_of H) ≡ false
    nameless = sym (ap (λ b. b && names_reviewers (mode_of H)) hides) ∙ (mode-words (mode_of H)).never_both
