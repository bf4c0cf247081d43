-- SPDX-License-Identifier: Apache-2.0 OR MIT
-- Others than a paper's authors are shown one of its titles at most that they didn't give it, and one of its
-- abstracts and of its contents; and others than those who discuss it one of the decisions on it.
use Rattle.std.proofs.Common.{◌≡◌, ◌≤◌, ℕ, Bool, true, false, List, [], ◌∷◌, ◌++◌, eqb, refl, sym, ap, subst, ◌∙◌}
use Rattle.std.proofs.Common.{arith, ◌||◌, ◌&&◌, append-nil, length, Option}
use Rattle.std.specs.Prelude.{not}
use Rattle.std.specs.List.{flat_map, list_any}
use Rattle.std.proofs.lemmas.Bool.{eqb-true, or_parts}
use Rattle.std.proofs.lemmas.List.Concat.{flat_map-append}
use Rattle.cr_base.specs.declared.entry.Entry.{Entry}
use Rattle.cr_base.specs.declared.entry.Entry.TheVariants.{Submitted, Revised, Uploaded, Decided}
use Rattle.cr_base.specs.declared.entry.Stamp.{Stamp}
use Rattle.cr_base.specs.declared.entry.Stamped.{Stamped}
use Rattle.cr_base.specs.declared.words.Decision.{Decision}
use Rattle.cr_base.specs.declared.words.Decision.TheVariants.{Reject}
use Rattle.cr_base.specs.Lists.{given, listed, is_number}
use Rattle.cr_base.specs.History.{History}
use Rattle.cr_base.specs.HistoryFacts.{is_author}
use Rattle.cr_policy.specs.Sighting.{Sighting}
use Rattle.cr_policy.specs.View.{view}
use Rattle.cr_policy.specs.ViewFacts.{only}
use Rattle.cr_policy.proofs.Walk.{only-true, only-false, flat_map-given}
use Rattle.cr_bounds.specs.ShownTo.{serves, reads_visiting, reads_to_judge, discusses, is_notified, is_in_programme}
use Rattle.cr_bounds.specs.ShownTo.{appears, decides, is_decided_again, is_told, where_known, gives_texts}
use Rattle.cr_bounds.specs.ShownTo.{is_replaced}
use Rattle.cr_bounds.specs.ShownTo.{gives_content, is_superseded, each_told}
use Rattle.cr_bounds.specs.ViewBounds.{part_shown, OneTitle, OneAbstract, OneContent, OneDecision}
use Rattle.cr_bounds.proofs.BoundsWalk.{shown_to, view-told}

-- ---- one entry

-- what a sighting shows of a text that it tells of the paper, where another than the reader made it
abbrev told_known : {A : Type 0} → Bool → Bool → Bool → A → List A
told_known same own known x = only (same && not own) (listed (where_known known x))

told_known-few : {A : Type 0} (same own known : Bool) (x : A) → length (told_known same own known x) ≤ 1
told_known-few false own true x = omega arith
told_known-few false own false x = omega arith
told_known-few true true true x = omega arith
told_known-few true true false x = omega arith
told_known-few true false true x = omega arith
told_known-few true false false x = omega arith

-- it counts who may know it only where it is on the paper and another made it
told_known-same : {A : Type 0} (same own known known' : Bool) (x : A) → (same ≡ true → own ≡ false → known ≡ known')
    → told_known same own known x ≡ told_known same own known' x
told_known-same false own known known' x h = only-false _ ∙ sym (only-false _)
told_known-same true true known known' x h = only-false _ ∙ sym (only-false _)
told_known-same true false known known' x h = ap (λ b. told_known true false b x) (h refl refl)

-- ---- one series: titles, abstracts, contents or decisions

-- the paper's entries on this series are those that `gives` tells, and `value` is what each gives
module _ {A : Type 0} (u : Option ℕ) (p : ℕ) (H : History) (gives : Entry → Bool) (value : Entry → A) (may : Bool)
    (seen : Sighting → List A) where
  -- a later entry gives the paper another
  abbrev is_late : History → Bool
  is_late later = list_any (λ (e : Stamped). gives e.entry) later

  -- of what others gave, only the last is shown, to those who may know it
  abbrev ShowsLast : Type 0
  ShowsLast =
      (before later : History) (stamp : Stamp) (e : Entry)
      → seen (shown_to u H before later stamp e) ≡ told_known (gives e) (is_number u stamp.maker)
      (not (is_late later) && may) (value e)

  module _ (shows : ShowsLast) where
    abbrev all_seen : History → History → List A
    all_seen before G = flat_map seen (each_told u H (shown_to u H) before G)

    -- of each entry at most one, nothing of those that give it none, and nothing where a later entry gives it another
    few : (before later : History) (stamp : Stamp) (e : Entry) → length (seen (shown_to u H before later stamp e)) ≤ 1
    few before later stamp e =
        subst (λ (xs : List A). length xs ≤ 1) (sym (shows before later stamp e))
        (told_known-few (gives e) (is_number u stamp.maker) _ (value e))

    other : (before later : History) (stamp : Stamp) (e : Entry) → gives e ≡ false
        → seen (shown_to u H before later stamp e) ≡ []
    other before later stamp e h = shows before later stamp e
        ∙ ap (λ b. told_known b (is_number u stamp.maker) (not (is_late later) && may) (value e)) h ∙ only-false _

    late : (before later : History) (stamp : Stamp) (e : Entry) → is_late later ≡ true
        → seen (shown_to u H before later stamp e) ≡ []
    late before later stamp e h =
        shows before later stamp e ∙ ap (λ b. told_known (gives e) (is_number u stamp.maker) (not b && may) (value e)) h

    first-seen : (before : History) (e : Stamped) (G : History)
        → all_seen before (e ∷ G) ≡ only (is_told u H before G e.stamp.maker e.entry)
        (seen (shown_to u H before G e.stamp e.entry)) ++ all_seen (before ++ e ∷ []) G
    first-seen before e G =
        let told : Bool = is_told u H before G e.stamp.maker e.entry in
        let one : Sighting = shown_to u H before G e.stamp e.entry in
        flat_map-append seen (given told one) (each_told u H (shown_to u H) (before ++ e ∷ []) G)
        ∙ ap (λ xs. xs ++ all_seen (before ++ e ∷ []) G) (flat_map-given seen told one)

    only-nothing : (b : Bool) (xs : List A) → xs ≡ [] → only b xs ≡ []
    only-nothing b xs h = ap (only b) h

    none-seen : (before G : History) → is_late G ≡ false → all_seen before G ≡ []
    none-seen before [] h = refl
    none-seen before (e ∷ G) h =
        let parts = or_parts (gives e.entry) (is_late G) h in
        first-seen before e G
        ∙ ap (λ xs. xs ++ all_seen (before ++ e ∷ []) G)
        (only-nothing (is_told u H before G e.stamp.maker e.entry) (seen (shown_to u H before G e.stamp e.entry))
        (other before G e.stamp e.entry parts.0))
        ∙ none-seen (before ++ e ∷ []) G parts.1

    only-few : (b : Bool) (xs : List A) → length xs ≤ 1 → length (only b xs) ≤ 1
    only-few true xs h = subst (λ (ys : List A). length ys ≤ 1) (sym (only-true xs)) h
    only-few false xs h = subst (λ (ys : List A). length ys ≤ 1) (sym (only-false xs)) (omega arith)

    one-seen : (before G : History) → length (all_seen before G) ≤ 1
    one-seen before [] = omega arith
    one-seen before (e ∷ G) =
        let told : Bool = is_told u H before G e.stamp.maker e.entry in
        let one : List A = seen (shown_to u H before G e.stamp e.entry) in
        subst (λ (xs : List A). length xs ≤ 1) (sym (first-seen before e G))
        (by (only told one) (all_seen (before ++ e ∷ []) G) (is_late G)
        (none-seen (before ++ e ∷ []) G)
        (only-few told one (few before G e.stamp e.entry))
        (λ more. only-nothing told one (late before G e.stamp e.entry more))
        (one-seen (before ++ e ∷ []) G))
      where
        by : (xs ys : List A) (more : Bool) → (more ≡ false → ys ≡ []) → length xs ≤ 1 → (more ≡ true → xs ≡ [])
            → length ys ≤ 1 → length (xs ++ ys) ≤ 1
        by xs ys true none few late rest = subst (λ (zs : List A). length (zs ++ ys) ≤ 1) (sym (late refl)) rest
        by xs ys false none few late rest =
            subst (λ (zs : List A). length (xs ++ zs) ≤ 1) (sym (none refl))
            (subst (λ (zs : List A). length zs ≤ 1) (sym (append-nil xs)) few)

    one-view : length (flat_map seen (view u H)) ≤ 1
    one-view = subst (λ (V : List Sighting). length (flat_map seen V) ≤ 1) (sym (view-told u H)) (one-seen [] H)

-- ---- the four series

-- what an entry gives: a title, an abstract, or the content of a version
abbrev title_given : Entry → List ℕ
title_given (Submitted paper title abstract) = title
title_given (Revised paper title abstract) = title
title_given _ = []

abbrev abstract_given : Entry → List ℕ
abstract_given (Submitted paper title abstract) = abstract
abstract_given (Revised paper title abstract) = abstract
abstract_given _ = []

abbrev content_given : Entry → List ℕ
content_given (Uploaded paper version content) = content
content_given _ = []

-- or a decision
abbrev decision_given : Entry → Decision
decision_given (Decided paper decision) = decision
decision_given _ = Reject

-- who doesn't know all of the paper may know what another gave it only where it is the last; `knows` tells who does,
-- its authors or those who discuss it, `late` whether another comes later to a paper, and `may` who may know the last
module _ (u : Option ℕ) (p : ℕ) (H : History) (knows late may : ℕ → Bool) (stranger : knows p ≡ false) where
  author-known : {A : Type 0} (own : Bool) (paper : ℕ) (x : A)
      → told_known (eqb paper p) own (knows paper || (not (late paper) && may paper)) x ≡ told_known (eqb paper p) own
      (not (late p) && may p) x
  author-known own paper x = told_known-same (eqb paper p) own _ _ x (λ same other.
      let e : paper ≡ p = eqb-true paper p same in
      ap (λ n. knows n || (not (late n) && may n)) e ∙ ap (λ b. b || (not (late p) && may p)) stranger)

  owner-known : {A : Type 0} (own : Bool) (paper : ℕ) (x : A)
      → told_known (eqb paper p) own ((own || knows paper) || (not (late paper) && may paper)) x
      ≡ told_known (eqb paper p) own (not (late p) && may p) x
  owner-known own paper x =
      told_known-same (eqb paper p) own _ _ x (λ same other.
      ap (λ b. (b || knows paper) || (not (late paper) && may paper)) other)
      ∙ author-known own paper x

pub one-title : OneTitle
one-title u p H stranger =
    one-view u p H (gives_texts p) title_given (may p) (part_shown (λ (s : Sighting). s.title) p) shows
  where
    may : ℕ → Bool
    may n = serves u H || reads_visiting u n H || is_in_programme n H

    shows : ShowsLast u p H (gives_texts p) title_given (may p) (part_shown (λ (s : Sighting). s.title) p)
    shows before later stamp (Submitted paper title abstract) =
        author-known u p H (λ n. is_author u n H) (λ n. is_replaced n later) may stranger (is_number u stamp.maker)
        paper title
    shows before later stamp (Revised paper title abstract) =
        owner-known u p H (λ n. is_author u n H) (λ n. is_replaced n later) may stranger (is_number u stamp.maker) paper
        title
    shows before later stamp e = sym (only-false _)

pub one-abstract : OneAbstract
one-abstract u p H stranger =
    one-view u p H (gives_texts p) abstract_given (may p) (part_shown (λ (s : Sighting). s.abstract) p) shows
  where
    may : ℕ → Bool
    may n = reads_to_judge u n H || appears n H

    shows : ShowsLast u p H (gives_texts p) abstract_given (may p) (part_shown (λ (s : Sighting). s.abstract) p)
    shows before later stamp (Submitted paper title abstract) =
        author-known u p H (λ n. is_author u n H) (λ n. is_replaced n later) may stranger (is_number u stamp.maker)
        paper abstract
    shows before later stamp (Revised paper title abstract) =
        owner-known u p H (λ n. is_author u n H) (λ n. is_replaced n later) may stranger (is_number u stamp.maker) paper
        abstract
    shows before later stamp e = sym (only-false _)

pub one-content : OneContent
one-content u p H stranger =
    one-view u p H (gives_content p) content_given (may p) (part_shown (λ (s : Sighting). s.content) p) shows
  where
    may : ℕ → Bool
    may n = reads_to_judge u n H || appears n H

    shows : ShowsLast u p H (gives_content p) content_given (may p) (part_shown (λ (s : Sighting). s.content) p)
    shows before later stamp (Uploaded paper version content) =
        owner-known u p H (λ n. is_author u n H) (λ n. is_superseded n later) may stranger (is_number u stamp.maker)
        paper content
    shows before later stamp e = sym (only-false _)

pub one-decision : OneDecision
one-decision u p H silent =
    one-view u p H (decides p) decision_given (may p) (part_shown (λ (s : Sighting). s.decision) p) shows
  where
    may : ℕ → Bool
    may n = is_notified u n H

    shows : ShowsLast u p H (decides p) decision_given (may p) (part_shown (λ (s : Sighting). s.decision) p)
    shows before later stamp (Decided paper decision) =
        owner-known u p H (λ n. discusses u n H) (λ n. is_decided_again n later) may silent (is_number u stamp.maker)
        paper decision
    shows before later stamp e = sym (only-false _)
