-- SPDX-License-Identifier: Apache-2.0 OR MIT
-- What stays as a history grows: phases only go on, and from the bidding on a paper gets no more authors, so none of
-- them reviews it.
use Rattle.std.proofs.Common.{◌≡◌, ℕ, Bool, true, false, [], ◌∷◌, ◌++◌, refl, sym, ap, ◌∙◌, ◌||◌, ◌&&◌, Option, Some}
use Rattle.std.proofs.Common.{append_assoc, append-nil, eqb, arith}
use Rattle.std.specs.Prelude.{not, nat_le, ◌+◌}
use Rattle.std.specs.List.{AllByRecursion, list_any}
use Rattle.std.proofs.lemmas.Bool.{and_parts, or_parts, not-true, true≢false}
use Rattle.std.proofs.lemmas.Bool.Decides.{nat_tests}
use Rattle.std.proofs.lemmas.List.Concat.{flat_map-append}
use Rattle.cr_base.specs.declared.entry.Entry.{Entry}
use Rattle.cr_base.specs.declared.entry.Entry.TheVariants.{PhaseSet, Submitted, Coauthor, Reviewed}
use Rattle.cr_base.specs.declared.entry.Stamp.{Stamp}
use Rattle.cr_base.specs.declared.entry.Stamped.{Stamped}
use Rattle.cr_base.specs.declared.words.Phase.{Phase}
use Rattle.cr_base.specs.declared.words.Phase.TheVariants.{Setup, Submission, Bidding, Reviewing, Response, Discussion}
use Rattle.cr_base.specs.declared.words.Phase.TheVariants.{Notification, Closed}
use Rattle.cr_base.specs.Lists.{is_number, last_or}
use Rattle.cr_base.specs.Drawn.{stamped}
use Rattle.cr_base.specs.History.{History, all_told, phase_told, author_told}
use Rattle.cr_base.specs.HistoryFacts.{phase_of, authors_of, is_author, is_conflict_on, is_conflicted}
use Rattle.cr_base.specs.Phases.{phase_rank, is_from, accepts_submissions, reviews_are_written}
use Rattle.cr_history.proofs.Folds.{last_or-append}
use Rattle.cr_history.specs.Invariants.{IsInOrder, InTurn, IsInPhase, is_of_paper}

-- ---- phases

phase-after : (H : History) (stamp : Stamp) (more : Bool) (e : Entry)
    → phase_of (H ++ stamped stamp more e ∷ []) ≡ last_or (phase_of H) (phase_told e ++ [])
phase-after H stamp more e =
    ap (last_or Setup) (flat_map-append (λ (e : Stamped). phase_told e.entry) H (stamped stamp more e ∷ []))
    ∙ last_or-append Setup (all_told phase_told H) (phase_told e ++ [])

goes-on : (k m n : ℕ) → (eqb n (m + 1) || (eqb m 3 && eqb n 5)) ≡ true → nat_le k m ≡ true → nat_le k n ≡ true
goes-on k m n e h = grind (arith, nat_tests, e, h)

phase-later : (first : Phase) (H : History) (stamp : Stamp) (more : Bool) (e : Entry) → IsInPhase H e
    → is_from first (phase_of H) ≡ true
    → is_from first (phase_of (H ++ stamped stamp more e ∷ [])) ≡ true
phase-later first H stamp more (PhaseSet to) next from =
    ap (is_from first) (phase-after H stamp more (PhaseSet to))
    ∙ goes-on (phase_rank first) (phase_rank (phase_of H)) (phase_rank to) next from
phase-later first H stamp more e next from = ap (is_from first) (phase-after H stamp more e) ∙ from

pub phase-rises : (first : Phase) (before after H : History) → before ++ after ≡ H → InTurn IsInOrder before after
    → is_from first (phase_of before) ≡ true
    → is_from first (phase_of H) ≡ true
phase-rises first before [] H whole order from =
    ap (λ (G : History). is_from first (phase_of G)) (sym (sym (append-nil before) ∙ whole)) ∙ from
phase-rises first before (e ∷ after) H whole order from =
    phase-rises first (before ++ e ∷ []) after H (append_assoc before (e ∷ []) after ∙ whole) order.1
    (phase-later first before e.stamp e.more e.entry order.0.phase from)

-- ---- authors

-- papers are submitted before the bidding
submitted-early : (phase : Phase) → is_from Bidding phase ≡ true → accepts_submissions phase ≡ true → ⊥
submitted-early Setup from h = absurd (true≢false (sym h))
submitted-early Submission from h = absurd (true≢false (sym from))
submitted-early Bidding from h = absurd (true≢false (sym h))
submitted-early Reviewing from h = absurd (true≢false (sym h))
submitted-early Response from h = absurd (true≢false (sym h))
submitted-early Discussion from h = absurd (true≢false (sym h))
submitted-early Notification from h = absurd (true≢false (sym h))
submitted-early Closed from h = absurd (true≢false (sym h))

no-author : (before : History) (p maker : ℕ) (e : Entry) → is_from Bidding (phase_of before) ≡ true → IsInPhase before e
    → author_told p maker e ≡ []
no-author before p maker (Submitted paper title abstract) from h = absurd (submitted-early (phase_of before) from h)
no-author before p maker (Coauthor paper user) from h = absurd (submitted-early (phase_of before) from h)
no-author before p maker e from h = refl

authors-stay : (v : Option ℕ) (p : ℕ) (before after H : History) → before ++ after ≡ H → InTurn IsInOrder before after
    → is_from Bidding (phase_of before) ≡ true
    → is_author v p H ≡ is_author v p before
authors-stay v p before [] H whole order from = ap (is_author v p) (sym whole ∙ append-nil before)
authors-stay v p before (e ∷ after) H whole order from =
    authors-stay v p (before ++ e ∷ []) after H (append_assoc before (e ∷ []) after ∙ whole) order.1
    (phase-later Bidding before e.stamp e.more e.entry order.0.phase from)
    ∙ ap (list_any (is_number v))
    (flat_map-append (λ (e : Stamped). author_told p e.stamp.maker e.entry) before (e ∷ [])
    ∙ (λ i. authors_of p before ++ (no-author before p e.stamp.maker e.entry from order.0.phase i ++ []))
    ∙ append-nil (authors_of p before))

-- ---- who reviews

reviewed-late : (phase : Phase) → reviews_are_written phase ≡ true → is_from Bidding phase ≡ true
reviewed-late Setup h = absurd (true≢false (sym h))
reviewed-late Submission h = absurd (true≢false (sym h))
reviewed-late Bidding h = absurd (true≢false (sym h))
reviewed-late Reviewing h = refl
reviewed-late Response h = refl
reviewed-late Discussion h = refl
reviewed-late Notification h = refl
reviewed-late Closed h = refl

-- who made a form is no author of its paper
abbrev pub IsByOther : History → ℕ → Entry → Type 0
IsByOther H maker (Reviewed paper ordinal version form) = is_author (Some maker) paper H ≡ false
IsByOther H maker e = Unit {0}

module _ (H : History) where
  other-one : (before : History) (stamp : Stamp) (more : Bool) (e : Entry) (after : History)
      → before ++ stamped stamp more e ∷ after ≡ H
      → InTurn IsInOrder before (stamped stamp more e ∷ after) → IsByOther H stamp.maker e
  other-one before stamp more (Reviewed paper ordinal version form) after whole order =
      let clear =
      (and_parts (is_of_paper before stamp.maker paper) (not (is_conflicted (Some stamp.maker) paper before))
      order.0.right).1 in
      authors-stay (Some stamp.maker) paper before (stamped stamp more (Reviewed paper ordinal version form) ∷ after) H
      whole order
      (reviewed-late (phase_of before) order.0.phase)
      ∙ (or_parts (is_author (Some stamp.maker) paper before) (is_conflict_on (Some stamp.maker) paper before)
      (not-true (is_conflicted (Some stamp.maker) paper before) clear)).0
  other-one before stamp more e after whole order = tt

  other-all : (before after : History) → before ++ after ≡ H → InTurn IsInOrder before after
      → AllByRecursion (λ (e : Stamped). IsByOther H e.stamp.maker e.entry) after
  other-all before [] whole order = tt
  other-all before (e ∷ after) whole order = (
    other-one before e.stamp e.more e.entry after whole order,
    other-all (before ++ e ∷ []) after (append_assoc before (e ∷ []) after ∙ whole) order.1,
  )

  pub by-others : InTurn IsInOrder [] H → AllByRecursion (λ (e : Stamped). IsByOther H e.stamp.maker e.entry) H
  by-others order = other-all [] H refl order
