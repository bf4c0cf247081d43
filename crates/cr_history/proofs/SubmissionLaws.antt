-- SPDX-License-Identifier: Apache-2.0 OR MIT
-- A submission's entries, each in its turn: when a co-author is told, the paper's maker is one of its authors, and no
-- conflict with it was told.
use Rattle.std.proofs.Common.{ℕ, Bool, true, false, ◌≡◌, ◌≤◌, ◌<◌, List, [], ◌∷◌, ◌++◌, eqb, refl, sym, ap, subst, ◌∙◌}
use Rattle.std.proofs.Common.{◌||◌, arith, Some, IsTrue, length-append}
use Rattle.std.specs.Prelude.{map}
use Rattle.std.specs.List.{list_any}
use Rattle.std.proofs.lemmas.Bool.{eq-eqb, ne_eqb}
use Rattle.std.proofs.lemmas.List.Concat.{flat_map-append}
use Rattle.std.proofs.lemmas.List.Folds.{list_any-append}
use Rattle.cr_base.specs.declared.entry.Entry.{Entry}
use Rattle.cr_base.specs.declared.entry.Entry.TheVariants.{Submitted, Coauthor, Revised, Withdrawn, Conflict}
use Rattle.cr_base.specs.declared.entry.Stamp.{Stamp}
use Rattle.cr_base.specs.declared.entry.Stamped.{Stamped}
use Rattle.cr_base.specs.Drawn.{stamped, grouped, besides, submission}
use Rattle.cr_base.specs.History.{History, Registration, all_told, registration_told}
use Rattle.cr_base.specs.HistoryFacts.{phase_of, is_author}
use Rattle.cr_base.specs.Lists.{given, is_number}
use Rattle.cr_base.specs.Papers.{PapersState, new_paper, with_texts, as_withdrawn, papers_after, paper_count, PapersFit}
use Rattle.cr_base.specs.Phases.{accepts_submissions}
use Rattle.cr_base.specs.Tables.{Tables, no_tables, tables_after, tables_from, tables_of, Fits, FitInTurn}
use Rattle.cr_base.proofs.PaperLaws.{length-with_paper}
use Rattle.cr_history.specs.Invariants.{IsRegistered, InTurn, is_conflict_with}
use Rattle.cr_history.proofs.ConflictAgreement.{has_conflict}
use Rattle.cr_history.proofs.InTime.{author-append, phase_stays}
use Rattle.cr_history.proofs.TableAgreement.{tables_of-append, FitInTurn-append}

-- ---- a paper that isn't there yet

-- there are never fewer papers than before
count-after : (state : PapersState) (maker : ℕ) (e : Entry)
    → paper_count state ≤ paper_count (papers_after state maker e)
count-after state maker (Submitted paper title abstract) = let n =
    length-append state.papers (new_paper title abstract ∷ []) in omega (arith, n)
count-after state maker (Revised paper title abstract) = let n =
    length-with_paper paper (with_texts title abstract) state.papers in omega (arith, n)
count-after state maker (Withdrawn paper) = let n =
    length-with_paper paper as_withdrawn state.papers in omega (arith, n)
count-after state maker e = omega arith

count-from : (t : Tables) (H : History) → paper_count t.papers ≤ paper_count (tables_from t H).papers
count-from t [] = omega arith
count-from t (s ∷ H) =
    let one = count-after t.papers s.stamp.maker s.entry in
    let rest = count-from (tables_after t s) H in
    omega (arith, one, rest)

no_conflict-entry : (p : ℕ) (state : PapersState) (maker : ℕ) (e : Entry) → PapersFit state maker e
    → paper_count state < p → is_conflict_with p e ≡ false
no_conflict-entry p state maker (Conflict paper user on) fits h = let high =
    fits.1 in ne_eqb paper p (λ e. omega (arith, e, high, h))
no_conflict-entry p state maker e fits h = refl

-- no conflict is with it
no_conflict-from : (p : ℕ) (t : Tables) (H : History) → FitInTurn t H → paper_count (tables_from t H).papers < p
    → has_conflict p H ≡ false
no_conflict-from p t [] fits h = refl
no_conflict-from p t (s ∷ H) fits h =
    let grown = count-from t (s ∷ H) in
    ap (λ b. b || has_conflict p H) (no_conflict-entry p t.papers s.stamp.maker s.entry fits.0.papers
    (omega (arith, grown, h)))
    ∙ no_conflict-from p (tables_after t s) H fits.1 h

-- ---- one entry behind another

pub registered-append : (H g : History) (user : ℕ) → IsRegistered H user → IsRegistered (H ++ g) user
registered-append H g user h =
    let test : Registration → Bool = λ (r : Registration). eqb r.user user in
    ap (list_any test) (flat_map-append (λ (e : Stamped). registration_told e.entry) H g)
    ∙ list_any-append test (all_told registration_told H) (all_told registration_told g)
    ∙ ap (λ b. b || list_any test (all_told registration_told g)) h

-- what fits the tables after an entry fits those of the history with it
fits-behind : (H : History) (s : Stamped) (g : History) → FitInTurn (tables_after (tables_of H) s) g
    → FitInTurn (tables_of (H ++ s ∷ [])) g
fits-behind H s g fits = subst (λ (t : Tables). FitInTurn t g) (sym (tables_of-append H (s ∷ []))) fits

-- ---- what is so behind a submission

pub record IsSubmitting (maker paper : ℕ) (H : History) : Type 0 where
  pub fits : FitInTurn no_tables H
  pub registered : IsRegistered H maker
  pub phase : IsTrue (accepts_submissions (phase_of H))
  pub author : IsTrue (is_author (Some maker) paper H)
  pub first : has_conflict paper H ≡ false

module _ (stamp : Stamp) (paper : ℕ) where
  submitting-first : (H : History) (more : Bool) (title abstract : List ℕ) → FitInTurn no_tables H
      → IsRegistered H stamp.maker → accepts_submissions (phase_of H) ≡ true
      → Fits (tables_of H) (stamped stamp more (Submitted paper title abstract))
      → IsSubmitting stamp.maker paper (H ++ stamped stamp more (Submitted paper title abstract) ∷ [])
  submitting-first H more title abstract fits registered phase fit = record {
    fits = FitInTurn-append no_tables H g fits (fit, tt);
    registered = registered-append H g stamp.maker registered;
    phase = ap (λ now. accepts_submissions now) (phase_stays H g refl) ∙ phase;
    author = author-append (Some stamp.maker) paper H g
        ∙ made (is_author (Some stamp.maker) paper H) (eqb paper paper) (eq-eqb paper paper refl);
    first = list_any-append (λ (e : Stamped). is_conflict_with paper e.entry) H g
        ∙ ap (λ b. b || (false || false)) (no_conflict-from paper no_tables H fits
        (let next = fit.papers.0 in omega (arith, next)));
  }
    where
      g : History
      g = stamped stamp more (Submitted paper title abstract) ∷ []

      made : (before same : Bool) → same ≡ true
          → (before || list_any (is_number (Some stamp.maker)) (given same stamp.maker ++ [])) ≡ true
      made true same h = refl
      made false same h =
          ap (λ b. list_any (is_number (Some stamp.maker)) (given b stamp.maker ++ [])) h
          ∙ ap (λ b. b || false) (eq-eqb stamp.maker stamp.maker refl)

  submitting-more : (H : History) (more : Bool) (user : ℕ) → IsSubmitting stamp.maker paper H
      → Fits (tables_of H) (stamped stamp more (Coauthor paper user))
      → IsSubmitting stamp.maker paper (H ++ stamped stamp more (Coauthor paper user) ∷ [])
  submitting-more H more user before fit = record {
    fits = FitInTurn-append no_tables H g before.fits (fit, tt);
    registered = registered-append H g stamp.maker before.registered;
    phase = ap (λ now. accepts_submissions now) (phase_stays H g refl) ∙ before.phase;
    author =
        author-append (Some stamp.maker) paper H g ∙ ap (λ b. b || is_author (Some stamp.maker) paper g) before.author;
    first = list_any-append (λ (e : Stamped). is_conflict_with paper e.entry) H g
        ∙ ap (λ b. b || (false || false)) before.first;
  }
    where
      g : History
      g = stamped stamp more (Coauthor paper user) ∷ []

  -- ---- the entries in their turn

  abbrev told : List ℕ → List Entry
  told users = map (λ (user : ℕ). Coauthor paper user) users

  -- what is so of a submission, and of each co-author behind it, is so of each entry in its turn
  module _ (P : History → Stamped → Type 0)
      (each : (H : History) (more : Bool) (user : ℕ) → IsSubmitting stamp.maker paper H
      → Fits (tables_of H) (stamped stamp more (Coauthor paper user))
      → P H (stamped stamp more (Coauthor paper user))) where
    coauthors-in_turn : (H : History) (users : List ℕ) → IsSubmitting stamp.maker paper H
        → FitInTurn (tables_of H) (grouped stamp (told users)) → InTurn P H (grouped stamp (told users))
    coauthors-in_turn H [] before fits = tt
    coauthors-in_turn H (u ∷ []) before fits = (each H false u before fits.0, tt)
    coauthors-in_turn H (u ∷ v ∷ us) before fits =
        let s = stamped stamp true (Coauthor paper u) in (
          each H true u before fits.0,
          coauthors-in_turn (H ++ s ∷ []) (v ∷ us) (submitting-more H true u before fits.0)
              (fits-behind H s (grouped stamp (told (v ∷ us))) fits.1),
        )

    pub submission-in_turn : (H : History) (title abstract users : List ℕ) → FitInTurn no_tables H
        → IsRegistered H stamp.maker → accepts_submissions (phase_of H) ≡ true
        → ((more : Bool) → Fits (tables_of H) (stamped stamp more (Submitted paper title abstract))
        → P H (stamped stamp more (Submitted paper title abstract)))
        → FitInTurn (tables_of H) (grouped stamp (submission stamp.maker paper title abstract users))
        → InTurn P H (grouped stamp (submission stamp.maker paper title abstract users))
    submission-in_turn H title abstract users before registered phase one fits =
        by (besides (stamp.maker ∷ []) users) fits
      where
        by : (us : List ℕ) → FitInTurn (tables_of H) (grouped stamp (Submitted paper title abstract ∷ told us))
            → InTurn P H (grouped stamp (Submitted paper title abstract ∷ told us))
        by [] fits = (one false fits.0, tt)
        by (u ∷ us) fits =
            let s = stamped stamp true (Submitted paper title abstract) in (
              one true fits.0,
              coauthors-in_turn (H ++ s ∷ []) (u ∷ us)
                  (submitting-first H true title abstract before registered phase fits.0)
                  (fits-behind H s (grouped stamp (told (u ∷ us))) fits.1),
            )
