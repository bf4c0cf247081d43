-- SPDX-License-Identifier: Apache-2.0 OR MIT
-- Which forms the committee discusses, and which are a user's own, is what the tables have, in histories that keep
-- the invariants.
use Rattle.std.proofs.Common.{ℕ, Bool, true, false, cond, ◌≡◌, ◌+◌, List, [], ◌∷◌, ◌++◌, append_assoc, append-nil, eqb}
use Rattle.std.proofs.Common.{refl, sym, ap, subst, ◌∙◌, ◌&&◌, arith, Option, Some, None}
use Rattle.std.specs.Prelude.{not, nat_le, map, filter, ◌||◌}
use Rattle.std.specs.List.{flat_map, list_any}
use Rattle.std.proofs.lemmas.Bool.{eqb-true, eq-eqb, false≢true}
use Rattle.std.proofs.lemmas.Bool.Decides.{nat_tests}
use Rattle.std.proofs.lemmas.List.{map-append}
use Rattle.std.proofs.lemmas.List.Elements.{recursion_from_All}
use Rattle.cr_base.specs.declared.entry.Entry.{Entry}
use Rattle.cr_base.specs.declared.entry.Entry.TheVariants.{PhaseSet, Reviewed}
use Rattle.cr_base.specs.declared.entry.Stamped.{Stamped}
use Rattle.cr_base.specs.declared.review.WrittenForm.{WrittenForm}
use Rattle.cr_base.specs.declared.words.Phase.{Phase}
use Rattle.cr_base.specs.declared.words.Phase.TheVariants.{Response}
use Rattle.cr_base.specs.History.{History, FormTold, form_told, own_form_told, whole_form, opens, opens_discussion}
use Rattle.cr_base.specs.History.{opens_response}
use Rattle.cr_base.specs.HistoryFacts.{ordinal_of, forms_of, forms_discussed_of, own_forms_of, early_form_of}
use Rattle.cr_base.specs.HistoryFacts.{had_response_of}
use Rattle.cr_base.specs.Lists.{given, is_number, last, listed, until, since}
use Rattle.cr_base.specs.Phases.{committee_reads_from, phase_rank, is_from, is_next}
use Rattle.cr_base.specs.Reviews.{ReviewsState, reviews_after, forms_in, forms_discussed_in, early_form_in}
use Rattle.cr_base.specs.Reviews.{written_told}
use Rattle.cr_base.specs.Seats.{ordinal_in}
use Rattle.cr_base.specs.Sources.{own_forms_in}
use Rattle.cr_base.specs.Tables.{Tables, no_tables, tables_after, tables_from, tables_of, FitInTurn}
use Rattle.cr_base.proofs.LastLaws.{last_from-map, listed-map}
use Rattle.cr_base.proofs.ListLaws.{number-is}
use Rattle.cr_base.proofs.SeatLaws.{ordinal_in-single}
use Rattle.cr_history.specs.Invariants.{IsInPhase, IsInOrder, InTurn, IsHeld, ReviewersStay}
use Rattle.cr_history.specs.Laws.{FormsTell}
use Rattle.cr_history.proofs.Folds.{each-silent}
use Rattle.cr_history.proofs.Grouped.{all-alike}
use Rattle.cr_history.proofs.ListCuts.{AllByRecursion-map}
use Rattle.cr_history.proofs.ReviewAgreement.{forms_when, forms_when-after, forms_of-tables, phase_of-reviews}
use Rattle.cr_history.proofs.SeatAgreement.{in_order-tables, ordinal_of-tables}
use Rattle.cr_history.proofs.StageAgreement.{had_response-tables}
use Rattle.cr_history.proofs.TableAgreement.{tables_of-append}

-- ---- phases go on

abbrev IsOn : Phase → Entry → Type 0
IsOn now (PhaseSet phase) = is_next now phase ≡ true
IsOn now e = Unit {0}

-- each phase that is set is the next one
abbrev GoesOn : ReviewsState → History → Type 0
GoesOn reviews [] = Unit {0}
GoesOn reviews (s ∷ H) = IsOn reviews.phase s.entry × GoesOn (reviews_after reviews s.entry) H

-- so it is in a history in order
goes_on : (before after : History) → InTurn IsInOrder before after → GoesOn (tables_of before).reviews after
goes_on before [] kept = tt
goes_on before (s ∷ after) kept = (
  on s.entry kept.0.phase,
  subst (λ (t : Tables). GoesOn t.reviews after) (tables_of-append before (s ∷ []))
      (goes_on (before ++ s ∷ []) after kept.1),
)
  where
    on : (e : Entry) → IsInPhase before e → IsOn (tables_of before).reviews.phase e
    on (PhaseSet phase) h = subst (λ (now : Phase). is_next now phase ≡ true) (phase_of-reviews before) h
    on e h = tt

-- a phase, or one behind it, is left for no earlier one, nor opened again; and it begins where it is opened
module _ (first : Phase) where
  stays_late : (reviews : ReviewsState) (e : Entry) → IsOn reviews.phase e → is_from first reviews.phase ≡ true
      → is_from first (reviews_after reviews e).phase ≡ true
  stays_late reviews (PhaseSet phase) on late =
      by (phase_rank first) (phase_rank reviews.phase) (phase_rank phase) on late
    where
      by : (k m n : ℕ) → (eqb n (m + 1) || (eqb m 3 && eqb n 5)) ≡ true → nat_le k m ≡ true → nat_le k n ≡ true
      by k m n on late = grind (arith, nat_tests, on, late)
  stays_late reviews e on late = late

  never_again : (reviews : ReviewsState) (e : Entry) → IsOn reviews.phase e → is_from first reviews.phase ≡ true
      → opens first e ≡ false
  never_again reviews (PhaseSet phase) on late =
      by (phase_rank first) (phase_rank reviews.phase) (phase_rank phase) on late
    where
      by : (k m n : ℕ) → (eqb n (m + 1) || (eqb m 3 && eqb n 5)) ≡ true → nat_le k m ≡ true → eqb n k ≡ false
      by k m n on late = grind (arith, nat_tests, on, late)
  never_again reviews e on late = refl

  opened_late : (reviews : ReviewsState) (e : Entry) → opens first e ≡ true
      → is_from first (reviews_after reviews e).phase ≡ true
  opened_late reviews (PhaseSet phase) opened = by (phase_rank first) (phase_rank phase) opened
    where
      by : (k n : ℕ) → eqb n k ≡ true → nat_le k n ≡ true
      by k n opened = grind (arith, nat_tests, opened)
  opened_late reviews e opened = absurd (false≢true opened)

  -- so nothing opens it from then on
  abbrev opens_first : Stamped → Bool
  opens_first s = opens first s.entry

  none_opens : (reviews : ReviewsState) (H : History) → GoesOn reviews H → is_from first reviews.phase ≡ true
      → list_any opens_first H ≡ false
  none_opens reviews [] on late = refl
  none_opens reviews (s ∷ H) on late =
      ap (λ (b : Bool). b || list_any opens_first H) (never_again reviews s.entry on.0 late)
      ∙ none_opens (reviews_after reviews s.entry) H on.1 (stays_late reviews s.entry on.0 late)

-- the discussion doesn't begin where nothing opens it
stays_early : (reviews : ReviewsState) (e : Entry) → IsOn reviews.phase e → opens committee_reads_from e ≡ false
    → is_from committee_reads_from reviews.phase ≡ false
    → is_from committee_reads_from (reviews_after reviews e).phase ≡ false
stays_early reviews (PhaseSet phase) on closed early = by (phase_rank reviews.phase) (phase_rank phase) on closed early
  where
    by : (m n : ℕ) → (eqb n (m + 1) || (eqb m 3 && eqb n 5)) ≡ true → eqb n 5 ≡ false → nat_le 5 m ≡ false
        → nat_le 5 n ≡ false
    by m n on closed early = grind (arith, nat_tests, on, closed, early)
stays_early reviews e on closed early = early

-- the phase begins where it is opened alone
abbrev AreOpened : Phase → ReviewsState → History → Type 0
AreOpened first reviews [] = Unit {0}
AreOpened first reviews (s ∷ H) =
    opens first s.entry ≡ false
    → (is_from first (reviews_after reviews s.entry).phase ≡ false) × AreOpened first (reviews_after reviews s.entry) H

-- the discussion does always, and each phase that is opened
discussion_opened : (reviews : ReviewsState) (H : History) → GoesOn reviews H
    → is_from committee_reads_from reviews.phase ≡ false
    → AreOpened committee_reads_from reviews H
discussion_opened reviews [] on early = tt
discussion_opened reviews (s ∷ H) on early = λ closed.
    let still = stays_early reviews s.entry on.0 closed early in
    (still, discussion_opened (reviews_after reviews s.entry) H on.1 still)

are_opened : (first : Phase) (reviews : ReviewsState) (H : History) → GoesOn reviews H
    → list_any (opens_first first) H ≡ true → AreOpened first reviews H
are_opened first reviews [] on opened = tt
are_opened first reviews (s ∷ H) on opened = λ closed.
    let later : list_any (opens_first first) H ≡ true =
    ap (λ (b : Bool). b || list_any (opens_first first) H) (sym closed) ∙ opened in
    by (is_from first (reviews_after reviews s.entry).phase) refl later
    (are_opened first (reviews_after reviews s.entry) H on.1 later)
  where
    by : (late : Bool) → is_from first (reviews_after reviews s.entry).phase ≡ late
        → list_any (opens_first first) H ≡ true
        → AreOpened first (reviews_after reviews s.entry) H
        → (is_from first (reviews_after reviews s.entry).phase ≡ false)
        × AreOpened first (reviews_after reviews s.entry) H
    by true late later opens_later =
        absurd (false≢true (sym (none_opens first (reviews_after reviews s.entry) H on.1 late) ∙ later))
    by false early later opens_later = (early, opens_later)

-- ---- forms by their phases

-- what opens a phase is no form
opening-silent : (first : Phase) (p o : ℕ) (e : Entry) → opens first e ≡ true → form_told p o e ≡ []
opening-silent first p o (Reviewed paper ordinal version form) opened = absurd (false≢true opened)
opening-silent first p o e opened = refl

joined : (c : Bool) (fs xs ys : List FormTold) → fs ++ cond c xs [] ++ cond c ys [] ≡ fs ++ cond c (xs ++ ys) []
joined true fs xs ys = append_assoc fs xs ys
joined false fs xs ys = append-nil (fs ++ [])

none_more : (c : Bool) (fs : List FormTold) → fs ≡ fs ++ cond c [] []
none_more true fs = sym (append-nil fs)
none_more false fs = sym (append-nil fs)

-- those from a phase on, or those before it, or both: as it is said of whether it had begun
module _ (first : Phase) (among : Bool → Bool) (p o : ℕ) where
  abbrev had : Tables → List FormTold
  had t = forms_when (λ (phase : Phase). among (is_from first phase)) t.reviews p o

  -- one more of them
  one : (t : Tables) (s : Stamped) (late : Bool) → is_from first t.reviews.phase ≡ late
      → had (tables_after t s) ≡ had t ++ cond (among late) (form_told p o s.entry) []
  one t s late is =
      forms_when-after (λ (phase : Phase). among (is_from first phase)) p o t.reviews s.entry
      ∙ ap (λ b. had t ++ cond (among b) (form_told p o s.entry) []) is

  late-forms : (t : Tables) (H : History) → GoesOn t.reviews H → is_from first t.reviews.phase ≡ true
      → had (tables_from t H) ≡ had t ++ cond (among true) (forms_of p o H) []
  late-forms t [] on late = none_more (among true) (had t)
  late-forms t (s ∷ H) on late =
      late-forms (tables_after t s) H on.1 (stays_late first t.reviews s.entry on.0 late)
      ∙ ap (λ (fs : List FormTold). fs ++ cond (among true) (forms_of p o H) []) (one t s true late)
      ∙ joined (among true) (had t) (form_told p o s.entry) (forms_of p o H)

  early-forms : (t : Tables) (H : History) → GoesOn t.reviews H → AreOpened first t.reviews H
      → is_from first t.reviews.phase ≡ false
      → had (tables_from t H)
      ≡ had t ++ cond (among false) (forms_of p o (until (opens_first first) H)) []
      ++ cond (among true) (forms_of p o (since (opens_first first) H)) []
  early-forms t [] on opened early =
      none_more (among false) (had t) ∙ none_more (among true) (had t ++ cond (among false) [] [])
  early-forms t (s ∷ H) on opened early =
      by (opens first s.entry) refl (λ closed. let held = opened closed in early-forms (tables_after t s) H on.1 held.1
      held.0)
    where
      before : History
      before = until (opens_first first) H

      behind : History
      behind = since (opens_first first) H

      rest : List FormTold → List FormTold
      rest fs = fs ++ cond (among false) (forms_of p o before) [] ++ cond (among true) (forms_of p o behind) []

      by : (b : Bool) → opens first s.entry ≡ b
          → (opens first s.entry ≡ false → had (tables_from (tables_after t s) H) ≡ rest (had (tables_after t s)))
          → had (tables_from (tables_after t s) H)
          ≡ had t ++ cond (among false) (forms_of p o (cond b [] (s ∷ before))) []
          ++ cond (among true) (forms_of p o (cond b H behind)) []
      by true opens-here later =
          late-forms (tables_after t s) H on.1 (opened_late first t.reviews s.entry opens-here)
          ∙ ap (λ (fs : List FormTold). fs ++ cond (among true) (forms_of p o H) [])
          (one t s false early ∙ ap (λ (fs : List FormTold). had t ++ cond (among false) fs [])
          (opening-silent first p o s.entry opens-here))
      by false closed later =
          later closed
          ∙ ap rest (one t s false early)
          ∙ ap (λ (fs : List FormTold). fs ++ cond (among true) (forms_of p o behind) [])
          (joined (among false) (had t) (form_told p o s.entry) (forms_of p o before))

-- ---- forms that are discussed

forms_discussed_of-tables : (p o : ℕ) (H : History) → InTurn IsInOrder [] H
    → forms_discussed_of p o H ≡ forms_discussed_in (tables_of H).reviews p o
forms_discussed_of-tables p o H kept =
    ap (λ (fs : List FormTold). listed (last fs) ++ late)
    (sym (append-nil early) ∙ sym (early-forms committee_reads_from not p o no_tables H on opened refl))
    ∙ ap (λ (fs : List FormTold). listed (last (map written_told before)) ++ fs)
    (sym (early-forms committee_reads_from (λ b. b) p o no_tables H on opened refl))
    ∙ ap (λ (fs : List FormTold). fs ++ map written_told from)
    (ap listed (last_from-map written_told None before) ∙ listed-map written_told (last before))
    ∙ sym (map-append written_told (listed (last before)) from)
  where
    on : GoesOn (tables_of []).reviews H
    on = goes_on [] H kept

    opened : AreOpened committee_reads_from (tables_of []).reviews H
    opened = discussion_opened (tables_of []).reviews H on refl

    early : List FormTold
    early = forms_of p o (until opens_discussion H)

    late : List FormTold
    late = forms_of p o (since opens_discussion H)

    before : List WrittenForm
    before =
        filter (λ (w : WrittenForm). not (is_from committee_reads_from w.phase)) (forms_in (tables_of H).reviews p o)

    from : List WrittenForm
    from = filter (λ (w : WrittenForm). is_from committee_reads_from w.phase) (forms_in (tables_of H).reviews p o)

-- ---- forms to which authors respond

early_form_of-tables : (p o : ℕ) (H : History) → InTurn IsInOrder [] H
    → early_form_of p o H ≡ early_form_in (tables_of H).stage.had_response (tables_of H).reviews p o
early_form_of-tables p o H kept =
    by (had_response_of H) refl ∙ ap (λ (opened : Bool). early_form_in opened (tables_of H).reviews p o)
    (had_response-tables H)
  where
    on : GoesOn (tables_of []).reviews H
    on = goes_on [] H kept

    early : List FormTold
    early = forms_of p o (until opens_response H)

    before : List WrittenForm
    before = filter (λ (w : WrittenForm). not (is_from Response w.phase)) (forms_in (tables_of H).reviews p o)

    by : (opened : Bool) → had_response_of H ≡ opened
        → cond opened (last early) None ≡ early_form_in opened (tables_of H).reviews p o
    by true is =
        ap (λ (fs : List FormTold). last fs)
        (sym (append-nil early)
        ∙ sym (early-forms Response not p o no_tables H on (are_opened Response (tables_of []).reviews H on is) refl))
        ∙ last_from-map written_told None before
    by false is = refl

-- ---- forms of a user's own

same_some : (m n : ℕ) → Some m ≡ Some n → m ≡ n
same_some m n h = cc

some-not_none : (n : ℕ) → None ≡ Some n → ⊥
some-not_none n h = cc

module _ (H : History) (fits : FitInTurn no_tables H) (u : Option ℕ) (p : ℕ) where
  -- the forms under this label, where there is one
  abbrev told_under : Option ℕ → Entry → List FormTold
  told_under None e = []
  told_under (Some o) e = form_told p o e

  -- whoever reviews the paper under the user's label is she
  hers : (maker ordinal o : ℕ) → ordinal_of u p H ≡ Some o → ordinal_of (Some maker) p H ≡ Some ordinal
      → is_number u maker ≡ eqb ordinal o
  hers maker ordinal o seat held = by (is_number u maker) (eqb ordinal o) refl refl
    where
      in_table : (v : Option ℕ) (n : ℕ) → ordinal_of v p H ≡ Some n → ordinal_in (tables_of H).seats v p ≡ Some n
      in_table v n is = sym (ordinal_of-tables v p H fits) ∙ is

      by : (b c : Bool) → is_number u maker ≡ b → eqb ordinal o ≡ c → b ≡ c
      by true c own is =
          sym
          (eq-eqb ordinal o
          (same_some ordinal o (sym held ∙ ap (λ v. ordinal_of v p H) (sym (number-is u maker own)) ∙ seat))) ∙ is
      by false true other is =
          sym other
          ∙ ordinal_in-single (tables_of H).seats (in_order-tables H fits) u maker p o (in_table u o seat)
          (in_table (Some maker) o (held ∙ ap (λ n. Some n) (eqb-true ordinal o is)))
      by false false other is = refl

  own-under : (seat : Option ℕ) → ordinal_of u p H ≡ seat → (maker : ℕ) (e : Entry) → IsHeld H maker e
      → own_form_told u p maker e ≡ told_under seat e
  own-under None is maker (Reviewed paper ordinal version form) held = by (eqb paper p) (is_number u maker) refl refl
    where
      by : (b c : Bool) → eqb paper p ≡ b → is_number u maker ≡ c → given (b && c) (whole_form version form) ≡ []
      by true true same own =
          absurd (some-not_none ordinal
          (sym is ∙ ap (λ v. ordinal_of v p H) (number-is u maker own)
          ∙ subst (λ n. ordinal_of (Some maker) n H ≡ Some ordinal) (eqb-true paper p same) held))
      by true false same own = refl
      by false c same own = refl
  own-under (Some o) is maker (Reviewed paper ordinal version form) held = by (eqb paper p) refl
    where
      by : (b : Bool) → eqb paper p ≡ b → given (b && is_number u maker) (whole_form version form)
          ≡ given (b && eqb ordinal o) (whole_form version form)
      by true same =
          ap (λ c. given c (whole_form version form))
          (hers maker ordinal o is (subst (λ n. ordinal_of (Some maker) n H ≡ Some ordinal) (eqb-true paper p same)
          held))
      by false same = refl
  own-under None is maker e held = refl
  own-under (Some o) is maker e held = refl

  own_forms_of-tables : ReviewersStay H → own_forms_of u p H ≡ own_forms_in (tables_of H) u p
  own_forms_of-tables stay =
      let Held : Stamped → Type 0 = λ s. IsHeld H s.stamp.maker s.entry in
      let own : Stamped → List FormTold = λ s. own_form_told u p s.stamp.maker s.entry in
      let theirs : Stamped → List FormTold = λ s. told_under (ordinal_of u p H) s.entry in
      all-alike own theirs H
      (AllByRecursion-map Held (λ (s : Stamped). own s ≡ theirs s)
      (λ s held. own-under (ordinal_of u p H) refl s.stamp.maker s.entry held) H
      (recursion_from_All Held H stay))
      ∙ by (ordinal_of u p H)
      ∙ (λ i. flat_map (λ (o : ℕ). forms_of-tables p o H i) (listed (ordinal_of-tables u p H fits i)))
    where
      by : (seat : Option ℕ) → flat_map (λ (s : Stamped). told_under seat s.entry) H
          ≡ flat_map (λ (o : ℕ). forms_of p o H) (listed seat)
      by None = each-silent (λ (s : Stamped). []) (λ s. refl) H
      by (Some o) = sym (append-nil (forms_of p o H))

-- ---- all

pub forms_tell : FormsTell
forms_tell H kept = record {
  discussed = λ p o. forms_discussed_of-tables p o H kept.in_order;
  early = λ p o. early_form_of-tables p o H kept.in_order;
  own = λ u p. own_forms_of-tables H kept.fits u p kept.stay;
}
