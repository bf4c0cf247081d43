-- SPDX-License-Identifier: Apache-2.0 OR MIT
-- What reports read, by reads of the tables.
use Rattle.std.proofs.Common.{ℕ, ◌≡◌, ◌+◌, List, [], ◌∷◌, ◌++◌, length, length-append, map, refl, sym, ap, ◌∙◌}
use Rattle.std.proofs.Common.{Option, Some, None, suc}
use Rattle.std.specs.Option.{option_map}
use Rattle.cr_base.specs.declared.review.WrittenForm.{WrittenForm}
use Rattle.cr_base.specs.Lists.{last, last_from, listed, total}
use Rattle.cr_base.specs.Reviews.{forms_from, last_form_before, written_told}
use Rattle.cr_base.specs.Tables.{Tables}
use Rattle.cr_base.specs.Phases.{committee_reads_from}
use Rattle.cr_base.proofs.Small.{total-append}
use Rattle.cr_view.specs.declared.reports.ScoreSum.{ScoreSum}
use Rattle.cr_view.specs.Reports.{last_discussed, score_sum}

-- ---- forms

-- the last of some, or where there are none the one from before
last_from-told : (o : Option WrittenForm) (forms : List WrittenForm)
    → last_from (option_map written_told o) (map written_told forms) ≡ option_map written_told (last_from o forms)
last_from-told o [] = refl
last_from-told o (w ∷ forms) = last_from-told (Some w) forms

last_from-listed : {A : Type 0} (o : Option A) (xs : List A) → last (listed o ++ xs) ≡ last_from o xs
last_from-listed None xs = refl
last_from-listed (Some x) xs = refl

last-told : (forms : List WrittenForm) → last (map written_told forms) ≡ option_map written_told (last forms)
last-told forms = last_from-told None forms

-- the last of the later ones is the last that is discussed
pub discussed-late : (t : Tables) (p o : ℕ) (form : WrittenForm)
    → Some form ≡ last (forms_from t.reviews p o committee_reads_from)
    → option_map written_told (Some form) ≡ last_discussed t p o
discussed-late t p o form is =
    split (forms_from t.reviews p o committee_reads_from) (last_form_before t.reviews p o committee_reads_from) is
  where
    split : (late : List WrittenForm) (early : Option WrittenForm) → Some form ≡ last late
        → option_map written_told (Some form) ≡ last (map written_told (listed early ++ late))
    split [] early h = cc
    split (w ∷ late) early h =
        ap (λ (q : Option WrittenForm). option_map written_told q) (h ∙ sym (last_from-listed early (w ∷ late)))
        ∙ sym (last-told (listed early ++ w ∷ late))

-- and where there are none, the last of the earlier ones
pub discussed-early : (t : Tables) (p o : ℕ) (form : Option WrittenForm)
    → None ≡ last (forms_from t.reviews p o committee_reads_from)
    → form ≡ last_form_before t.reviews p o committee_reads_from → option_map written_told form ≡ last_discussed t p o
discussed-early t p o form none is = split (forms_from t.reviews p o committee_reads_from) none
  where
    some-from : {A : Type 0} (x : A) (xs : List A) → None ≡ last_from (Some x) xs → (n : ℕ) → n ≡ suc n
    some-from x [] h = cc
    some-from x (y ∷ xs) h = some-from y xs h

    split : (late : List WrittenForm) → None ≡ last late
        → option_map written_told form
        ≡ last (map written_told (listed (last_form_before t.reviews p o committee_reads_from) ++ late))
    split [] h =
        ap (λ (q : Option WrittenForm). option_map written_told q)
        (is ∙ sym (last_from-listed (last_form_before t.reviews p o committee_reads_from) []))
        ∙ sym (last-told (listed (last_form_before t.reviews p o committee_reads_from) ++ []))
    split (w ∷ late) h = let odd : 0 ≡ suc 0 = some-from w late h 0 in cc

-- ---- scores

-- with more scores
pub sum-step : (old new : ScoreSum) (before more : List ℕ) → old ≡ score_sum before
    → new.count ≡ old.count + length more → new.sum ≡ old.sum + total more
    → new ≡ score_sum (before ++ more)
sum-step old new before more is counted summed =
    let count : new.count ≡ length (before ++ more) =
    counted ∙ ap (λ (s : ScoreSum). s.count + length more) is ∙ sym (length-append before more) in
    let sum : new.sum ≡ total (before ++ more) =
    summed ∙ ap (λ (s : ScoreSum). s.sum + total more) is ∙ sym (total-append before more) in
    let first : ◌≡◌ {A = ScoreSum} (record { count = new.count; sum = new.sum })
    (record { count = length (before ++ more); sum = new.sum }) =
    ap {B = ScoreSum} (λ (n : ℕ). record { count = n; sum = new.sum }) count in
    let second : ◌≡◌ {A = ScoreSum} (record { count = length (before ++ more); sum = new.sum })
    (score_sum (before ++ more)) =
    ap {B = ScoreSum} (λ (n : ℕ). record { count = length (before ++ more); sum = n }) sum in
    first ∙ second
