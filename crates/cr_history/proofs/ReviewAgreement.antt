-- SPDX-License-Identifier: Apache-2.0 OR MIT
-- The forms that a history tells are those that the table of reviews has.
use Rattle.std.proofs.Common.{ℕ, Bool, true, false, cond, ◌≡◌, List, [], ◌∷◌, ◌++◌, append_assoc, append-nil, eqb, refl}
use Rattle.std.proofs.Common.{sym, ap, ◌∙◌, ◌&&◌, None}
use Rattle.std.specs.Prelude.{map, filter, not}
use Rattle.std.specs.Option.{option_map}
use Rattle.std.proofs.lemmas.List.{map-append}
use Rattle.std.proofs.lemmas.List.Elements.{filter-append}
use Rattle.cr_base.specs.declared.entry.Entry.{Entry}
use Rattle.cr_base.specs.declared.entry.Entry.TheVariants.{PhaseSet, Reviewed}
use Rattle.cr_base.specs.declared.entry.Stamped.{Stamped}
use Rattle.cr_base.specs.declared.review.WrittenForm.{WrittenForm}
use Rattle.cr_base.specs.declared.words.Phase.{Phase}
use Rattle.cr_base.specs.Filed.{filed, filed_of}
use Rattle.cr_base.specs.History.{History, FormTold, phase_told, form_told, whole_form}
use Rattle.cr_base.specs.HistoryFacts.{phase_of, forms_of, last_form_of, is_written}
use Rattle.cr_base.specs.Lists.{given, is_nothing, last, last_or}
use Rattle.cr_base.specs.Reviews.{ReviewsState, reviews_after, forms_in, last_form_in, is_written_in, written_told}
use Rattle.cr_base.specs.Tables.{Tables, no_tables, tables_of}
use Rattle.cr_base.proofs.FiledLaws.{filter-constant, filed_of-with_filed}
use Rattle.cr_base.proofs.LastLaws.{last_or-cons, last_from-map, is_nothing-map}
use Rattle.cr_base.proofs.Small.{eqb-swap}
use Rattle.cr_history.proofs.Folds.{told-always}

-- ---- one entry

-- the form that it gives the label of this ordinal, where it is written in this phase
abbrev form_written : ℕ → ℕ → Phase → Entry → List WrittenForm
form_written p o phase (Reviewed paper ordinal version form) =
    given (eqb paper p && eqb ordinal o) (record { ordinal = ordinal; version = version; phase = phase; form = form })
form_written p o phase _ = []

-- it comes behind those of its label
forms_in-after : (p o : ℕ) (reviews : ReviewsState) (e : Entry)
    → forms_in (reviews_after reviews e) p o ≡ forms_in reviews p o ++ form_written p o reviews.phase e
forms_in-after p o reviews (PhaseSet phase) = sym (append-nil (forms_in reviews p o))
forms_in-after p o reviews (Reviewed paper ordinal version form) =
    let under : WrittenForm → Bool = λ w. eqb w.ordinal o in
    ap (filter under) (filed_of-with_filed p (filed paper w) reviews.forms)
    ∙ filter-append under (filed_of p reviews.forms) (given (eqb p paper) w)
    ∙ ap (λ (ws : List WrittenForm). forms_in reviews p o ++ ws)
    (by (eqb p paper) ∙ ap (λ b. given (b && eqb ordinal o) w) (eqb-swap p paper))
  where
    w : WrittenForm
    w = record { ordinal = ordinal; version = version; phase = reviews.phase; form = form }

    by : (b : Bool) → filter (λ (w : WrittenForm). eqb w.ordinal o) (given b w) ≡ given (b && eqb ordinal o) w
    by true = refl
    by false = refl
forms_in-after p o reviews e = sym (append-nil (forms_in reviews p o))

-- ---- forms of some phases

-- the forms of the label that were written in a phase that passes
abbrev pub forms_when : (Phase → Bool) → ReviewsState → ℕ → ℕ → List FormTold
forms_when test reviews p o = map written_told (filter (λ (w : WrittenForm). test w.phase) (forms_in reviews p o))

none-either : (c : Bool) → ◌≡◌ {A = List FormTold} [] (cond c [] [])
none-either true = refl
none-either false = refl

written-when : (test : Phase → Bool) (p o : ℕ) (phase : Phase) (e : Entry)
    → map written_told (filter (λ (w : WrittenForm). test w.phase) (form_written p o phase e))
    ≡ cond (test phase) (form_told p o e) []
written-when test p o phase (Reviewed paper ordinal version form) = by (eqb paper p && eqb ordinal o)
  where
    w : WrittenForm
    w = record { ordinal = ordinal; version = version; phase = phase; form = form }

    one : (c : Bool) → map written_told (cond c (w ∷ []) []) ≡ cond c (whole_form version form ∷ []) []
    one true = refl
    one false = refl

    by : (b : Bool) → map written_told (filter (λ (w : WrittenForm). test w.phase) (given b w))
        ≡ cond (test phase) (given b (whole_form version form)) []
    by true = one (test phase)
    by false = none-either (test phase)
written-when test p o phase e = none-either (test phase)

-- what the entry tells comes behind them, where the phase passes
pub forms_when-after : (test : Phase → Bool) (p o : ℕ) (reviews : ReviewsState) (e : Entry)
    → forms_when test (reviews_after reviews e) p o ≡ forms_when test reviews p o ++ cond (test reviews.phase)
    (form_told p o e) []
forms_when-after test p o reviews e =
    let passes : WrittenForm → Bool = λ w. test w.phase in
    ap (λ (ws : List WrittenForm). map written_told (filter passes ws)) (forms_in-after p o reviews e)
    ∙ ap (map written_told) (filter-append passes (forms_in reviews p o) (form_written p o reviews.phase e))
    ∙ map-append written_told (filter passes (forms_in reviews p o)) (filter passes (form_written p o reviews.phase e))
    ∙ ap (λ (fs : List FormTold). forms_when test reviews p o ++ fs) (written-when test p o reviews.phase e)

-- ---- all of them

-- the forms of a label are those that the table has
pub forms_of-tables : (p o : ℕ) (H : History) → forms_of p o H ≡ map written_told (forms_in (tables_of H).reviews p o)
forms_of-tables p o H =
    let all : Phase → Bool = λ phase. true in
    told-always ◌++◌ append-nil (λ (t : Tables). forms_when all t.reviews p o) (λ (s : Stamped). form_told p o s.entry)
    (λ t s rest.
    sym (append_assoc (forms_when all t.reviews p o) (form_told p o s.entry) rest)
    ∙ ap (λ (fs : List FormTold). fs ++ rest) (sym (forms_when-after all p o t.reviews s.entry))) no_tables H
    ∙ ap (map written_told) (filter-constant true (forms_in (tables_of H).reviews p o))

-- so there is one where the table has one, and the last is the same
pub is_written-tables : (p o : ℕ) (H : History) → is_written p o H ≡ is_written_in (tables_of H).reviews p o
is_written-tables p o H =
    ap (λ (fs : List FormTold). not (is_nothing fs)) (forms_of-tables p o H)
    ∙ ap not (is_nothing-map written_told (forms_in (tables_of H).reviews p o))

pub last_form_of-tables : (p o : ℕ) (H : History)
    → last_form_of p o H ≡ option_map written_told (last_form_in (tables_of H).reviews p o)
last_form_of-tables p o H =
    ap last (forms_of-tables p o H) ∙ last_from-map written_told None (forms_in (tables_of H).reviews p o)

-- ---- the phase

phase-entry : (reviews : ReviewsState) (e : Entry) (rest : List Phase)
    → last_or reviews.phase (phase_told e ++ rest) ≡ last_or (reviews_after reviews e).phase rest
phase-entry reviews (PhaseSet next) rest = last_or-cons reviews.phase next rest
phase-entry reviews e rest = refl

-- the phase in which the next form is written is the last one set
pub phase_of-reviews : (H : History) → phase_of H ≡ (tables_of H).reviews.phase
phase_of-reviews H =
    told-always last_or (λ _. refl) (λ (t : Tables). t.reviews.phase) (λ (s : Stamped). phase_told s.entry)
    (λ t s. phase-entry t.reviews s.entry) no_tables H
