-- SPDX-License-Identifier: Apache-2.0 OR MIT
-- The table of reviews: the forms that reviewers have written (the HotCRP manual's review form, with two texts),
-- each with the phase in which it was.
use Rattle.std.specs.Prelude.{ℕ, Bool, not, ◌≡◌, ◌+◌, ◌==◌, List, [], ◌++◌, length, map, filter, Option, None}
use Rattle.std.specs.Prelude.{if◌then◌else◌}
use Rattle.std.specs.Option.{option_map}
use Rattle.cr_base.specs.declared.entry.Entry.{Entry}
use Rattle.cr_base.specs.declared.entry.Entry.TheVariants.{PhaseSet, Reviewed}
use Rattle.cr_base.specs.declared.filed.Filed.{Filed}
use Rattle.cr_base.specs.declared.review.WrittenForm.{WrittenForm}
use Rattle.cr_base.specs.declared.words.Phase.{Phase}
use Rattle.cr_base.specs.declared.words.Phase.TheVariants.{Setup, Response}
use Rattle.cr_base.specs.Filed.{filed, with_filed, filed_of}
use Rattle.cr_base.specs.History.{FormTold, whole_form}
use Rattle.cr_base.specs.Lists.{is_nothing, last, listed}
use Rattle.cr_base.specs.Phases.{committee_reads_from, is_from}

-- ---- the state

-- the phase, and the forms: paper by paper, and those of a paper in the order in which they were written
pub record ReviewsState : Type 0 where
  pub phase : Phase
  pub forms : List (Filed WrittenForm)

-- no forms
abbrev pub no_reviews : ReviewsState
no_reviews = record { phase = Setup; forms = [] }

-- the forms after one more entry
abbrev pub reviews_after : ReviewsState → Entry → ReviewsState
reviews_after reviews (PhaseSet phase) = record reviews { phase = phase }
reviews_after reviews (Reviewed paper ordinal version form) = record reviews {
  forms = with_filed (filed paper
      (record { ordinal = ordinal; version = version; phase = reviews.phase; form = form })) reviews.forms;
}
reviews_after reviews _ = reviews

-- ---- what is read

-- the forms of the paper's label of this ordinal, by version
abbrev pub forms_in : ReviewsState → ℕ → ℕ → List WrittenForm
forms_in reviews p o = filter (λ (w : WrittenForm). w.ordinal == o) (filed_of p reviews.forms)

-- the last of them
abbrev pub last_form_in : ReviewsState → ℕ → ℕ → Option WrittenForm
last_form_in reviews p o = last (forms_in reviews p o)

-- there is one
abbrev pub is_written_in : ReviewsState → ℕ → ℕ → Bool
is_written_in reviews p o = not (is_nothing (forms_in reviews p o))

-- the last form under the paper's label of this ordinal that was written before this phase
abbrev pub last_form_before : ReviewsState → ℕ → ℕ → Phase → Option WrittenForm
last_form_before reviews p o phase =
    last (filter (λ (w : WrittenForm). not (is_from phase w.phase)) (forms_in reviews p o))

-- the forms under the paper's label of this ordinal that were written in this phase or later
abbrev pub forms_from : ReviewsState → ℕ → ℕ → Phase → List WrittenForm
forms_from reviews p o phase = filter (λ (w : WrittenForm). is_from phase w.phase) (forms_in reviews p o)

-- a form as it is told
abbrev pub written_told : WrittenForm → FormTold
written_told w = whole_form w.version w.form

-- the forms under the paper's label of this ordinal that the committee discusses
abbrev pub forms_discussed_in : ReviewsState → ℕ → ℕ → List FormTold
forms_discussed_in reviews p o =
    map written_told
    (listed (last_form_before reviews p o committee_reads_from) ++ forms_from reviews p o committee_reads_from)

-- the form under the paper's label of this ordinal to which its authors respond: the last that was written before the
-- response, if the response was opened
abbrev pub early_form_in : Bool → ReviewsState → ℕ → ℕ → Option FormTold
early_form_in opened reviews p o =
    if opened then option_map written_told (last_form_before reviews p o Response) else None

-- ---- which entry may come next

-- an entry fits: the version drawn is the label's next one
abbrev pub ReviewsFit : ReviewsState → Entry → Type 0
ReviewsFit reviews (Reviewed paper ordinal version form) = version ≡ length (forms_in reviews paper ordinal) + 1
ReviewsFit reviews _ = Unit {0}
