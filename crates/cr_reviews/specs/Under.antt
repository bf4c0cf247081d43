-- SPDX-License-Identifier: Apache-2.0 OR MIT
-- The forms of a paper that were written under a label.
use Rattle.std.specs.Prelude.{ℕ, Bool, not, ◌&&◌, ◌==◌, List, find, map, reverse, Option}
use Rattle.std.specs.List.{flat_map}
use Rattle.cr_base.specs.declared.review.WrittenForm.{WrittenForm}
use Rattle.cr_base.specs.History.{FormTold}
use Rattle.cr_base.specs.Lists.{listed}
use Rattle.cr_base.specs.Phases.{is_from}
use Rattle.cr_base.specs.Reviews.{ReviewsState, forms_in, written_told}
use Rattle.cr_reviews.specs.declared.forms.Written.{Written}
use Rattle.cr_reviews.specs.declared.forms.Written.TheVariants.{Ever, Before, Since}

-- those under the label of this ordinal, where one is told, as a user is told them
abbrev pub forms_by : ReviewsState → ℕ → Option ℕ → List FormTold
forms_by reviews p ordinal = flat_map (λ (o : ℕ). map written_told (forms_in reviews p o)) (listed ordinal)

-- the form was written under that label; and at any time, before the phase began, or in the phase or later
abbrev pub is_under : ℕ → WrittenForm → Bool
is_under ordinal form = form.ordinal == ordinal

abbrev pub is_written : ℕ → Written → WrittenForm → Bool
is_written ordinal Ever form = is_under ordinal form
is_written ordinal (Before phase) form = is_under ordinal form && not (is_from phase form.phase)
is_written ordinal (Since phase) form = is_under ordinal form && is_from phase form.phase

-- the last of these forms that passes a test
abbrev pub last_that : (WrittenForm → Bool) → List WrittenForm → Option WrittenForm
last_that passes forms = find passes (reverse forms)
