-- SPDX-License-Identifier: Apache-2.0 OR MIT
use Rattle.std.proofs.Common.{ℕ, ◌≡◌, take}
use Rattle.std.specs.List.{list_any}
use Rattle.cr_reviews.specs.Labels.{has_label}
use Rattle.cr_reviews.specs.Under.{is_written}
use Rattle.cr_reviews.proofs.forms.labels_of.Given as goal

abbrev pub invariant-loop-form : goal.invariant-loop-form
invariant-loop-form l = (o : ℕ) → has_label l.labels o ≡ list_any (is_written o l.when) (take l.form-index l.forms)
