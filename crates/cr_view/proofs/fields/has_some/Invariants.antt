-- SPDX-License-Identifier: Apache-2.0 OR MIT
use Rattle.std.proofs.Common.{◌≡◌, false}
use Rattle.cr_reviews.specs.Labels.{has_label}
use Rattle.cr_view.specs.Fields.{some_label}
use Rattle.cr_view.proofs.fields.has_some.Given as goal

abbrev pub invariant-loop-before : goal.invariant-loop-before
invariant-loop-before l = some_label (has_label l.labels) l.before ≡ false
