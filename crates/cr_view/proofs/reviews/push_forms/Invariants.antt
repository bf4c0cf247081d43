-- SPDX-License-Identifier: Apache-2.0 OR MIT
use Rattle.std.proofs.Common.{◌≡◌, ◌++◌, drop}
use Rattle.std.specs.Prelude.{map}
use Rattle.cr_base.specs.Reviews.{written_told}
use Rattle.cr_view.specs.Reviews.{review_line, forms_under}
use Rattle.cr_view.proofs.reviews.push_forms.Given as goal

abbrev pub invariant-loop-written : goal.invariant-loop-written
invariant-loop-written l =
    l.lines.items ++ map (review_line l.heading)
    (map written_told (forms_under l.heading.label l.phase (drop l.written-index l.forms)))
    ≡ l.initial.lines.items ++ map (review_line l.heading)
    (map written_told (forms_under l.heading.label l.phase l.forms))
