-- SPDX-License-Identifier: Apache-2.0 OR MIT
use Rattle.std.proofs.Common.{List, ◌∙◌, ap, not}
use Rattle.std.specs.Prelude.{filter}
use Rattle.cr_base.specs.declared.review.WrittenForm.{WrittenForm}
use Rattle.cr_base.specs.Lists.{is_nothing}
use Rattle.cr_reviews.specs.Under.{is_under}
use Rattle.cr_reviews.proofs.UnderLaws.{found}
use Rattle.cr_reviews.proofs.reviews.Reviews.has_form.Goals as goal

pub returns-clause-value : goal.returns-clause-value
returns-clause-value g c =
    c.has_under.ensures
    ∙ found (is_under c.args.ordinal) c.forms.result.now
    ∙ ap (λ (forms : List WrittenForm). not (is_nothing (filter (is_under c.args.ordinal) forms))) c.forms.ensures.forms
