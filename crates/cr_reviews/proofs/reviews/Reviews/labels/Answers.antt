-- SPDX-License-Identifier: Apache-2.0 OR MIT
use Rattle.std.proofs.Common.{List, ◌∙◌, ap, not}
use Rattle.std.specs.Prelude.{filter}
use Rattle.cr_base.specs.declared.review.WrittenForm.{WrittenForm}
use Rattle.cr_base.specs.Lists.{is_nothing}
use Rattle.cr_reviews.specs.Under.{is_under}
use Rattle.cr_reviews.proofs.UnderLaws.{found}
use Rattle.cr_reviews.proofs.reviews.Reviews.labels.Goals as goal

pub returns-clause-value : goal.returns-clause-value
returns-clause-value g c = λ o.
    c.labels_of.ensures o
    ∙ found (is_under o) c.forms.result.now
    ∙ ap (λ (forms : List WrittenForm). not (is_nothing (filter (is_under o) forms))) c.forms.ensures.forms
