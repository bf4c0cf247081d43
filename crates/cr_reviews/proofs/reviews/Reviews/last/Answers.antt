-- SPDX-License-Identifier: Apache-2.0 OR MIT
use Rattle.std.proofs.Common.{List, ◌∙◌, ap}
use Rattle.std.specs.Prelude.{filter}
use Rattle.cr_base.specs.declared.review.WrittenForm.{WrittenForm}
use Rattle.cr_base.specs.Lists.{last}
use Rattle.cr_reviews.specs.Under.{is_under}
use Rattle.cr_reviews.proofs.UnderLaws.{last-found}
use Rattle.cr_reviews.proofs.reviews.Reviews.last.Goals as goal

pub returns-clause-value : goal.returns-clause-value
returns-clause-value g c =
    c.last_of.ensures
    ∙ last-found (is_under c.args.ordinal) c.forms.result.now
    ∙ ap (λ (forms : List WrittenForm). last (filter (is_under c.args.ordinal) forms)) c.forms.ensures.forms
