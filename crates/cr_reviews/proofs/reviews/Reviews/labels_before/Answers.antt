-- SPDX-License-Identifier: Apache-2.0 OR MIT
use Rattle.std.proofs.Common.{List, ◌∙◌, ap, not}
use Rattle.std.specs.Prelude.{filter, is_some}
use Rattle.cr_base.specs.declared.review.WrittenForm.{WrittenForm}
use Rattle.cr_base.specs.Lists.{last}
use Rattle.cr_base.specs.Phases.{is_from}
use Rattle.cr_reviews.specs.Under.{is_under}
use Rattle.cr_reviews.proofs.UnderLaws.{found-both}
use Rattle.cr_reviews.proofs.reviews.Reviews.labels_before.Goals as goal

pub returns-clause-value : goal.returns-clause-value
returns-clause-value g c = λ o.
    let early = λ (w : WrittenForm). not (is_from c.args.phase w.phase) in
    c.labels_of.ensures o
    ∙ found-both (is_under o) early c.forms.result.now
    ∙ ap (λ (forms : List WrittenForm). is_some (last (filter early (filter (is_under o) forms)))) c.forms.ensures.forms
