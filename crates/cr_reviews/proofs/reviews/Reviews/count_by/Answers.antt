-- SPDX-License-Identifier: Apache-2.0 OR MIT
use Rattle.std.proofs.Common.{List, ◌∙◌, length, map, append-nil, sym, ap}
use Rattle.std.specs.Prelude.{filter}
use Rattle.std.proofs.lemmas.List.{length-map}
use Rattle.std.proofs.lemmas.List.Sums.{length-filter}
use Rattle.cr_base.specs.declared.review.WrittenForm.{WrittenForm}
use Rattle.cr_base.specs.Reviews.{forms_in, written_told}
use Rattle.cr_reviews.specs.Under.{is_under}
use Rattle.cr_reviews.proofs.reviews.Reviews.count_by.Goals as goal

pub returns-in-Some-clause-value : goal.returns-in-Some-clause-value
returns-in-Some-clause-value c =
    let ordinal = c.in-Some.ordinal in
    let forms = forms_in c.args.self.now.reviews c.args.paper ordinal in
    rw c.in-Some.is
    (c.count_under.ensures
    ∙ sym (length-filter (is_under ordinal) c.forms.result.now)
    ∙ ap (λ (all : List WrittenForm). length (filter (is_under ordinal) all)) c.forms.ensures.forms
    ∙ sym (ap length (append-nil (map written_told forms)) ∙ length-map forms written_told))
