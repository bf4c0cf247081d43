-- SPDX-License-Identifier: Apache-2.0 OR MIT
use Rattle.std.proofs.Common.{Bool, ◌||◌, ◌∙◌, ap, sym}
use Rattle.cr_reviews.specs.Labels.{has_label}
use Rattle.cr_reviews.proofs.UnderLaws.{written-never, written-under}
use Rattle.cr_reviews.proofs.forms.add_written.Goals as goal

pub returns-then-is_written : goal.returns-then-is_written
returns-then-is_written c = λ o.
    c.add.ensures o
    ∙ ap (λ (b : Bool). b || has_label c.args.labels.now o)
    (sym (written-under o c.args.when c.args.form.now (sym c.is_written.ensures ∙ c.if-is_written.true)))

pub returns-else-is_written : goal.returns-else-is_written
returns-else-is_written c = λ o.
    ap (λ (b : Bool). b || has_label c.args.labels.now o)
    (sym (written-never o c.args.when c.args.form.now (sym c.is_written.ensures ∙ c.if-is_written.false)))
