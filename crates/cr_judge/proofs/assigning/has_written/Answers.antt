-- SPDX-License-Identifier: Apache-2.0 OR MIT
use Rattle.std.proofs.Common.{◌∙◌, ap, refl, sym}
use Rattle.cr_base.specs.Lists.{at_some}
use Rattle.cr_base.specs.Reviews.{is_written_in}
use Rattle.cr_judge.proofs.RowLaws.{written-behind}
use Rattle.cr_judge.proofs.assigning.has_written.Goals as goal

pub returns-in-Some-ordinal_of : goal.returns-in-Some-ordinal_of
returns-in-Some-ordinal_of c =
    written-behind c.args.live.now.tables c.args.earlier.now c.requires.rows c.args.user.now c.args.paper.now
    c.review_table.result.now.reviews c.review_table.ensures c.in-Some.number c.ordinal_of.result c.has_form.result
    c.in-Some.is c.ordinal_of.ensures
    (c.has_form.ensures.value
    ∙ sym (ap (at_some (is_written_in c.review_table.result.now.reviews c.in-Some.number)) c.in-Some-ordinal_of.is))

pub returns-in-None : goal.returns-in-None
returns-in-None c =
    let reviews = c.args.live.now.tables.reviews in
    written-behind c.args.live.now.tables c.args.earlier.now c.requires.rows c.args.user.now c.args.paper.now
    reviews refl c.in-Some.number c.ordinal_of.result _ c.in-Some.is c.ordinal_of.ensures
    (sym (ap (at_some (is_written_in reviews c.in-Some.number)) c.in-None.is))
