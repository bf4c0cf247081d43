-- SPDX-License-Identifier: Apache-2.0 OR MIT
use Rattle.std.proofs.Common.{List, ◌++◌, ◌∙◌, None, ap}
use Rattle.std.specs.Prelude.{map}
use Rattle.cr_base.specs.declared.review.ReviewLine.{ReviewLine}
use Rattle.cr_base.specs.declared.words.Phase.TheVariants.{Setup}
use Rattle.cr_base.specs.Filed.{filed_of}
use Rattle.cr_base.specs.Reviews.{written_told}
use Rattle.cr_view.specs.declared.reviews.Heading.{Heading}
use Rattle.cr_view.specs.Reviews.{review_line, forms_under}
use Rattle.cr_view.specs.Seen.{SeenTables}
use Rattle.cr_view.proofs.ReviewLaws.{own-told}
use Rattle.cr_view.proofs.live.Live.own_reviews.Goals as goal

pub returns : goal.returns
returns c =
    let t = c.args.self.now.tables in
    let heading : Heading = record { to_author = c.args.by.now.author; label = c.in-Some.label; user = None } in
    let told : List ReviewLine =
    map (review_line heading) (map written_told (forms_under c.in-Some.label Setup c.forms.result.now)) in
    let forms =
    c.forms.ensures.forms ∙ ap (λ (v : SeenTables). filed_of c.args.paper v.tables.reviews.forms) c.self.view_is in
    let pushed = c.in_ok-push_forms.ensures ∙ ap (λ (l : List ReviewLine). l ++ told) c.new-lines.ensures.items in
    c.from_vec-2.ensures ∙ pushed ∙ own-told t c.args.user.now c.args.by.now c.args.paper c.in-Some.label
    c.forms.result.now c.in-Some.ensures forms
