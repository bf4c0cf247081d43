-- SPDX-License-Identifier: Apache-2.0 OR MIT
use Rattle.std.proofs.Common.{◌≡◌, List, ◌++◌, ◌∙◌, Option, ℕ, ap, map, subst}
use Rattle.std.specs.Prelude.{OnOk}
use Rattle.std.specs.Option.{option_copied}
use Rattle.cr_base.specs.declared.review.ReviewLine.{ReviewLine}
use Rattle.cr_base.specs.Filed.{filed_of}
use Rattle.cr_base.specs.Reviews.{last_form_before}
use Rattle.cr_base.specs.Phases.{committee_reads_from}
use Rattle.cr_view.specs.declared.reviews.Heading.{Heading}
use Rattle.cr_view.specs.Reviews.{review_line, forms_shown}
use Rattle.cr_view.specs.Seen.{SeenTables}
use Rattle.cr_view.proofs.ReviewLaws.{label-authors, label-discussed}
use Rattle.cr_view.proofs.live.Live.push_label.Goals as goal

pub returns : goal.returns
returns c =
    let t = c.args.self.now.tables in
    let by = c.args.by.now in
    let p : ℕ = c.args.paper in
    let o : ℕ = c.args.label in
    let told : List ReviewLine = c.args.lines.now.items in
    let heading : Option (List ℕ) → Heading = λ name. record { to_author = by.author; label = o; user = name } in
    let forms =
    c.forms-forms.ensures.forms ∙ ap (λ (v : SeenTables). filed_of p v.tables.reviews.forms) c.self.view_is in
    let last = c.last_before-before.ensures.value
    ∙ ap (λ (v : SeenTables). last_form_before v.tables.reviews p o committee_reads_from) c.self.view_is in
    subst (λ (l : List ReviewLine). OnOk c.push_forms.result (c.push_forms.new.lines.items ≡ l))
    (label-discussed t by p o (heading c.label_name.result) _ c.forms-forms.result.now told
    c.push_form-2.new.lines.items
    c.if-by.false last forms c.in_ok-push_form.ensures
    ∙ ap (λ (name : Option (List ℕ)). told ++ map (review_line (heading name)) (forms_shown t by p o))
    c.label_name.ensures)
    c.push_forms.ensures

pub returns-then-by : goal.returns-then-by
returns-then-by c =
    let t = c.args.self.now.tables in
    let by = c.args.by.now in
    let p : ℕ = c.args.paper in
    let o : ℕ = c.args.label in
    let told : List ReviewLine = c.args.lines.now.items in
    let heading : Option (List ℕ) → Heading = λ name. record { to_author = by.author; label = o; user = name } in
    subst (λ (l : List ReviewLine). OnOk c.push_form.result (c.push_form.new.lines.items ≡ l))
    (label-authors t by p o (heading c.label_name.result) (option_copied c.authors_form.result) told c.if-by.true
    c.authors_form.ensures
    ∙ ap (λ (name : Option (List ℕ)). told ++ map (review_line (heading name)) (forms_shown t by p o))
    c.label_name.ensures)
    c.push_form.ensures
