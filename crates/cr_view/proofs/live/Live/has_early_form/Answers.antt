-- SPDX-License-Identifier: Apache-2.0 OR MIT
use Rattle.std.proofs.Common.{ℕ, Bool, true, ◌∙◌, ap, sym}
use Rattle.std.specs.Prelude.{is_some}
use Rattle.cr_base.specs.declared.words.Phase.TheVariants.{Response}
use Rattle.cr_base.specs.Reviews.{early_form_in, last_form_before, written_told}
use Rattle.cr_base.proofs.Small.{is_some-option_map}
use Rattle.cr_reviews.specs.Labels.{has_label}
use Rattle.cr_view.specs.Fields.{some_label}
use Rattle.cr_view.specs.Seen.{SeenTables}
use Rattle.cr_view.proofs.FieldLaws.{some-same}
use Rattle.cr_view.proofs.live.Live.has_early_form.Goals as goal

pub returns-then-not-had_response : goal.returns-then-not-had_response
returns-then-not-had_response c =
    let t = c.args.self.now.tables in
    let early = λ (b : Bool). some_label (λ (o : ℕ). is_some (early_form_in b t.reviews c.args.paper o)) 26 in
    let opened = ap (λ (v : SeenTables). v.tables.stage.had_response) c.self.view_is in
    sym (ap early (sym opened ∙ sym c.had_response.ensures ∙ c.if-not-had_response.true))

pub returns : goal.returns
returns c =
    let t = c.args.self.now.tables in
    let p = c.args.paper in
    let early = λ (b : Bool). some_label (λ (o : ℕ). is_some (early_form_in b t.reviews p o)) 26 in
    let opened = ap (λ (v : SeenTables). v.tables.stage.had_response) c.self.view_is in
    c.has_some.ensures
    ∙ some-same (has_label c.labels_before.result) (λ (o : ℕ). is_some (early_form_in true t.reviews p o))
    (λ o.
    c.labels_before.ensures.value o
    ∙ ap (λ (v : SeenTables). is_some (last_form_before v.tables.reviews p o Response)) c.self.view_is
    ∙ sym (is_some-option_map written_told (last_form_before t.reviews p o Response))) 26
    ∙ sym (ap early (sym opened ∙ sym c.had_response.ensures ∙ c.if-not-had_response.false))
