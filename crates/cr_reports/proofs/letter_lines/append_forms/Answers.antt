-- SPDX-License-Identifier: Apache-2.0 OR MIT
use Rattle.std.proofs.Common.{ℕ, List, ◌+◌, ◌++◌, ◌∙◌, append_assoc, ap, refl, arith}
use Rattle.cr_base.specs.Labels.{by_labels}
use Rattle.cr_view.proofs.ReviewLaws.{labels-step, labels-all}
use Rattle.cr_reports.specs.ReportLines.{forms_under}
use Rattle.cr_reports.proofs.letter_lines.append_forms.Goals as goal

pub loop-before-preserved : goal.loop-before-preserved
loop-before-preserved c =
    let told : ℕ → List ℕ = forms_under c.args.live.now.tables c.args.by.now c.args.paper in
    let i : ℕ = c.loop-before.before in
    let start : List ℕ = c.args.into.now.items in
    c.in_ok-append_label.ensures
    ∙ ap (λ (l : List ℕ). l ++ told c.new.result) c.loop-before.invariant
    ∙ append_assoc start (by_labels told i) (told c.new.result)
    ∙ ap (λ (l : List ℕ). start ++ l)
    (ap (λ (n : ℕ). by_labels told i ++ told n) c.new.ensures
    ∙ labels-step told i (by_labels told i) (by_labels told i ++ told (i + 1)) refl refl)

pub returns : goal.returns
returns c =
    let told : ℕ → List ℕ = forms_under c.args.live.now.tables c.args.by.now c.args.paper in
    c.loop-before.invariant
    ∙ ap (λ (l : List ℕ). c.args.into.now.items ++ l)
    (labels-all told c.loop-before.before (by_labels told c.loop-before.before) refl (omega arith) (omega arith))
