-- SPDX-License-Identifier: Apache-2.0 OR MIT
use Rattle.std.proofs.Common.{ℕ, ◌≡◌, ◌∙◌, false, ap, subst, sym, arith}
use Rattle.cr_reviews.specs.Labels.{has_label}
use Rattle.cr_view.specs.Fields.{some_label}
use Rattle.cr_view.proofs.FieldLaws.{some-within, none-more}
use Rattle.cr_view.proofs.fields.has_some.Goals as goal

pub loop-before-preserved : goal.loop-before-preserved
loop-before-preserved c =
    let flags = c.args.labels.now in
    none-more (has_label flags) c.loop-before.before c.loop-before.invariant
    (sym (ap (has_label flags) c.new.ensures) ∙ sym c.has.ensures ∙ c.if-has.false)

pub returns-then-has : goal.returns-then-has
returns-then-has c =
    let flags = c.args.labels.now in
    sym
    (some-within (has_label flags) c.loop-before.before 26 (omega arith)
    (sym (ap (has_label flags) c.new.ensures) ∙ sym c.has.ensures ∙ c.if-has.true))

pub returns : goal.returns
returns c =
    let n : ℕ = c.loop-before.before in
    let end : n ≡ 26 = omega arith in
    sym (subst (λ (m : ℕ). some_label (has_label c.args.labels.now) m ≡ false) end c.loop-before.invariant)
