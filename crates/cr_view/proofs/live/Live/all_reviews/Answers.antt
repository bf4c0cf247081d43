-- SPDX-License-Identifier: Apache-2.0 OR MIT
use Rattle.std.proofs.Common.{ℕ, List, ◌++◌, ◌∙◌, ap, sym, arith}
use Rattle.std.proofs.lemmas.List.{append-nil}
use Rattle.cr_base.specs.declared.review.ReviewLine.{ReviewLine}
use Rattle.cr_base.specs.Reviews.{is_written_in}
use Rattle.cr_view.specs.Reviews.{label_reviews}
use Rattle.cr_view.specs.Seen.{SeenTables}
use Rattle.cr_view.proofs.ReviewLaws.{label-unwritten, labels-step, labels-all}
use Rattle.cr_view.proofs.live.Live.all_reviews.Goals as goal
use Rattle.cr_view.proofs.live.Live.all_reviews.Goals.{then-has+in_ok-push_label, else-has}

pub loop-before-preserved : goal.loop-before-preserved
loop-before-preserved c =
    let t = c.args.self.now.tables in
    let by = c.args.by.now in
    let p : ℕ = c.args.paper in
    let o : ℕ = c.new-label.result in
    let told : ℕ → List ReviewLine = label_reviews t by p in
    let before : List ReviewLine = c.loop-before.lines.items in
    let has =
    c.labels-written.ensures.value o ∙ ap (λ (v : SeenTables). is_written_in v.tables.reviews p o) c.self.view_is in
    elim c.if-has.branch [
      | then-has+in_ok-push_label w ↦
          labels-step told c.loop-before.before before _ c.loop-before.invariant
          (ap (λ v. v.items) w.lines-is ∙ w.in_ok-push_label.ensures
          ∙ ap (λ (n : ℕ). before ++ told n) c.new-label.ensures)
      | else-has w ↦
          labels-step told c.loop-before.before before _ c.loop-before.invariant
          (ap (λ v. v.items) w.lines-is ∙ sym (append-nil before)
          ∙ ap (λ (l : List ReviewLine). before ++ l)
          (label-unwritten t by p o (sym has ∙ sym c.has.ensures ∙ w.if-has.false) ∙ ap told c.new-label.ensures))
    ]

pub returns : goal.returns
returns c =
    let told : ℕ → List ReviewLine = label_reviews c.args.self.now.tables c.args.by.now c.args.paper in
    c.from_vec.ensures ∙ labels-all told c.loop-before.before _ c.loop-before.invariant (omega arith) (omega arith)
