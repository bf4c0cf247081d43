-- SPDX-License-Identifier: Apache-2.0 OR MIT
use Rattle.std.proofs.Common.{ℕ, Bool, false, ◌≡◌, ◌&&◌, ◌||◌, ◌∙◌, ap, sym}
use Rattle.std.specs.Prelude.{is_some, not}
use Rattle.cr_base.specs.declared.standing.Standing.{Standing}
use Rattle.cr_base.specs.Checks.{reads_all_forms}
use Rattle.cr_base.specs.Phases.{authors_read_reviews}
use Rattle.cr_base.specs.Reviews.{early_form_in, is_written_in}
use Rattle.cr_view.specs.Fields.{some_label}
use Rattle.cr_view.proofs.FieldLaws.{some-early, some-reviews}
use Rattle.cr_view.proofs.live.Live.has_review.Goals as goal
use Rattle.cr_view.proofs.live.Live.has_review.Goals.{else-by-via-then-by+else-not-authors_read_reviews}
use Rattle.cr_view.proofs.live.Live.has_review.Goals.{else-by-via-else-by, then-by-2-via-then-by-2}
use Rattle.cr_view.proofs.live.Live.has_review.Goals.{then-by-2-via-else-by-2+then-reads_all_forms}

pub returns-then-not-authors_read_reviews : goal.returns-then-not-authors_read_reviews
returns-then-not-authors_read_reviews c =
    let t = c.args.self.now.tables in
    let facts = c.args.facts.now in
    let before : Bool = not (authors_read_reviews c.by-by.result.now.phase) in
    let asked = ap (λ (s : Standing). s.author && not (authors_read_reviews s.phase)) (sym c.by-by.ensures) in
    c.has_early_form.ensures
    ∙ ap (λ (n : ℕ). some_label (λ (o : ℕ). is_some (early_form_in t.stage.had_response t.reviews n o)) 26)
    c.paper.ensures
    ∙ some-early t c.args.user.now facts.by facts.paper
    (asked ∙ ap (λ (b : Bool). b && before) c.if-by.true
    ∙ ap not (sym c.authors_read_reviews.ensures ∙ c.if-not-authors_read_reviews.true))

pub returns-then-by-2 : goal.returns-then-by-2
returns-then-by-2 c =
    let t = c.args.self.now.tables in
    let facts = c.args.facts.now in
    let before : Bool = not (authors_read_reviews c.by-by.result.now.phase) in
    let late : Bool = reads_all_forms c.by-by.result.now in
    let past = ap (λ (s : Standing). s.author && not (authors_read_reviews s.phase)) (sym c.by-by.ensures) in
    let asked = ap (λ (s : Standing). s.author || reads_all_forms s) (sym c.by-by.ensures) in
    let end : (facts.by.author && not (authors_read_reviews facts.by.phase)) ≡ false = elim c.else-by.branch [
      | else-by-via-then-by+else-not-authors_read_reviews w ↦
          past ∙ ap (λ (b : Bool). b && before) w.if-by.true
          ∙ ap not (sym w.authors_read_reviews.ensures ∙ w.if-not-authors_read_reviews.false)
      | else-by-via-else-by w ↦ past ∙ ap (λ (b : Bool). b && before) w.if-by.false
    ] in
    c.has_any_form.ensures ∙ ap (λ (n : ℕ). some_label (is_written_in t.reviews n) 26) c.paper-then-by-2.ensures
    ∙ elim c.then-by-2.branch [
      | then-by-2-via-then-by-2 w ↦ some-reviews t c.args.user.now facts.by facts.paper end
          (asked ∙ ap (λ (b : Bool). b || late) w.if-by-2.true)
      | then-by-2-via-else-by-2+then-reads_all_forms w ↦
          some-reviews t c.args.user.now facts.by facts.paper end
          (asked ∙ ap (λ (b : Bool). b || late) w.if-by-2.false ∙ sym w.reads_all_forms.ensures
          ∙ w.if-reads_all_forms.true)
    ]
