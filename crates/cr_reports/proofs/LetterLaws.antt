-- SPDX-License-Identifier: Apache-2.0 OR MIT
-- A form of the letter, by its parts.
use Rattle.std.proofs.Common.{ℕ, ◌≡◌, List, ◌++◌, append_assoc, Option, Some, None, sym, ap, ◌∙◌}
use Rattle.std.specs.Prelude.{codes, decimal}
use Rattle.cr_base.specs.declared.standing.Standing.{Standing}
use Rattle.cr_base.specs.History.{FormTold}
use Rattle.cr_base.specs.Labels.{by_labels, most_labels}
use Rattle.cr_base.specs.Reports.{decision_named_line, decision_word, letter_form, letter_told, line_end}
use Rattle.cr_base.specs.Reports.{paper_named_line, title_by}
use Rattle.cr_base.specs.Sources.{decision_by, facts_of_tables, shown_in_tables, standing_at}
use Rattle.cr_base.specs.Tables.{Tables}
use Rattle.cr_reports.specs.ReportLines.{form_grades, form_heading, forms_under}

-- five pieces behind others
five : {A : Type 0} (first a b c d e : List A) → first ++ (a ++ b ++ c ++ d ++ e) ≡ first ++ a ++ b ++ c ++ d ++ e
five {A} first a b c d e =
    sym (append_assoc first (a ++ b ++ c ++ d) e)
    ∙ ap (λ (l : List A). l ++ e)
    (sym (append_assoc first (a ++ b ++ c) d)
    ∙ ap (λ (l : List A). l ++ d)
    (sym (append_assoc first (a ++ b) c) ∙ ap (λ (l : List A). l ++ c) (sym (append_assoc first a b))))

form_is : (label : ℕ) (writer : Option (List ℕ)) (form : FormTold)
    → form_heading label writer ++ form_grades form ++ form.to_authors ++ line_end ≡ letter_form label writer form
unfolding form_heading form_grades letter_form
form_is label writer form =
    ap (λ (l : List ℕ). l ++ form.to_authors ++ line_end)
    (five (form_heading label writer) (codes "Score ") (decimal form.score) (codes ", confidence ")
    (decimal form.confidence) line_end)

pub form-appended : (label : ℕ) (writer : Option (List ℕ)) (form : FormTold) (start headed graded told text : List ℕ)
    → headed ≡ start ++ form_heading label writer → graded ≡ headed ++ form_grades form → told ≡ graded ++ text
    → text ≡ form.to_authors
    → told ++ line_end ≡ start ++ letter_form label writer form
form-appended label writer form start headed graded told text first second third is =
    let heading : List ℕ = form_heading label writer in
    let grades : List ℕ = form_grades form in
    ap (λ (l : List ℕ). l ++ line_end)
    (third
    ∙ ap (λ (l : List ℕ). graded ++ l) is
    ∙ ap (λ (l : List ℕ). l ++ form.to_authors)
    (second ∙ ap (λ (l : List ℕ). l ++ grades) first ∙ append_assoc start heading grades)
    ∙ append_assoc start (heading ++ grades) form.to_authors)
    ∙ append_assoc start (heading ++ grades ++ form.to_authors) line_end
    ∙ ap (λ (l : List ℕ). start ++ l) (form_is label writer form)

-- the letter, by its parts
pub letter-is : (t : Tables) (user p : ℕ) (start named decided title word : List ℕ) (by : Standing)
    → named ≡ start ++ paper_named_line p title → title ≡ title_by (shown_in_tables t) p
    → decided ≡ named ++ decision_named_line word
    → word ≡ decision_word (decision_by (facts_of_tables t None) (shown_in_tables t) p)
    → by ≡ standing_at t (Some user) (Some p)
    → decided ++ by_labels (forms_under t by p) most_labels ≡ start ++ letter_told (facts_of_tables t (Some user))
    (shown_in_tables t) p
letter-is t user p start named decided title word by first titled second worded stands =
    let forms : Standing → List ℕ = λ s. by_labels (forms_under t s p) most_labels in
    let all : List ℕ → List ℕ → Standing → List ℕ =
    λ a b s. start ++ (paper_named_line p a ++ decision_named_line b ++ forms s) in
    let here : List ℕ = title_by (shown_in_tables t) p in
    let told : List ℕ = decision_word (decision_by (facts_of_tables t None) (shown_in_tables t) p) in
    ap (λ (l : List ℕ). l ++ forms by) (second ∙ ap (λ (l : List ℕ). l ++ decision_named_line word) first)
    ∙ ap (λ (l : List ℕ). l ++ forms by) (append_assoc start (paper_named_line p title) (decision_named_line word))
    ∙ append_assoc start (paper_named_line p title ++ decision_named_line word) (forms by)
    ∙ ap (λ (x : List ℕ). all x word by) titled
    ∙ ap (λ (x : List ℕ). all here x by) worded
    ∙ ap (λ (s : Standing). all here told s) stands
