-- SPDX-License-Identifier: Apache-2.0 OR MIT
use Rattle.std.proofs.Common.{ℕ, Bool, List, Some, None, ◌==◌, ◌∙◌, ap, sym}
use Rattle.std.specs.Prelude.{not}
use Rattle.std.specs.List.{list_any}
use Rattle.cr_base.specs.declared.review.ReviewLine.{ReviewLine}
use Rattle.cr_base.specs.declared.standing.Standing.{Standing}
use Rattle.cr_base.specs.Checks.{judged, of_there, reviews_checks}
use Rattle.cr_base.specs.Lists.{is_nothing}
use Rattle.cr_base.specs.Papers.{paper_numbers}
use Rattle.cr_base.specs.Sources.{facts_of_tables, has_paper}
use Rattle.cr_view.specs.Reviews.{reviews_at}
use Rattle.cr_view.specs.Seen.{SeenTables}
use Rattle.cr_view.proofs.FieldLaws.{reviews-answered-all, reviews-answered-none}
use Rattle.cr_view.proofs.live.Live.tells_review.Goals as goal

pub returns-in-Ok : goal.returns-in-Ok
returns-in-Ok c =
    let t = c.args.self.now.tables in
    let by = c.args.facts.now.by in
    let p : ℕ = c.args.facts.now.paper in
    let here = has_paper (facts_of_tables t None) (Some p) in
    let there =
    c.has.ensures ∙ ap (λ (v : SeenTables). list_any (λ (q : ℕ). q == c.paper.result) (paper_numbers v.tables.papers))
    c.self.view_is
    ∙ ap (λ (n : ℕ). list_any (λ (q : ℕ). q == n) (paper_numbers t.papers)) c.paper.ensures in
    let opened = c.had_response-opened.ensures ∙ ap (λ (v : SeenTables). v.tables.stage.had_response) c.self.view_is in
    c.has_review.ensures
    ∙ sym
    (ap (λ (lines : List ReviewLine). not (is_nothing lines))
    (reviews-answered-all (reviews_checks by t.stage.had_response (of_there here)) (reviews_at t c.args.user.now by p)
    (c.in-Ok.ensures
    ∙ ap (λ (b : Bool). judged (reviews_checks c.by.result.now c.had_response-opened.result (of_there b)) tt) there
    ∙ ap (λ (b : Bool). judged (reviews_checks c.by.result.now b (of_there here)) tt) opened
    ∙ ap (λ (s : Standing). judged (reviews_checks s t.stage.had_response (of_there here)) tt) c.by.ensures)))

pub returns-in-Err : goal.returns-in-Err
returns-in-Err c =
    let t = c.args.self.now.tables in
    let by = c.args.facts.now.by in
    let p : ℕ = c.args.facts.now.paper in
    let here = has_paper (facts_of_tables t None) (Some p) in
    let there =
    c.has.ensures ∙ ap (λ (v : SeenTables). list_any (λ (q : ℕ). q == c.paper.result) (paper_numbers v.tables.papers))
    c.self.view_is
    ∙ ap (λ (n : ℕ). list_any (λ (q : ℕ). q == n) (paper_numbers t.papers)) c.paper.ensures in
    let opened = c.had_response-opened.ensures ∙ ap (λ (v : SeenTables). v.tables.stage.had_response) c.self.view_is in
    sym
    (ap (λ (lines : List ReviewLine). not (is_nothing lines))
    (reviews-answered-none (reviews_checks by t.stage.had_response (of_there here)) (reviews_at t c.args.user.now by p)
    c.in-Err.field-0
    (c.in-Err.ensures
    ∙ ap (λ (b : Bool). judged (reviews_checks c.by.result.now c.had_response-opened.result (of_there b)) tt) there
    ∙ ap (λ (b : Bool). judged (reviews_checks c.by.result.now b (of_there here)) tt) opened
    ∙ ap (λ (s : Standing). judged (reviews_checks s t.stage.had_response (of_there here)) tt) c.by.ensures)))
