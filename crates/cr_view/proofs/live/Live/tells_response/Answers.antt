-- SPDX-License-Identifier: Apache-2.0 OR MIT
use Rattle.std.proofs.Common.{ℕ, Bool, Result, Some, None, ◌==◌, ◌∙◌, ap, []}
use Rattle.std.specs.Prelude.{is_ok, is_some, unwrap_or}
use Rattle.std.specs.List.{list_any}
use Rattle.cr_base.specs.declared.reply.Rule.{Rule}
use Rattle.cr_base.specs.declared.standing.Standing.{Standing}
use Rattle.cr_base.specs.Checks.{judged, of_there, response_checks}
use Rattle.cr_base.specs.Papers.{paper_numbers}
use Rattle.cr_base.specs.Sources.{facts_of_tables, has_paper}
use Rattle.cr_base.specs.Talk.{response_in}
use Rattle.cr_view.specs.Seen.{SeenTables}
use Rattle.cr_view.proofs.FieldLaws.{response-told, some-copied}
use Rattle.cr_view.proofs.live.Live.tells_response.Goals as goal

pub returns : goal.returns
returns c =
    let t = c.args.self.now.tables in
    let by = c.args.facts.now.by in
    let p : ℕ = c.args.facts.now.paper in
    let here = has_paper (facts_of_tables t None) (Some p) in
    let there =
    c.has.ensures
    ∙ ap (λ (v : SeenTables). list_any (λ (q : ℕ). q == c.paper-paper.result) (paper_numbers v.tables.papers))
    c.self.view_is
    ∙ ap (λ (n : ℕ). list_any (λ (q : ℕ). q == n) (paper_numbers t.papers)) c.paper-paper.ensures in
    let responded = c.is_some-responded.ensures ∙ some-copied c.response.result ∙ ap is_some c.response.ensures.response
    ∙ ap (λ (v : SeenTables). is_some (response_in v.tables.talk c.paper-paper.result)) c.self.view_is
    ∙ ap (λ (n : ℕ). is_some (response_in t.talk n)) c.paper-paper.ensures in
    let asked = λ (s : Standing) (b d : Bool). judged (response_checks s (of_there b) d) (tt {0}) in
    c.is_ok.ensures.value
    ∙ ap (λ (r : Result (Unit {0}) Rule). is_ok r)
    (c.response_rule.ensures
    ∙ ap (λ (s : Standing). asked s c.has.result c.is_some-responded.result) c.by.ensures
    ∙ ap (λ (b : Bool). asked by b c.is_some-responded.result) there
    ∙ ap (asked by here) responded)
    ∙ response-told (response_checks by (of_there here) (is_some (response_in t.talk p)))
    (unwrap_or (response_in t.talk p) [])
