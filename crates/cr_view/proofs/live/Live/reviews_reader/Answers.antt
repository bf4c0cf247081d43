-- SPDX-License-Identifier: Apache-2.0 OR MIT
use Rattle.std.proofs.Common.{Bool, Ok, Err, ◌∙◌, ap}
use Rattle.cr_base.specs.declared.standing.Standing.{Standing}
use Rattle.cr_base.specs.Checks.{judged, of_there, reviews_checks}
use Rattle.cr_base.specs.Sources.{facts_of_tables, has_paper, standing_at}
use Rattle.cr_view.specs.Seen.{SeenTables}
use Rattle.cr_view.proofs.FieldLaws.{ruled}
use Rattle.cr_view.proofs.live.Live.reviews_reader.Goals as goal

pub returns-in-Ok : goal.returns-in-Ok
returns-in-Ok c =
    let t = c.args.self.now.tables in
    let u = c.args.user.now in
    let paper = c.args.paper.now in
    let opened = c.had_response.ensures ∙ ap (λ (v : SeenTables). v.tables.stage.had_response) c.self.view_is in
    ruled (λ (by : Standing) (there : Bool). reviews_checks by t.stage.had_response (of_there there))
    c.standing-by.result (standing_at t u paper)
    c.has_paper.result (has_paper (facts_of_tables t u) paper) (Ok tt) c.standing-by.ensures c.has_paper.ensures
    (c.in-Ok.ensures
    ∙ ap (λ (b : Bool). judged (reviews_checks c.standing-by.result b (of_there c.has_paper.result)) tt) opened)

pub returns-in-Err : goal.returns-in-Err
returns-in-Err c =
    let t = c.args.self.now.tables in
    let u = c.args.user.now in
    let paper = c.args.paper.now in
    let opened = c.had_response.ensures ∙ ap (λ (v : SeenTables). v.tables.stage.had_response) c.self.view_is in
    ruled (λ (by : Standing) (there : Bool). reviews_checks by t.stage.had_response (of_there there))
    c.standing-by.result (standing_at t u paper)
    c.has_paper.result (has_paper (facts_of_tables t u) paper) (Err c.in-Err.rule) c.standing-by.ensures
    c.has_paper.ensures
    (c.in-Err.ensures
    ∙ ap (λ (b : Bool). judged (reviews_checks c.standing-by.result b (of_there c.has_paper.result)) tt) opened)
