-- SPDX-License-Identifier: Apache-2.0 OR MIT
use Rattle.std.proofs.Common.{ℕ, Bool, ◌∙◌, Some, ap, sym}
use Rattle.std.specs.Prelude.{is_some}
use Rattle.std.specs.Option.{option_map}
use Rattle.cr_base.specs.History.{Upload}
use Rattle.cr_base.specs.Lists.{last}
use Rattle.cr_base.specs.declared.standing.Standing.{Standing}
use Rattle.cr_base.specs.Page.{gets_versions, where_told}
use Rattle.cr_base.specs.Papers.{uploads_at}
use Rattle.cr_view.specs.Fields.{tells_some}
use Rattle.cr_view.specs.PaperSeen.{accepted_seen}
use Rattle.cr_view.specs.Replies.{versions_at}
use Rattle.cr_view.specs.Seen.{SeenTables}
use Rattle.cr_view.proofs.FieldLaws.{some-version}
use Rattle.cr_view.proofs.live.Live.tells_version.Goals as goal

pub returns-then-gets_versions : goal.returns-then-gets_versions
returns-then-gets_versions c =
    let t = c.args.self.now.tables in
    let p : ℕ = c.args.facts.now.paper in
    let author : Bool = c.args.facts.now.by.author in
    c.is_some.ensures
    ∙ ap is_some c.last_version.ensures.value
    ∙ ap
    (λ (v : SeenTables). is_some (option_map (λ (u : Upload). u.version)
    (last (uploads_at v.tables.papers c.paper.result)))) c.self.view_is
    ∙ ap (λ (n : ℕ). is_some (option_map (λ (u : Upload). u.version) (last (uploads_at t.papers n)))) c.paper.ensures
    ∙ some-version author (uploads_at t.papers p)
    ∙ sym (ap (λ (b : Bool). tells_some (where_told b (Some (versions_at t author p))))
    (ap (λ (s : Standing). gets_versions s (accepted_seen c.args.facts.now)) (sym c.by.ensures)
    ∙ ap (gets_versions c.by.result.now) (sym c.is_accepted.ensures) ∙ sym c.gets_versions.ensures
    ∙ c.if-gets_versions.true))
