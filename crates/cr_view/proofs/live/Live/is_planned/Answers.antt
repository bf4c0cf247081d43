-- SPDX-License-Identifier: Apache-2.0 OR MIT
use Rattle.std.proofs.Common.{ℕ, ◌≡◌, ◌+◌, ◌&&◌, ◌∙◌, ap}
use Rattle.std.specs.Prelude.{nat_le, not}
use Rattle.cr_base.specs.Papers.{is_withdrawn_at}
use Rattle.cr_base.specs.Seats.{labels_in}
use Rattle.cr_view.specs.Seen.{SeenTables}
use Rattle.cr_view.proofs.live.Live.is_planned.Goals as goal

pub returns : goal.returns
returns c =
    let gone : c.is_withdrawn-withdrawn.result ≡ is_withdrawn_at c.args.self.now.tables.papers c.args.paper =
    c.is_withdrawn-withdrawn.ensures.value ∙ ap (λ (v : SeenTables). is_withdrawn_at v.tables.papers c.args.paper)
    c.self.view_is in
    let drawn : c.labels_drawn-drawn.result ≡ labels_in c.args.self.now.tables.seats c.args.paper =
    c.labels_drawn-drawn.ensures.value ∙ ap (λ (v : SeenTables). labels_in v.tables.seats c.args.paper)
    c.self.view_is in
    let left = c.has_labels_left.ensures ∙ ap (λ (n : ℕ). nat_le (n + c.args.per_paper) 26) drawn in
    c.is_open_for.ensures ∙ (λ i. not (c.is_in_conflict-conflicted.ensures i) && not (gone i) && left i)
