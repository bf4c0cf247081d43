-- SPDX-License-Identifier: Apache-2.0 OR MIT
use Rattle.std.proofs.Common.{◌∙◌, ap}
use Rattle.cr_base.specs.Reviews.{is_written_in}
use Rattle.cr_reviews.specs.Labels.{has_label}
use Rattle.cr_view.specs.Seen.{SeenTables}
use Rattle.cr_view.proofs.FieldLaws.{some-same}
use Rattle.cr_view.proofs.live.Live.has_any_form.Goals as goal

pub returns : goal.returns
returns c =
    let p = c.args.paper in
    c.has_some.ensures
    ∙ some-same (has_label c.labels.result) (is_written_in c.args.self.now.tables.reviews p)
    (λ o. c.labels.ensures.value o ∙ ap (λ (v : SeenTables). is_written_in v.tables.reviews p o) c.self.view_is) 26
