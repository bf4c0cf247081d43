-- SPDX-License-Identifier: Apache-2.0 OR MIT
use Rattle.std.proofs.Common.{List, Some, ◌∙◌, ap}
use Rattle.std.specs.List.{list_any}
use Rattle.std.specs.Str.{bytes_eq}
use Rattle.cr_base.specs.declared.tag.SetTag.{SetTag}
use Rattle.cr_base.specs.Tags.{tags_for, tags_in}
use Rattle.cr_tags.specs.Seen.{SeenTags}
use Rattle.cr_tags.proofs.ForLaws.{any-for}
use Rattle.cr_tags.proofs.tags.Tags.has_for.Goals as goal

pub returns-clause-value : goal.returns-clause-value
returns-clause-value g c =
    let user = Some c.args.user in
    let chair = c.args.chair in
    let tag = c.args.tag.now in
    c.has_it_for.ensures
    ∙ any-for user chair tag c.of_paper.result.now
    ∙ ap (λ (ts : List SetTag). list_any (bytes_eq tag) (tags_for user chair ts)) c.of_paper.ensures.values
    ∙ ap (λ (s : SeenTags). list_any (bytes_eq tag) (tags_in s.tags user chair c.args.paper)) c.self.view_is
