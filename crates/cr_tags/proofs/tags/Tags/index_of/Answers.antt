-- SPDX-License-Identifier: Apache-2.0 OR MIT
use Rattle.std.proofs.Common.{rules, ◌≡◌}
use Rattle.std.proofs.lemmas.Fn.{always_returns_same}
use Rattle.cr_base.specs.declared.tag.SetTag.{SetTag}
use Rattle.cr_base.specs.Tags.{tag_order}
use Rattle.cr_tags.proofs.BinarySearchLaws.{searched}
use Rattle.cr_tags.proofs.PaperTags.{sorted-of}
use Rattle.cr_tags.proofs.tags.Tags.index_of.Goals as goal

pub returns : goal.returns
returns c =
    let t = c.args.tag.now in
    let facts = c.binary_search_by.ensures in
    let by = facts.position (λ (s : SetTag). tag_order s t)
    (always_returns_same _ (λ a r. r ≡ tag_order a.0.now t) _ (λ a r f called. search rules)) in
    let sorted = sorted-of c.args.paper c.self.inside.tags.files c.self.invariant in
    rw (← c.self.view_is, ← c.of_paper.ensures.values)
    (searched t c.of_paper.result.now c.binary_search_by.result (rw c.of_paper.ensures.values sorted) facts.bound by)
