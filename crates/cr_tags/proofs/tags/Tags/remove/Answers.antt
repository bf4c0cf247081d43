-- SPDX-License-Identifier: Apache-2.0 OR MIT
use Rattle.std.proofs.Common.{false, ◌∙◌, sym, ap, subst}
use Rattle.cr_base.specs.declared.tag.SetTag.{SetTag}
use Rattle.cr_base.specs.Filed.{filed, filed_of}
use Rattle.cr_base.specs.Tags.{IsSortedState, tag_switched}
use Rattle.cr_tags.specs.BinarySearch.{IsAt}
use Rattle.cr_tags.specs.Seen.{SeenTags}
use Rattle.cr_tags.proofs.BinarySearchLaws.{removed, absent, sorted-after}
use Rattle.cr_tags.proofs.tags.Tags.remove.Goals as goal

pub invariant_of-self : goal.invariant_of-self
invariant_of-self c =
    let paper = c.args.paper in
    let t : SetTag = record { tag = c.args.tag; owner = c.args.owner } in
    let tags = c.self.inside.tags.files in
    let at =
    subst (λ (s : SeenTags). IsAt t (filed_of paper s.tags) c.in-Ok.index) (sym c.self.view_is) c.in-Ok.ensures in
    sorted-after false (filed paper t) tags c.remove.new.self.files c.self.invariant
    (c.remove.ensures.values ∙ removed paper t tags c.in-Ok.index c.self.invariant at)

pub returns-in-Ok-clause-tags : goal.returns-in-Ok-clause-tags
returns-in-Ok-clause-tags c =
    let paper = c.args.paper in
    let t : SetTag = record { tag = c.args.tag; owner = c.args.owner } in
    let tags = c.self.inside.tags.files in
    let at =
    subst (λ (s : SeenTags). IsAt t (filed_of paper s.tags) c.in-Ok.index) (sym c.self.view_is) c.in-Ok.ensures in
    c.remove.ensures.values ∙ removed paper t tags c.in-Ok.index c.self.invariant at
    ∙ ap (λ (s : SeenTags). tag_switched false (filed paper t) s.tags) c.self.view_is

pub returns-in_default-clause-tags : goal.returns-in_default-clause-tags
returns-in_default-clause-tags c =
    let t : SetTag = record { tag = c.args.tag; owner = c.args.owner } in
    let sorted = subst (λ (s : SeenTags). IsSortedState s.tags) c.self.view_is c.self.invariant in
    absent c.args.paper t c.args.self.now.tags _ sorted c.in_default.ensures
