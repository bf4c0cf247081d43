-- SPDX-License-Identifier: Apache-2.0 OR MIT
use Rattle.std.proofs.Common.{true, ◌∙◌, sym, ap, subst}
use Rattle.cr_base.specs.declared.tag.SetTag.{SetTag}
use Rattle.cr_base.specs.Filed.{filed, filed_of}
use Rattle.cr_base.specs.Tags.{tag_switched}
use Rattle.cr_tags.specs.BinarySearch.{IsAt, IsGapFor}
use Rattle.cr_tags.specs.Seen.{SeenTags}
use Rattle.cr_tags.proofs.BinarySearchLaws.{replaced, inserted, sorted-after}
use Rattle.cr_tags.proofs.tags.Tags.insert.Goals as goal

pub invariant_of-self : goal.invariant_of-self
invariant_of-self c =
    let paper = c.args.paper in
    let t : SetTag = record { tag = c.args.tag; owner = c.args.owner } in
    let tags = c.self.inside.tags.files in
    let at =
    subst (λ (s : SeenTags). IsAt t (filed_of paper s.tags) c.in-Ok.index) (sym c.self.view_is) c.in-Ok.ensures in
    sorted-after true (filed paper t) tags c.change.new.self.files c.self.invariant
    (c.change.ensures.values ∙ replaced paper t tags c.in-Ok.index c.self.invariant at)

pub returns-in-Ok-clause-tags : goal.returns-in-Ok-clause-tags
returns-in-Ok-clause-tags c =
    let paper = c.args.paper in
    let t : SetTag = record { tag = c.args.tag; owner = c.args.owner } in
    let tags = c.self.inside.tags.files in
    let at =
    subst (λ (s : SeenTags). IsAt t (filed_of paper s.tags) c.in-Ok.index) (sym c.self.view_is) c.in-Ok.ensures in
    c.change.ensures.values ∙ replaced paper t tags c.in-Ok.index c.self.invariant at
    ∙ ap (λ (s : SeenTags). tag_switched true (filed paper t) s.tags) c.self.view_is

pub invariant_of-self-in-Err : goal.invariant_of-self-in-Err
invariant_of-self-in-Err c =
    let paper = c.args.paper in
    let t : SetTag = record { tag = c.args.tag; owner = c.args.owner } in
    let tags = c.self.inside.tags.files in
    let gap = subst (λ (s : SeenTags). IsGapFor t (filed_of paper s.tags) c.in-Err.index) (sym c.self.view_is)
    c.in-Err.ensures in
    sorted-after true (filed paper t) tags c.insert.new.self.files c.self.invariant
    (c.insert.ensures.values ∙ inserted paper t tags c.in-Err.index c.self.invariant gap)

pub returns-in-Err-clause-tags : goal.returns-in-Err-clause-tags
returns-in-Err-clause-tags c =
    let paper = c.args.paper in
    let t : SetTag = record { tag = c.args.tag; owner = c.args.owner } in
    let tags = c.self.inside.tags.files in
    let gap = subst (λ (s : SeenTags). IsGapFor t (filed_of paper s.tags) c.in-Err.index) (sym c.self.view_is)
    c.in-Err.ensures in
    c.insert.ensures.values ∙ inserted paper t tags c.in-Err.index c.self.invariant gap
    ∙ ap (λ (s : SeenTags). tag_switched true (filed paper t) s.tags) c.self.view_is
