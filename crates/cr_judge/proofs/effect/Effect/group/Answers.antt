-- SPDX-License-Identifier: Apache-2.0 OR MIT
use Rattle.std.proofs.Common.{◌∙◌, ◌++◌, ◌∷◌, [], ap, length, length-append, arith}
use Rattle.cr_base.specs.declared.entry.Stamped.{Stamped}
use Rattle.cr_judge.specs.Effects.{behind}
use Rattle.cr_judge.proofs.GroupLaws.{group-more, group-all}
use Rattle.cr_judge.proofs.effect.Effect.group.Goals as goal

pub loop-index-preserved : goal.loop-index-preserved
loop-index-preserved c =
    let pushed = c.push_reserved-in-loop-index.ensures.items in
    let more = ap length pushed ∙ length-append c.loop-index.group.items _ in
    let count = c.loop-index.invariant.count in
    let room = c.loop-index.invariant.room in
    let same = c.push_reserved-in-loop-index.ensures.capacity in
    record {
      so = group-more c.args.self.stamp c.args.self.first (behind c.args.self.rest) c.count-others.result
          c.count-others.ensures.value
          c.loop-index.index c.entry.result c.loop-index.group.items _ c.entry.ensures c.loop-index.invariant.so
          (pushed ∙ ap (λ (s : Stamped). c.loop-index.group.items ++ s ∷ []) c.stamped-in-loop-index.ensures);
      count = omega (arith, more, count);
      room = omega (arith, room, same);
    }

pub returns : goal.returns
returns c =
    group-all c.args.self.stamp c.args.self.first (behind c.args.self.rest) c.count-others.result
    c.count-others.ensures.value
    c.loop-index.index c.loop-index.group.items c.loop-index-test.false c.loop-index.invariant.so
