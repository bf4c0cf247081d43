-- SPDX-License-Identifier: Apache-2.0 OR MIT
use Rattle.std.proofs.Common.{◌∙◌, ap, sym, length, length-append, arith, Err}
use Rattle.cr_base.specs.declared.bulk.Broken.{Broken}
use Rattle.cr_base.specs.History.{History}
use Rattle.cr_judge.specs.Rows.{group_or_rule}
use Rattle.cr_book.specs.BulkRows.{row_judged_behind}
use Rattle.cr_book.proofs.JudgingLaws.{index-more, index-broken, index-all, next-earlier}
use Rattle.cr_book.proofs.judging.judge_rows.Goals as goal

pub returns-in-Err-clause-broken : goal.returns-in-Err-clause-broken
returns-in-Err-clause-broken c =
    index-broken c.args.live.now.tables c.args.stamp.now c.loop-i.i c.args.rows.now c.index-rows-i.result
    c.loop-i.entries.items c.in-Err.rule c.loop-i-test.true (sym c.index-rows-i.is) c.loop-i.invariant.so
    (c.in-Err.ensures.judged
    ∙ ap
    (λ (h : History). group_or_rule (row_judged_behind c.args.live.now.tables h c.args.stamp.now
    c.index-rows-i.result)) c.deref.ensures.value)
    ∙ ap (λ (b : Broken). Err b) (sym c.row_broken.ensures)

pub loop-i-preserved : goal.loop-i-preserved
loop-i-preserved c =
    let t = c.args.live.now.tables in
    let i = c.loop-i.i in
    let count = c.loop-i.invariant.count in
    let pushed = c.push_reserved.ensures.items in
    let more = ap length pushed ∙ length-append c.loop-i.entries.items _ in
    let room = c.loop-i.invariant.room in
    let same = c.push_reserved.ensures.capacity in
    record {
      so = index-more t c.args.stamp.now i c.args.rows.now c.index-rows-i.result c.loop-i.entries.items
          c.push_reserved.new.self.items c.in-Ok.entry c.loop-i-test.true (sym c.index-rows-i.is) c.loop-i.invariant.so
          (c.in-Ok.ensures.judged
          ∙ ap (λ (h : History). group_or_rule (row_judged_behind t h c.args.stamp.now c.index-rows-i.result))
          c.deref.ensures.value)
          pushed
          (next-earlier t c.args.stamp.now c.in-Ok.entry c.deref.result.now c.loop-i.entries.items c.deref.ensures.value
          c.in-Ok.ensures.next _);
      count = omega (arith, more, count);
      room = omega (arith, room, same);
    }

pub returns-clause-group : goal.returns-clause-group
returns-clause-group c =
    (index-all c.args.live.now.tables c.args.stamp.now c.loop-i.i c.args.rows.now c.loop-i.entries.items
    c.loop-i-test.false c.loop-i.invariant.so).0

pub returns-clause-accepted : goal.returns-clause-accepted
returns-clause-accepted c =
    (index-all c.args.live.now.tables c.args.stamp.now c.loop-i.i c.args.rows.now c.loop-i.entries.items
    c.loop-i-test.false c.loop-i.invariant.so).1
