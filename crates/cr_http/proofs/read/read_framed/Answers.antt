-- SPDX-License-Identifier: Apache-2.0 OR MIT
use Rattle.std.proofs.Common.{arith, refl, inr}
use Rattle.cr_http.proofs.Answering.{reads_none}
use Rattle.cr_http.proofs.HeadsRead.{to_head_framed}
use Rattle.cr_http.proofs.Judging.{block_lies, body_cut, framed_moved, reads_body, request_kept}
use Rattle.cr_http.proofs.Windows.{head_at_bounds, head_at_end_le}
use Rattle.cr_http.specs.Buffer.{text_of}
use Rattle.cr_http.proofs.read.read_framed.Goals as goal

pub overflow_add-end : goal.overflow_add-end
overflow_add-end g c =
    let e = head_at_end_le (text_of c.args.buffer.now) (c.args.range.start, c.args.range.end) c.requires.range in
    let s = c.in-Framed.ensures.1 in
    omega (arith, e, s)

pub returns-in-Buffer-clause-reads : goal.returns-in-Buffer-clause-reads
returns-in-Buffer-clause-reads g c =
    let judged = rw c.as_slice.ensures at c.in-Framed.ensures in
    let f = c.in-Buffer.ensures.fills in
    reads_body _ _ _ _ _ _ _ _ _ _ _ _ _ _ _ judged.0 f
    (request_kept _ _ (text_of c.args.buffer.now) f.text _ c.judge_head.new.headers _ c.args.range c.in-Framed.spans
    c.in-Framed.len f.moves
    judged.0 judged.2 judged.1 c.requires.none.1 f.holds)

pub returns-in-Block-clause-reads : goal.returns-in-Block-clause-reads
returns-in-Block-clause-reads g c =
    let judged = rw c.as_slice.ensures at c.in-Framed.ensures in
    let f = c.in-Block.ensures.fills in
    reads_body _ _ _ _ _ _ _ _ _ _ _ _ _ _ _ judged.0 f
    (block_lies _ _ (text_of c.args.buffer.now) f.text _ _ c.judge_head.new.headers c.args.range c.in-Framed.spans
    c.in-Framed.len f.moves judged.0
    judged.2 judged.1 f.holds)

pub returns-in-Ended-clause-reads : goal.returns-in-Ended-clause-reads
returns-in-Ended-clause-reads g c =
    let judged = rw c.as_slice.ensures at c.in-Framed.ensures in
    let f = c.in-Ended.ensures.fills in
    reads_body _ _ _ _ _ _ _ _ _ _ _ _ _ _ _ judged.0 f (
      c.requires.none.0,
      f.holds.0,
      body_cut _ _ (text_of c.args.buffer.now) f.text c.args.range _ c.in-Framed.len
          f.moves judged.0 f.holds.1,
    )

pub returns-in-Failed-clause-reads : goal.returns-in-Failed-clause-reads
returns-in-Failed-clause-reads g c =
    let judged = rw c.as_slice.ensures at c.in-Framed.ensures in
    let f = c.in-Failed.ensures.fills in
    reads_body _ _ _ _ _ _ _ _ _ _ _ _ _ _ _ judged.0 f (
      c.requires.none.0,
      f.holds.0,
      inr (body_cut _ _ (text_of c.args.buffer.now) f.text c.args.range _ c.in-Framed.len f.moves judged.0 f.holds.1),
    )

pub returns-in-OutOfMemory-clause-reads : goal.returns-in-OutOfMemory-clause-reads
returns-in-OutOfMemory-clause-reads g c =
    let judged = rw c.as_slice.ensures at c.in-Framed.ensures in
    let f = c.in-OutOfMemory.ensures.fills in
    let framed = framed_moved _ _ (text_of c.args.buffer.now) f.text c.args.range.start c.args.range.end _
    c.in-Framed.len f.moves judged.0 in
    reads_body _ _ _ _ _ _ _ _ _ _ _ _ _ _ _ judged.0 f (
      c.requires.none.0,
      f.holds.0,
      inr (body_cut _ _ (text_of c.args.buffer.now) f.text c.args.range _ c.in-Framed.len f.moves judged.0 f.holds.1),
      to_head_framed f.text c.args.range.start c.args.range.end _ c.in-Framed.len c.in-Framed.is_head framed judged.3,
    )

pub fill_body-requires-clause-head : goal.fill_body-requires-clause-head
fill_body-requires-clause-head g c =
    (head_at_bounds (text_of c.args.buffer.now) (c.args.range.start, c.args.range.end) c.requires.range).1

pub returns-in-Refused-clause-reads : goal.returns-in-Refused-clause-reads
returns-in-Refused-clause-reads g c =
    let judged = rw c.as_slice.ensures at c.in-Refused.ensures in
    reads_none g.S.Source.left g.S.Source.read_gives c.args.source.now (text_of c.args.buffer.now) _ _ _ _
    (c.requires.none.0, refl, judged)
