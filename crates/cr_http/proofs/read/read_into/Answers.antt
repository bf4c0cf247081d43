-- SPDX-License-Identifier: Apache-2.0 OR MIT
use Rattle.std.proofs.Common.{refl, length}
use Rattle.std.proofs.lemmas.Bool.{lt-ltb}
use Rattle.cr_http.specs.Buffer.{text_of}
use Rattle.cr_http.proofs.Answering.{ends_lie, reads_all, reads_into_on}
use Rattle.cr_http.proofs.Judging.{full_stands, head_needed, is_full, no_head_to, short_stands}
use Rattle.cr_http.proofs.read.read_into.Goals as goal

pub returns-in-Found-clause-reads : goal.returns-in-Found-clause-reads
returns-in-Found-clause-reads g c =
    reads_into_on _ _ _ _ _ _ _ _ _ _ _ _ c.in-Found.ensures.moves (head_needed _ _ _ _ _ _ c.in-Found.ensures.needed)
    c.read_framed.ensures.reads

pub returns-in-Full-clause-reads : goal.returns-in-Full-clause-reads
returns-in-Full-clause-reads g c =
    reads_all _ _ _ _ _ _ _ _ _ _ c.in-Full.ensures.moves (head_needed _ _ _ _ _ _ c.in-Full.ensures.needed) (
      c.requires.none.0,
      refl,
      full_stands (text_of c.fill_head.new.buffer) c.in-Full.ensures.finds.0
          (is_full 16384 (length (text_of c.fill_head.new.buffer)) c.in-Full.ensures.finds.1),
    )

pub returns-in-Failed-clause-reads : goal.returns-in-Failed-clause-reads
returns-in-Failed-clause-reads g c =
    reads_all _ _ _ _ _ _ _ _ _ _ c.in-Failed.ensures.moves (head_needed _ _ _ _ _ _ c.in-Failed.ensures.needed) (
      c.requires.none.0,
      refl,
      short_stands (text_of c.fill_head.new.buffer) c.in-Failed.ensures.finds.0
          (lt-ltb (length (text_of c.fill_head.new.buffer)) 16384 c.in-Failed.ensures.finds.1),
    )

pub returns-in-OutOfMemory-clause-reads : goal.returns-in-OutOfMemory-clause-reads
returns-in-OutOfMemory-clause-reads g c =
    reads_all _ _ _ _ _ _ _ _ _ _ c.in-OutOfMemory.ensures.moves
    (head_needed _ _ _ _ _ _ c.in-OutOfMemory.ensures.needed) (
      c.requires.none.0,
      refl,
      short_stands (text_of c.fill_head.new.buffer) c.in-OutOfMemory.ensures.finds.0
          (lt-ltb (length (text_of c.fill_head.new.buffer)) 16384 c.in-OutOfMemory.ensures.finds.1),
      no_head_to (text_of c.fill_head.new.buffer) c.in-OutOfMemory.ensures.finds.0,
    )

pub returns-in-Ended-clause-reads : goal.returns-in-Ended-clause-reads
returns-in-Ended-clause-reads g c =
    reads_all _ _ _ _ _ _ _ _ _ _ c.in-Ended.ensures.moves (head_needed _ _ _ _ _ _ c.in-Ended.ensures.needed)
    (ends_lie c.at_end.result (text_of c.fill_head.new.buffer) _ _ _ c.requires.none.0 c.at_end.ensures.either
    (rw c.as_slice.ensures at c.at_end.ensures.clean) (rw c.as_slice.ensures at c.at_end.ensures.cut))
