-- SPDX-License-Identifier: Apache-2.0 OR MIT
use Rattle.std.proofs.Common.{◌≡◌, ◌∙◌, None, arith}
use Rattle.cr_http.specs.Buffer.{text_of}
use Rattle.cr_http.specs.Filling.{NeedsHead}
use Rattle.cr_http.specs.HeadRange.{head_at}
use Rattle.cr_http.proofs.Moving.{moves_on, reads_once}
use Rattle.cr_http.proofs.Searching.{found_there, stands_on}
use Rattle.cr_http.proofs.fill.fill_head.Goals as goal

pub returns-in-Found-clause-finds : goal.returns-in-Found-clause-finds
returns-in-Found-clause-finds g c =
    let seen = rw (c.window.ensures, c.as_slice.ensures) at c.in-Found.ensures in
    found_there (text_of c.reading.buffer) c.reading.search c.reading.invariant.there ∙ seen

pub returns-then-len-ge-WINDOW-clause-finds : goal.returns-then-len-ge-WINDOW-clause-finds
returns-then-len-ge-WINDOW-clause-finds g c =
    let seen = rw (c.window.ensures, c.as_slice.ensures) at c.in-NotYet.ensures in
    (found_there (text_of c.reading.buffer) c.reading.search c.reading.invariant.there ∙ seen.0, omega arith)

pub reading-preserved : goal.reading-preserved
reading-preserved g c =
    let seen = rw (c.window.ensures, c.as_slice.ensures) at c.in-NotYet.ensures in
    let moves = c.in-Grew.ensures.moves in
    let none : head_at (text_of c.reading.buffer) ≡ None =
    found_there (text_of c.reading.buffer) c.reading.search c.reading.invariant.there ∙ seen.0 in
    let needs : NeedsHead (text_of c.reading.buffer) = (none, omega arith) in
    record {
      moves = moves_on _ _ _ _ _ _ c.reading.invariant.moves moves;
      needed = reads_once _ _ NeedsHead _ _ _ _ _ _ c.reading.invariant.moves needs c.reading.invariant.needed
          c.in-Grew.ensures.once;
      there =
          rw moves.kept (stands_on (text_of c.reading.buffer) moves.got c.reading.search c.in-NotYet.next
          c.reading.invariant.there seen.1);
      count = omega arith;
      steady = c.in-Grew.ensures.steady (λ is. cc) ∙ c.reading.invariant.steady;
    }

pub returns-in-Ended-clause-moves : goal.returns-in-Ended-clause-moves
returns-in-Ended-clause-moves g c = moves_on _ _ _ _ _ _ c.reading.invariant.moves c.in-Ended.ensures.moves

pub returns-in-Failed-clause-moves : goal.returns-in-Failed-clause-moves
returns-in-Failed-clause-moves g c = moves_on _ _ _ _ _ _ c.reading.invariant.moves c.in-Failed.ensures.moves

pub returns-in-OutOfMemory-clause-moves : goal.returns-in-OutOfMemory-clause-moves
returns-in-OutOfMemory-clause-moves g c = moves_on _ _ _ _ _ _ c.reading.invariant.moves c.in-OutOfMemory.ensures.moves

pub returns-in-Ended-clause-needed : goal.returns-in-Ended-clause-needed
returns-in-Ended-clause-needed g c =
    let seen = rw (c.window.ensures, c.as_slice.ensures) at c.in-NotYet.ensures in
    let none : head_at (text_of c.reading.buffer) ≡ None =
    found_there (text_of c.reading.buffer) c.reading.search c.reading.invariant.there ∙ seen.0 in
    reads_once _ _ NeedsHead _ _ _ _ _ _ c.reading.invariant.moves (none, omega arith) c.reading.invariant.needed
    c.in-Ended.ensures.once

pub returns-in-Failed-clause-needed : goal.returns-in-Failed-clause-needed
returns-in-Failed-clause-needed g c =
    let seen = rw (c.window.ensures, c.as_slice.ensures) at c.in-NotYet.ensures in
    let none : head_at (text_of c.reading.buffer) ≡ None =
    found_there (text_of c.reading.buffer) c.reading.search c.reading.invariant.there ∙ seen.0 in
    reads_once _ _ NeedsHead _ _ _ _ _ _ c.reading.invariant.moves (none, omega arith) c.reading.invariant.needed
    c.in-Failed.ensures.once

pub returns-in-OutOfMemory-clause-needed : goal.returns-in-OutOfMemory-clause-needed
returns-in-OutOfMemory-clause-needed g c =
    let seen = rw (c.window.ensures, c.as_slice.ensures) at c.in-NotYet.ensures in
    let none : head_at (text_of c.reading.buffer) ≡ None =
    found_there (text_of c.reading.buffer) c.reading.search c.reading.invariant.there ∙ seen.0 in
    reads_once _ _ NeedsHead _ _ _ _ _ _ c.reading.invariant.moves (none, omega arith) c.reading.invariant.needed
    c.in-OutOfMemory.ensures.once
