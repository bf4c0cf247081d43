-- SPDX-License-Identifier: Apache-2.0 OR MIT
-- The dashes passed were read.
use Rattle.std.proofs.Common.{◌≡◌, ◌+◌, ◌*◌, ◌≤◌, drop}
use Rattle.cr_search_parse.specs.Grammar.{chunk_symbols}
use Rattle.cr_search_parse.specs.Reading.{State, after_symbols}
use Rattle.cr_search_parse.specs.Standing.{Stands, StandsForOne, weight}
use Rattle.cr_search_parse.proofs.reader.Reader.chunk.Given as goal

abbrev pub invariant-loop-i : goal.invariant-loop-i
invariant-loop-i l = record {
  stands : StandsForOne l.self;
  light : weight l.self ≤ weight l.fn.self + 2 * l.i;
  leads : (s : State) → Stands l.fn.self s
      → (t : State) × Stands l.self t
      × (after_symbols s (chunk_symbols l.text) ≡ after_symbols t (chunk_symbols (drop l.i l.text)));
}
