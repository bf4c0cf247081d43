-- SPDX-License-Identifier: Apache-2.0 OR MIT
use Rattle.std.proofs.Common.{◌≡◌, ◌++◌, take, IfSome, IsTrue}
use Rattle.cr_base.specs.Rows.{rows_of}
use Rattle.cr_book.proofs.opening.read_rows.Given as goal

abbrev pub invariant-loop-i : goal.invariant-loop-i
invariant-loop-i g l =
    let rows = g.K.Keeper.rows in
    record {
      same : rows l.keeper ≡ rows l.fn.keeper;
      alike : g.K.Keeper.kind l.keeper ≡ g.K.Keeper.kind l.fn.keeper;
      still : IsTrue (g.K.Keeper.tells_stops l.fn.keeper) → l.keeper ≡ l.fn.keeper;
      steady : g.K.Keeper.faults l.keeper ≡ g.K.Keeper.faults l.fn.keeper;
      read : IfSome (rows l.fn.keeper) (λ told. rows_of l.reading.log ++ rows_of l.reading.begun ≡ take l.i told);
    }
