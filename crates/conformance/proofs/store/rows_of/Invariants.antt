-- SPDX-License-Identifier: Apache-2.0 OR MIT
use Rattle.std.proofs.Common.{◌≡◌}
use Rattle.conformance.proofs.store.rows_of.Given as goal

abbrev pub invariant-rows : goal.invariant-rows
invariant-rows g l = g.K.Keeper.kind l.keeper ≡ g.K.Keeper.kind l.fn.keeper
