-- SPDX-License-Identifier: Apache-2.0 OR MIT
use Rattle.std.proofs.Common.{◌≡◌, replicate}
use Rattle.cr_reports.specs.Loads.{no_load}
use Rattle.cr_reports.proofs.counting.no_loads.Given as goal

abbrev pub invariant-loop : goal.invariant-loop
invariant-loop l = l.loads.items ≡ replicate l.counter no_load
