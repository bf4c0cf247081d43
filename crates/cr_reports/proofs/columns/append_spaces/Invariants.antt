-- SPDX-License-Identifier: Apache-2.0 OR MIT
use Rattle.std.proofs.Common.{◌≡◌, ◌++◌, replicate}
use Rattle.cr_reports.proofs.columns.append_spaces.Given as goal

abbrev pub invariant-loop : goal.invariant-loop
invariant-loop l = l.into.items ≡ l.initial.into.items ++ replicate l.counter 32
