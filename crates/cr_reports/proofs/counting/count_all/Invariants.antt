-- SPDX-License-Identifier: Apache-2.0 OR MIT
use Rattle.std.proofs.Common.{◌≡◌, ◌*◌, length, replicate}
use Rattle.std.specs.Prelude.{fold}
use Rattle.cr_reports.specs.Loads.{AreFew, Becomes, no_load, with_clear}
use Rattle.cr_reports.proofs.WalkLaws.{first}
use Rattle.cr_reports.proofs.counting.count_all.Given as goal

abbrev pub invariant-loop-before : goal.invariant-loop-before
invariant-loop-before l =
    (length l.loads.items ≡ 10000)
    × Becomes (replicate 10000 no_load) l.loads.items
    (λ user load. fold (with_clear l.live.tables l.fn.caller user) load (first l.live.tables.papers.papers l.before))
    × AreFew (26 * l.before) l.loads.items
