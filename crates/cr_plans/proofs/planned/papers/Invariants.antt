-- SPDX-License-Identifier: Apache-2.0 OR MIT
use Rattle.std.proofs.Common.{ℕ, ◌≡◌, ◌++◌, drop, map}
use Rattle.std.specs.Prelude.{filter}
use Rattle.cr_base.specs.Papers.{paper_numbers}
use Rattle.cr_view.specs.Plans.{is_planned_in}
use Rattle.cr_plans.proofs.planned.papers.Given as goal

abbrev pub invariant-loop-before : goal.invariant-loop-before
invariant-loop-before l =
    l.papers.items ++ map (λ (p : ℕ). p) (filter (is_planned_in l.live.tables l.user l.fn.per_paper)
    (drop l.before (paper_numbers l.live.tables.papers)))
    ≡ map (λ (p : ℕ). p) (filter (is_planned_in l.live.tables l.user l.fn.per_paper)
    (paper_numbers l.live.tables.papers))
