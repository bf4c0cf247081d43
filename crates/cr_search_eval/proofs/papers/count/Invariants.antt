-- SPDX-License-Identifier: Apache-2.0 OR MIT
use Rattle.std.proofs.Common.{ℕ, ◌≡◌, ◌≤◌, ◌++◌, List, drop, length, map}
use Rattle.cr_base.specs.Papers.{paper_numbers}
use Rattle.cr_search_eval.specs.Found.{found_of, papers_found}
use Rattle.cr_search_eval.proofs.papers.count.Given as goal

abbrev pub invariant-loop-before : goal.invariant-loop-before
invariant-loop-before l =
    (found : List ℕ) × (length found ≡ l.count) × (l.count ≤ l.before)
    × (found
    ++ map (λ (p : ℕ). p)
    (found_of l.live.tables l.user l.search (drop l.before (paper_numbers l.live.tables.papers)))
    ≡ map (λ (p : ℕ). p) (papers_found l.live.tables l.user l.search))
