-- SPDX-License-Identifier: Apache-2.0 OR MIT
use Rattle.std.proofs.Common.{ℕ, Some, ◌≡◌, ◌++◌, drop}
use Rattle.std.specs.Prelude.{map, filter, not}
use Rattle.cr_base.specs.declared.pairs.Tie.{Tie}
use Rattle.cr_base.specs.Ties.{is_author_in}
use Rattle.cr_view.proofs.live.Live.others.Given as goal

abbrev pub invariant-loop-tie : goal.invariant-loop-tie
invariant-loop-tie l = l.papers.items ++ filter
    (λ (paper : ℕ). not (is_author_in l.self.tables.ties (Some l.user) paper))
    (map (λ (tie : Tie (Unit {0})). tie.pair.paper) (drop l.tie-index l.ties))
    ≡ filter (λ (paper : ℕ). not (is_author_in l.self.tables.ties (Some l.user) paper))
    (map (λ (tie : Tie (Unit {0})). tie.pair.paper) l.ties)
