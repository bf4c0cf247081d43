-- SPDX-License-Identifier: Apache-2.0 OR MIT
use Rattle.std.proofs.Common.{◌≡◌, ◌++◌, drop}
use Rattle.std.specs.Prelude.{map}
use Rattle.cr_base.specs.declared.pairs.Tie.{Tie}
use Rattle.cr_view.proofs.me.papers_of.Given as goal

abbrev pub invariant-loop-tie : goal.invariant-loop-tie
invariant-loop-tie g l =
    l.papers.items ++ map (λ (tie : Tie g.row.V.Denot). tie.pair.paper) (drop l.tie-index l.ties)
    ≡ map (λ (tie : Tie g.row.V.Denot). tie.pair.paper) l.ties
