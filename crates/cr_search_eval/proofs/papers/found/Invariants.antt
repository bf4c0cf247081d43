-- SPDX-License-Identifier: Apache-2.0 OR MIT
use Rattle.std.proofs.Common.{◌≡◌, ◌++◌, drop, map}
use Rattle.cr_search_eval.specs.Found.{titled}
use Rattle.cr_search_eval.proofs.papers.found.Given as goal

abbrev pub invariant-loop-paper : goal.invariant-loop-paper
invariant-loop-paper l =
    l.found.items ++ map (titled l.live.tables) (drop l.paper-index l.paper-items)
    ≡ map (titled l.live.tables) l.paper-items
