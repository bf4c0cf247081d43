-- SPDX-License-Identifier: Apache-2.0 OR MIT
use Rattle.std.proofs.Common.{◌≡◌, ◌++◌, drop}
use Rattle.std.specs.Prelude.{map}
use Rattle.cr_base.specs.declared.pairs.Tie.{Tie}
use Rattle.cr_base.specs.Accounts.{lines_of}
use Rattle.cr_base.specs.Sources.{names_in}
use Rattle.cr_view.proofs.live.Live.names.Given as goal

abbrev pub invariant-loop-tie : goal.invariant-loop-tie
invariant-loop-tie l = l.names.items ++ names_in (lines_of l.self.tables.accounts)
    (map (λ (tie : Tie (Unit {0})). tie.pair.user) (drop l.tie-index l.ties))
    ≡ names_in (lines_of l.self.tables.accounts) (map (λ (tie : Tie (Unit {0})). tie.pair.user) l.ties)
