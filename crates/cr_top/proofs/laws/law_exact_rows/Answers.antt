-- SPDX-License-Identifier: Apache-2.0 OR MIT
use Rattle.std.proofs.Common.{◌≡◌, ◌⊎◌, inl, inr, List, Bool, Option, Some, None, IfSome}
use Rattle.std.specs.Prelude.{IsTrue, ◌++◌}
use Rattle.cr_base.specs.declared.row.Row.{Row}
use Rattle.cr_base.specs.History.{History}
use Rattle.cr_base.specs.Rows.{rows_of}
use Rattle.cr_ports.specs.Count.{Rises}
use Rattle.cr_top.specs.Stores.{IsGroupInVain, ShelfState}
use Rattle.cr_top.proofs.laws.law_exact_rows.Goals as goal

exact : (tells : Bool) (history : History) (s s' : ShelfState) → (Rises s.faults s'.faults → ⊥)
    → (before there : Option (List Row))
    → IfSome before (λ b. (there ≡ Some (rows_of history))
    ⊎ (IsTrue tells × ((group : History) × IsGroupInVain history s s' group
    × (there ≡ Some (rows_of (history ++ group))))))
    → IfSome before (λ b. there ≡ Some (rows_of history))
exact tells history s s' idle None there leaves = tt
exact tells history s s' idle (Some b) there (inl same) = same
exact tells history s s' idle (Some b) there (inr more) = absurd (idle more.1.1.counted)

pub returns : goal.returns
returns c = λ tells path history s s' leaves idle.
    exact tells history s s' idle (s.rows path) (s'.rows path) leaves.there
