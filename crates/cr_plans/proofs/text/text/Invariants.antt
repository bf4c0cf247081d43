-- SPDX-License-Identifier: Apache-2.0 OR MIT
use Rattle.std.proofs.Common.{◌≡◌, ◌++◌, drop}
use Rattle.std.specs.List.{flat_map}
use Rattle.cr_base.specs.Plans.{plan_header}
use Rattle.cr_plans.specs.Pairing.{row_at}
use Rattle.cr_plans.proofs.text.text.Given as goal

abbrev pub invariant-loop-pair : goal.invariant-loop-pair
invariant-loop-pair l =
    l.text.items ++ flat_map (row_at l.papers l.members) (drop l.pair-index l.pairs) ≡ plan_header
    ++ flat_map (row_at l.papers l.members) l.pairs
