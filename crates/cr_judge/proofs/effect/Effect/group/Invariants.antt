-- SPDX-License-Identifier: Apache-2.0 OR MIT
use Rattle.std.proofs.Common.{◌≡◌, ◌≤◌, ◌+◌, ◌∷◌, length, take}
use Rattle.std.specs.Prelude.{vec_capacity}
use Rattle.cr_base.specs.Drawn.{grouped}
use Rattle.cr_judge.specs.Effects.{behind}
use Rattle.cr_judge.proofs.effect.Effect.group.Given as goal

abbrev pub invariant-loop-index : goal.invariant-loop-index
invariant-loop-index l = record {
  so : l.group.items ≡ take (l.index + 1) (grouped l.fn.self.stamp (l.fn.self.first ∷ behind l.fn.self.rest));
  count : length l.group.items ≡ l.index + 1;
  room : l.others + 1 ≤ vec_capacity l.group;
}
