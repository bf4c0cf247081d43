-- SPDX-License-Identifier: Apache-2.0 OR MIT
use Rattle.std.proofs.Common.{◌≡◌, ◌≤◌, drop, length}
use Rattle.std.specs.Prelude.{vec_capacity, vec_len}
use Rattle.serde_json.specs.View.{items_view}
use Rattle.cr_bodies.specs.Field.{names_told}
use Rattle.cr_bodies.proofs.Names.{onto}
use Rattle.cr_bodies.proofs.field.names_in.Given as goal

abbrev pub invariant-elements : goal.invariant-elements
invariant-elements l = record {
  so_far : onto l.names.items (names_told (items_view (drop l.item-index l.items))) ≡ names_told (items_view l.items);
  count : vec_len l.names ≡ l.item-index;
  room : length l.items ≤ vec_capacity l.names;
}
