-- SPDX-License-Identifier: Apache-2.0 OR MIT
-- Where a pair's tie stands in a list, and where it would stand.
use Rattle.std.specs.Prelude.{ℕ, List, ◌≡◌, ◌≤◌, ◌<◌, IsTrue, length, slice_index_or}
use Rattle.std.specs.declared.cmp.Ordering.{Ordering}
use Rattle.std.specs.Ordering.{nat_cmp, ordering_then}
use Rattle.cr_base.specs.declared.pairs.Order.{Order}
use Rattle.cr_base.specs.declared.pairs.Pair.{Pair}
use Rattle.cr_base.specs.declared.pairs.Tie.{Tie}
use Rattle.cr_base.specs.Pairs.{major, minor, comes_before}

-- the order of pairs: by the major number, then by the minor one
abbrev pub pair_order : Order → Pair → Pair → Ordering
pair_order order p q =
    ordering_then (nat_cmp (major order p) (major order q)) (nat_cmp (minor order p) (minor order q))

-- the pair's tie stands at this index
pub record IsAt {V : Type 0} (q : Pair) (ts : List (Tie V)) (index : ℕ) : Type 0 where
  pub in_range : index < length ts
  pub is : (d : Tie V) → (slice_index_or ts index d).pair ≡ q

-- it would stand at this index: what is before comes before it, and it comes before what is behind
pub record IsGapFor {V : Type 0} (order : Order) (q : Pair) (ts : List (Tie V)) (index : ℕ) : Type 0 where
  pub in_range : index ≤ length ts
  pub before : (k : ℕ) (d : Tie V) → k < index → IsTrue (comes_before order (slice_index_or ts k d).pair q)
  pub behind : (k : ℕ) (d : Tie V) → index ≤ k → k < length ts
      → IsTrue (comes_before order q (slice_index_or ts k d).pair)
