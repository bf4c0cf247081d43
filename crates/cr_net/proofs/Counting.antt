-- SPDX-License-Identifier: Apache-2.0 OR MIT
-- Counts of faults that are added up.
use Rattle.std.proofs.Common.{arith, ℕ, ◌+◌, ◌-◌, ◌^◌, ◌<◌, ◌≤◌, List, length, get_or, take, sum_by, subst, sym}
use Rattle.std.proofs.lemmas.List.Sums.{sum_by_more}
use Rattle.cr_ports.specs.Count.{Gains}
use Rattle.cr_net.specs.Doors.{DoorSeen}

gains_below : (last a x b y c : ℕ) → (a ≤ b) × (b < last → a + x ≤ b) → (b ≤ c) × (c < last → b + y ≤ c)
    → (a ≤ c) × (c < last → a + (x + y) ≤ c)
gains_below last a x b y c first second = (
  omega (arith, first.0, second.0),
  λ less.
      let within : b < last = omega (arith, less, second.0) in
      omega (arith, first.1 within, second.1 less),
)

-- the faults of one more door
pub gains-more : (a b c : ℕ) (doors : List DoorSeen) (i : ℕ) (d : DoorSeen) → i < length doors
    → Gains a (sum_by (λ (door : DoorSeen). door.faults) (take i doors)) b → Gains b (get_or doors i d).faults c
    → Gains a (sum_by (λ (door : DoorSeen). door.faults) (take (i + 1) doors)) c
gains-more a b c doors i d less first second =
    subst (λ sum. Gains a sum c) (sym (sum_by_more (λ (door : DoorSeen). door.faults) doors i d less))
    (gains_below (2 ^ 64 - 1) a (sum_by (λ (door : DoorSeen). door.faults) (take i doors)) b (get_or doors i d).faults c
    first second)
