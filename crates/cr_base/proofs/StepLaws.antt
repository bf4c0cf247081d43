-- SPDX-License-Identifier: Apache-2.0 OR MIT
-- Steps one after another, and how many they are at most.
use Rattle.std.proofs.Common.{ℕ, ◌≤◌, ◌<◌, ◌+◌, ◌-◌, ◌*◌, ◌^◌, arith, zero, suc, Option, Some, None}
use Rattle.std.proofs.Math.Nat.{pow-suc}
use Rattle.cr_base.specs.Steps.{Takes, TakesAtMost, Halves}

-- no step
pub takes-none : (s : Option ℕ) → TakesAtMost 0 s s
takes-none None = tt
takes-none (Some n) = (omega arith, omega arith)

pub takes-nothing : (s : Option ℕ) → Takes 0 s s
takes-nothing None = tt
takes-nothing (Some n) = omega arith

-- so many are at most so many
pub takes-at_most : (n : ℕ) (s t : Option ℕ) → Takes n s t → TakesAtMost n s t
takes-at_most n None None h = tt
takes-at_most n None (Some t) h = elim h [ ]
takes-at_most n (Some s) None h = elim h [ ]
takes-at_most n (Some s) (Some t) h = (omega (arith, h), omega (arith, h))

-- and at most any number that is no less
pub at_most-more : (n m : ℕ) (s t : Option ℕ) → n ≤ m → TakesAtMost n s t → TakesAtMost m s t
at_most-more n m None None h k = tt
at_most-more n m None (Some t) h k = elim k [ ]
at_most-more n m (Some s) None h k = elim k [ ]
at_most-more n m (Some s) (Some t) h k = (k.0, omega (arith, h, k.1))

-- one after another
pub takes-takes : (n m : ℕ) (s t u : Option ℕ) → Takes n s t → Takes m t u → Takes (n + m) s u
takes-takes n m None None None h k = tt
takes-takes n m None None (Some u) h k = elim k [ ]
takes-takes n m None (Some t) u h k = elim h [ ]
takes-takes n m (Some s) None u h k = elim h [ ]
takes-takes n m (Some s) (Some t) None h k = elim k [ ]
takes-takes n m (Some s) (Some t) (Some u) h k = omega (arith, h, k)

pub at_most-at_most : (n m : ℕ) (s t u : Option ℕ) → TakesAtMost n s t → TakesAtMost m t u → TakesAtMost (n + m) s u
at_most-at_most n m None None None h k = tt
at_most-at_most n m None None (Some u) h k = elim k [ ]
at_most-at_most n m None (Some t) u h k = elim h [ ]
at_most-at_most n m (Some s) None u h k = elim h [ ]
at_most-at_most n m (Some s) (Some t) None h k = elim k [ ]
at_most-at_most n m (Some s) (Some t) (Some u) h k = (omega (arith, h.0, k.0), omega (arith, h.1, k.1))

-- a list of this length is halved at most as often as it is long
below-power : (n : ℕ) → n < 2 ^ n
below-power zero = omega arith
below-power (suc n) = omega (arith, below-power n, pow-suc 2 n)

few-halvings : (n k : ℕ) → 2 ^ k ≤ 2 * n + 1 → k ≤ n
few-halvings n zero h = omega arith
few-halvings n (suc k) h = omega (arith, h, pow-suc 2 k, below-power k)

pub halves-at_most : (n : ℕ) (s t : Option ℕ) → Halves n s t → TakesAtMost n s t
halves-at_most n None None h = tt
halves-at_most n None (Some t) h = elim h [ ]
halves-at_most n (Some s) None h = elim h [ ]
halves-at_most n (Some s) (Some t) h = (h.0, omega (arith, h.0, few-halvings n (t - s) h.1))
