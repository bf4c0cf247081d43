-- SPDX-License-Identifier: Apache-2.0 OR MIT
-- A count of faults: it never falls, and is kept in 64 bits.
use Rattle.std.specs.Prelude.{ℕ, ◌<◌, ◌≤◌, ◌+◌, ◌-◌, ◌^◌, min}

-- The fault counter rose: it increased, or is at its maximum.
abbrev pub Rises : ℕ → ℕ → Type 0
Rises before now = now < 2 ^ 64 - 1 → before < now

-- The fault counter rose by at least so many, or is at its maximum.
abbrev pub Gains : ℕ → ℕ → ℕ → Type 0
Gains before many now = (before ≤ now) × (now < 2 ^ 64 - 1 → before + many ≤ now)

-- the next value of a fault counter, which stays at its maximum
abbrev pub counted : ℕ → ℕ
counted n = min (n + 1) (2 ^ 64 - 1)
