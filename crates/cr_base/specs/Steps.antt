-- SPDX-License-Identifier: Apache-2.0 OR MIT
-- Steps: how many stored records were read, one for each. It is a counter in the code that is analysed, as Knuth counts
-- in The Art of Computer Programming, volume 1, section 1.2.10; `None` if nothing is counted.
use Rattle.std.specs.Prelude.{ℕ, ◌≡◌, ◌≤◌, ◌+◌, ◌-◌, ◌*◌, ◌^◌, Option, Some, None, ⊤}

-- this many steps were taken, if they are counted
abbrev pub Takes : ℕ → Option ℕ → Option ℕ → Type 0
Takes count None None = ⊤
Takes count None (Some n) = ⊥
Takes count (Some m) None = ⊥
Takes count (Some m) (Some n) = n ≡ m + count

-- at most so many more
abbrev pub TakesAtMost : ℕ → Option ℕ → Option ℕ → Type 0
TakesAtMost count None None = ⊤
TakesAtMost count None (Some n) = ⊥
TakesAtMost count (Some m) None = ⊥
TakesAtMost count (Some m) (Some n) = (h : m ≤ n) × (n ≤ m + count)

-- as many steps were taken as halvings take a list of this length down to nothing, if they are counted
abbrev pub Halves : ℕ → Option ℕ → Option ℕ → Type 0
Halves length None None = ⊤
Halves length None (Some n) = ⊥
Halves length (Some m) None = ⊥
Halves length (Some m) (Some n) = (h : m ≤ n) × (2 ^ (n - m) ≤ 2 * length + 1)
