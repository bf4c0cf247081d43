-- SPDX-License-Identifier: Apache-2.0 OR MIT
-- Numbers, sums over lists, and the count of faults.
use Rattle.std.specs.Prelude.{◌≡◌, ◌⊎◌, ℕ, ◌+◌, Bool, ◌&&◌, ◌||◌, nat_lt, nat_le, if◌then◌else◌, List, [], ◌∷◌}

-- the maximum of a fault counter, that of a `u64`, from which it can't rise
abbrev pub last_count : ℕ
last_count = 18446744073709551615

-- the fault counter rose, or is at its maximum
abbrev pub has_risen : ℕ → ℕ → Bool
has_risen before after = nat_lt before after || nat_le last_count after

-- 1 for the numbers from low to below high, and else 0
abbrev pub within : ℕ → ℕ → ℕ → ℕ
within low high k = if nat_le low k && nat_lt k high then 1 else 0

-- f of each, added up
abbrev pub total : {X : Type 0} → (X → ℕ) → List X → ℕ
total f [] = 0
total f (x ∷ xs) = f x + total f xs

-- P holds of each
abbrev pub Every : {X : Type 0} → (X → Type 0) → List X → Type 0
Every P [] = Unit {0}
Every P (x ∷ xs) = P x × Every P xs

-- P holds of one of them
abbrev pub Any : {X : Type 0} → (X → Type 0) → List X → Type 0
Any P [] = ⊥
Any P (x ∷ xs) = P x ⊎ Any P xs

-- x is one of them
abbrev pub Among : {X : Type 0} → List X → X → Type 0
Among xs x = Any (λ y. x ≡ y) xs
