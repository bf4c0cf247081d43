-- SPDX-License-Identifier: Apache-2.0 OR MIT
-- Plans, what they are worth, and what shows that none is worth more: prices, by weak duality (the assignment
-- problem of Kuhn, 1955, and Munkres, 1957, where papers need several members).
use Rattle.std.specs.Prelude.{◌≡◌, ℕ, zero, suc, ◌+◌, ◌*◌, ◌<◌, ◌≤◌, Bool, true}
use Rattle.std.specs.Prelude.{false, ◌&&◌, ◌||◌, List, [], ◌∷◌, length, count_by, ◌==◌, ℤ}
use Rattle.std.specs.Prelude.{pos, negsuc, ◌+ℤ◌, ◌-ℤ◌, ◌*ℤ◌, sum, sum_by, slice_index_or, min}
use Rattle.cr_match.specs.declared.problem.Pair.{Pair}

-- the elements whose mark is true
abbrev pub kept : {X : Type 0} → List Bool → List X → List X
kept [] xs = []
kept (b ∷ bs) [] = []
kept (true ∷ bs) (x ∷ xs) = x ∷ kept bs xs
kept (false ∷ bs) (x ∷ xs) = kept bs xs

abbrev pub of_paper : ℕ → Pair → Bool
of_paper q e = e.paper == q

abbrev pub of_member : ℕ → Pair → Bool
of_member m e = e.member == m

-- exactly `want` members for each of the papers, and at most `load` papers for each member
pub record IsPlan (papers want load : ℕ) (plan : List Pair) : Type 0 where
  pub full : (q : ℕ) → q < papers → count_by (of_paper q) plan ≡ want
  pub light : (m : ℕ) → count_by (of_member m) plan ≤ load

abbrev pub sum_z : List ℤ → ℤ
sum_z [] = pos 0
sum_z (x ∷ xs) = x +ℤ sum_z xs

abbrev pub total_weight : List Pair → ℤ
total_weight [] = pos 0
total_weight (e ∷ es) = e.weight +ℤ total_weight es

-- a number, or 0 where it is negative
abbrev pub above : ℤ → ℕ
above (pos n) = n
above (negsuc n) = 0

abbrev pub excess : List ℤ → List ℕ → Pair → ℕ
excess a b e = above (e.weight -ℤ (slice_index_or a e.paper (pos 0) +ℤ pos (slice_index_or b e.member 0)))

-- what the prices say that no plan can pass
abbrev pub bound : ℕ → ℕ → List ℤ → List ℕ → List Pair → ℤ
bound want load a b pairs = (pos want *ℤ sum_z a) +ℤ pos (load * sum b + sum_by (excess a b) pairs)

-- each pair's member is below `members`
abbrev pub MembersBelow : ℕ → List Pair → Type 0
MembersBelow members [] = Unit {0}
MembersBelow members (e ∷ es) = (e.member < members) × MembersBelow members es

abbrev pub among : List ℕ → ℕ → Bool
among [] q = false
among (x ∷ xs) q = (q == x) || among xs q

-- a pair of one of the papers `s` with the member
abbrev pub joins : List ℕ → ℕ → Pair → Bool
joins s m e = among s e.paper && (e.member == m)

abbrev pub total_below : (ℕ → ℕ) → ℕ → ℕ
total_below f zero = 0
total_below f (suc n) = total_below f n + f n

-- papers, each below `papers` and none twice
abbrev pub DistinctBelow : ℕ → List ℕ → Type 0
DistinctBelow papers [] = Unit {0}
DistinctBelow papers (x ∷ xs) = (x < papers) × (among xs x ≡ false) × DistinctBelow papers xs

-- the members have too little room for the papers `s`
pub record IsTooMuch (papers members want load : ℕ) (s : List ℕ) (pairs : List Pair) : Type 0 where
  pub distinct : DistinctBelow papers s
  pub short : total_below (λ m. min load (count_by (joins s m) pairs)) members < want * length s
