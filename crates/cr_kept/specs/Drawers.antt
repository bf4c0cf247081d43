-- SPDX-License-Identifier: Apache-2.0 OR MIT
-- The values of all papers, out of each paper's own, and the same with another value of one of them.
use Rattle.std.specs.Prelude.{ℕ, zero, suc, ◌+◌, ◌==◌, List, [], ◌∷◌, ◌++◌, nat_lt, map, filter, if◌then◌else◌}
use Rattle.cr_base.specs.declared.filed.Filed.{Filed}
use Rattle.cr_base.specs.Filed.{filed}
use Rattle.cr_kept.specs.Seen.{SeenDrawer}

-- those of papers from this number on, where the first drawer is that paper's
abbrev pub files_from : {V : Type 0} → ℕ → List (SeenDrawer V) → List (Filed V)
files_from n [] = []
files_from {V} n (d ∷ ds) = map (filed n) d.values ++ files_from (n + 1) ds

-- for how many more there is room, drawer by drawer
abbrev pub rooms_of : {V : Type 0} → List (SeenDrawer V) → List ℕ
rooms_of {V} ds = map (λ (d : SeenDrawer V). d.room) ds

-- the values, with another in the place of the one at this index among those of the paper
abbrev pub with_changed : {V : Type 0} → ℕ → ℕ → V → List (Filed V) → List (Filed V)
with_changed paper index value [] = []
with_changed paper zero value (x ∷ xs) =
    if paper == x.paper then filed paper value ∷ xs else x ∷ with_changed paper 0 value xs
with_changed paper (suc index) value (x ∷ xs) =
    x ∷ (if paper == x.paper then with_changed paper index value xs else with_changed paper (suc index) value xs)

-- the values, with these as the paper's
abbrev pub with_values : {V : Type 0} → ℕ → List V → List (Filed V) → List (Filed V)
with_values {V} paper values xs =
    filter (λ (x : Filed V). nat_lt x.paper paper) xs ++ map (filed paper) values
    ++ filter (λ (x : Filed V). nat_lt paper x.paper) xs
