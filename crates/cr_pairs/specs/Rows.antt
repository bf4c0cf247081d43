-- SPDX-License-Identifier: Apache-2.0 OR MIT
-- The ties of all numbers, out of each number's own.
use Rattle.std.specs.Prelude.{ℕ, ◌+◌, ◌≡◌, ◌==◌, List, [], ◌∷◌, ◌++◌, map, IsTrue}
use Rattle.std.specs.List.{list_all}
use Rattle.cr_base.specs.declared.pairs.Order.{Order}
use Rattle.cr_base.specs.declared.pairs.Tie.{Tie}
use Rattle.cr_base.specs.Pairs.{major, IsAscending}
use Rattle.cr_pairs.specs.Seen.{SeenPairs}

-- those of all rows
abbrev pub ties_in : {V : Type 0} → List (SeenPairs V) → List (Tie V)
ties_in [] = []
ties_in (r ∷ rs) = r.ties ++ ties_in rs

-- for how many more there is room, row by row
abbrev pub rooms_of : {V : Type 0} → List (SeenPairs V) → List ℕ
rooms_of {V} rs = map (λ (r : SeenPairs V). r.room) rs

-- a row in this order, of ties with this number alone, each pair once, in ascending order
abbrev pub IsRow : {V : Type 0} → Order → ℕ → SeenPairs V → Type 0
IsRow {V} order n r =
    (r.order ≡ order) × IsTrue (list_all (λ (t : Tie V). n == major order t.pair) r.ties) × IsAscending order r.ties

-- rows of one number after the other, from this one on
abbrev pub AreRows : {V : Type 0} → Order → ℕ → List (SeenPairs V) → Type 0
AreRows order n [] = Unit {0}
AreRows order n (r ∷ rs) = IsRow order n r × AreRows order (n + 1) rs
