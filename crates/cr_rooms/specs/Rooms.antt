-- SPDX-License-Identifier: Apache-2.0 OR MIT
-- For how many more values of each number there is room in a table that keeps those of a number together, as those of
-- a paper or of a user.
use Rattle.std.specs.Prelude.{ℕ, ◌≤◌, ◌+◌, ◌==◌, List, Option, slice_index, count_by, if◌then◌else◌}
use Rattle.std.specs.List.{filter_map}

-- how often the number is among these
abbrev pub times : ℕ → List ℕ → ℕ
times n numbers = count_by (λ (m : ℕ). n == m) numbers

-- there is room for one more value of each of these numbers, as often as it is there
abbrev pub HasRoom : List ℕ → List ℕ → Type 0
HasRoom numbers rooms = (n : ℕ) → times n numbers ≤ slice_index rooms n

-- no number has less room than before
abbrev pub IsNoLess : List ℕ → List ℕ → Type 0
IsNoLess old new = (n : ℕ) → slice_index old n ≤ slice_index new n

-- this number may have room for one less than before, and no other has less
abbrev pub IsOneLess : ℕ → List ℕ → List ℕ → Type 0
IsOneLess number old new = (n : ℕ) → slice_index old n ≤ slice_index new n + (if number == n then 1 else 0)

-- there is room for what a table keeps of a group: of each element one value of a number, or nothing
abbrev pub HasRoomFor : {A : Type 0} → (A → Option ℕ) → List A → List ℕ → Type 0
HasRoomFor number group rooms = HasRoom (filter_map number group) rooms
