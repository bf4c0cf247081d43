-- SPDX-License-Identifier: Apache-2.0 OR MIT
-- Rows out of bytes, from left to right.
use Rattle.std.specs.Prelude.{◌≡◌, ℕ, zero, suc, List, [], ◌∷◌, length, get_or, take, drop, Option, Some, None, nat_lt}
use Rattle.std.specs.Prelude.{if◌then◌else◌}
use Rattle.std.specs.Int.{w64, from_be_bytes}
use Rattle.cr_base.specs.declared.row.Row.{Row}

infixl 10 ◌>>=◌
abbrev pub ◌>>=◌ : {A B : Type 0} → Option A → (A → Option B) → Option B
(Some x) >>= f = f x
None >>= f = None

-- a number, and the bytes after it
unfoldable pub number_at : List ℕ → Option (ℕ × List ℕ)
number_at bytes = if nat_lt (length bytes) 8 then None else Some (from_be_bytes w64 (take 8 bytes), drop 8 bytes)

-- so many bytes, and those after them
abbrev pub front_of : ℕ → List ℕ → Option (List ℕ × List ℕ)
front_of n bytes = if nat_lt (length bytes) n then None else Some (take n bytes, drop n bytes)

-- bytes that follow their length, and those after them
unfoldable pub field_at : List ℕ → Option (List ℕ × List ℕ)
field_at bytes = do
  n ← number_at bytes
  front_of n.0 n.1

-- so many numbers, and the bytes after them
unfoldable pub numbers_at : ℕ → List ℕ → Option (List ℕ × List ℕ)
numbers_at zero bytes = Some ([], bytes)
numbers_at (suc n) bytes = do
  first ← number_at bytes
  others ← numbers_at n first.1
  Some (first.0 ∷ others.0, others.1)

-- the row of ten numbers and three texts
abbrev pub row_of : List ℕ → List ℕ → List ℕ → List ℕ → Row
row_of numbers mark b1 b2 = record {
  kind = get_or numbers 0 0;
  maker = get_or numbers 1 0;
  more = get_or numbers 2 0;
  at = get_or numbers 3 0;
  num = get_or numbers 4 0;
  mark = mark;
  n1 = get_or numbers 5 0;
  n2 = get_or numbers 6 0;
  n3 = get_or numbers 7 0;
  n4 = get_or numbers 8 0;
  n5 = get_or numbers 9 0;
  b1 = b1;
  b2 = b2;
}

-- a row, and the bytes after it
unfoldable pub row_at : List ℕ → Option (Row × List ℕ)
row_at bytes = do
  numbers ← numbers_at 10 bytes
  mark ← field_at numbers.1
  b1 ← field_at mark.1
  b2 ← field_at b1.1
  Some (row_of numbers.0 mark.0 b1.0 b2.0, b2.1)

-- what a function returned, seen so, is what reading gives
abbrev pub Finds : {X Y : Type 0} → (X → Y) → Option X → Option Y → Type 0
Finds view (Some x) read = read ≡ Some (view x)
Finds view None read = read ≡ None
