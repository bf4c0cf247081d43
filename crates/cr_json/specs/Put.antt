-- SPDX-License-Identifier: Apache-2.0 OR MIT
-- Bytes appended to a buffer.
use Rattle.std.specs.Prelude.{◌≡◌, ℕ, ◌+◌, ◌≤◌, List, ◌++◌, Vec, vec_len, vec_capacity, Result, IsOk, OnOk}
use Rattle.std.specs.declared.alloc.Global.{Global}

abbrev pub Bytes : Type 0
Bytes = Vec ℕ Global

-- n more bytes need no memory
abbrev pub HasRoom : Bytes → ℕ → Type 0
HasRoom v n = vec_len v + n ≤ vec_capacity v

-- ---- where room was made before

-- the text was appended, in at most n bytes of the room
pub record Puts (old new : Bytes) (text : List ℕ) (n : ℕ) : Type 0 where
  pub items : new.items ≡ old.items ++ text
  pub within : vec_len new ≤ vec_len old + n
  pub capacity : vec_capacity old ≤ vec_capacity new

-- ---- where the buffer grows

-- the text was appended, unless memory ran out
abbrev pub Appends : {A E : Type 0} → Result A E → Bytes → Bytes → List ℕ → Type 0
Appends r old new text = OnOk r (new.items ≡ old.items ++ text)

-- at most n bytes were appended
pub record Grows (old new : Bytes) (n : ℕ) : Type 0 where
  pub within : vec_len new ≤ vec_len old + n
  pub capacity : vec_capacity old ≤ vec_capacity new

-- at most n bytes were appended, and memory ran out only where room for n bytes was missing
pub record Takes {A E : Type 0} (r : Result A E) (old new : Bytes) (n : ℕ) : Type 0 where
  pub ok : OnOk r (Grows old new n)
  pub sure : HasRoom old n → IsOk r
