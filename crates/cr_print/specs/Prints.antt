-- SPDX-License-Identifier: Apache-2.0 OR MIT
-- A whole answer appended to a buffer.
use Rattle.std.specs.Prelude.{◌≡◌, ℕ, ◌≤◌, List, ◌++◌, vec_capacity, Result, OnOk, OnErr}
use Rattle.cr_json.specs.Put.{Bytes}

-- the text was appended whole, or memory ran out and nothing was; the room never shrinks
pub record Prints {E : Type 0} (r : Result (Unit {0}) E) (old new : Bytes) (text : List ℕ) : Type 0 where
  pub ok : OnOk r (new.items ≡ old.items ++ text)
  pub err : OnErr r (new.items ≡ old.items)
  pub capacity : vec_capacity old ≤ vec_capacity new
