-- SPDX-License-Identifier: Apache-2.0 OR MIT
-- One piece after another, where there is room.
use Rattle.std.proofs.Common.{ℕ, ◌+◌, ◌≤◌, List, ◌++◌, append_assoc, arith, ◌∙◌, ap}
use Rattle.cr_json.specs.Put.{Bytes, Puts}

infixl 10 ◌then◌
pub ◌then◌ : {a b c : Bytes} {t u : List ℕ} {n m : ℕ} → Puts a b t n → Puts b c u m → Puts a c (t ++ u) (n + m)
◌then◌ {a} {b} {c} {t} {u} {n} {m} p q = record {
  items = q.items ∙ ap (λ s. s ++ u) p.items ∙ append_assoc a.items t u;
  within = omega arith;
  capacity = omega arith;
}

-- the same within more bytes
pub within : {a b : Bytes} {t : List ℕ} {n : ℕ} (m : ℕ) → Puts a b t n → n ≤ m → Puts a b t m
within m p h = record { items = p.items; within = omega arith; capacity = p.capacity }
