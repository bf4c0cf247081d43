-- SPDX-License-Identifier: Apache-2.0 OR MIT
-- How what a stop may leave goes on from call to call.
use Rattle.std.proofs.Common.{inl, inr, ⊎_elim, ℕ, List, arith}
use Rattle.cr_ports.specs.Stopping.{LeavesOnly}

module _ {D : Type 0} (moment : D → ℕ) (left_since : D → ℕ → List ℕ → Type 0) where
  -- before the first call
  pub started : (old : D) (P : List ℕ → Type 0) → ((c : List ℕ) → left_since old (moment old) c → P c)
      → LeavesOnly moment left_since old old P
  started old P here = record { later = omega arith; each = here; before = λ t c le left. inl left }

  pub weaken : (old new : D) (P Q : List ℕ → Type 0) → ((c : List ℕ) → P c → Q c)
      → LeavesOnly moment left_since old new P → LeavesOnly moment left_since old new Q
  weaken old new P Q wider so_far = record {
    later = so_far.later;
    each = λ c left. wider c (so_far.each c left);
    before = λ t c le left. ⊎_elim (λ was. inl was) (λ now. inr (wider c now)) (so_far.before t c le left);
  }

  pub and_then : (old mid new : D) (P : List ℕ → Type 0) → LeavesOnly moment left_since old mid P
      → LeavesOnly moment left_since mid new P → LeavesOnly moment left_since old new P
  and_then old mid new P first second = record {
    later = omega (arith, first.later, second.later);
    each = λ c left. ⊎_elim (first.each c) (λ now. now) (second.before (moment old) c first.later left);
    before = λ t c le left. ⊎_elim (first.before t c le) (λ now. inr now)
        (second.before t c (omega (arith, le, first.later)) left);
  }
