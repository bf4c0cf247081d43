-- SPDX-License-Identifier: Apache-2.0 OR MIT
-- What a stop leaves during two calls, in words of payloads.
use Rattle.std.proofs.Common.{◌≡◌, ◌⊎◌, inl, inr, Bool, true, false, ℕ, ◌+◌, List, [], ◌∷◌, ◌++◌, refl}
use Rattle.cr_ports.specs.Stopping.{LeavesOnly}
use Rattle.cr_ports.specs.Stopping.{IsAmong}
use Rattle.cr_journal.specs.Gates.{SameTo, SameBut, IsShut, MayBeOpen, IsKeptOrOneMore}
use Rattle.cr_journal.specs.Grammar.{IsJournal}
use Rattle.cr_journal.specs.Standing.{doubted}
use Rattle.cr_journal.proofs.Calls.{shut_opens, may_opens}
use Rattle.cr_ports.proofs.StopLaws.{weaken}

pub not_both : {A : Type 0} (b : Bool) → b ≡ false → b ≡ true → A
not_both b off on = absurd (cc (off, on))

pub wider : (kept tried : List (List ℕ)) (p c : List ℕ) → IsKeptOrOneMore kept tried c
    → IsKeptOrOneMore kept (p ∷ tried) c
wider kept tried p c (inl same) = inl same
wider kept tried p c (inr one) = inr (one.0, inr one.1, one.2)

pub one_of : (kept tried : List (List ℕ)) (p c : List ℕ) → IsAmong tried p
    → IsJournal kept c ⊎ IsJournal (kept ++ p ∷ []) c → IsKeptOrOneMore kept tried c
one_of kept tried p c among (inl same) = inl same
one_of kept tried p c among (inr more) = inr (p, among, more)

pub in_doubt : (b : Bool) (d : List ℕ) → b ≡ true → IsAmong (doubted b d) d
in_doubt true d on = inl refl
in_doubt false d on = absurd cc

module _ {D : Type 0} (moment : D → ℕ) (left_since : D → ℕ → List ℕ → Type 0) (old new : D) (file : List ℕ)
    (images : List ℕ → Type 0) (gate : ℕ) (kept tried : List (List ℕ)) where
  -- during the first two calls
  pub while_shut : IsShut file images gate kept → LeavesOnly moment left_since old new (SameTo (gate + 1) file)
      → LeavesOnly moment left_since old new (IsKeptOrOneMore kept tried)
  while_shut s so_far = weaken moment left_since old new (SameTo (gate + 1) file) (IsKeptOrOneMore kept tried)
      (λ c same. inl (shut_opens file images gate kept c s same)) so_far

  -- during the last two, and during the two before
  pub while_open : (p : List ℕ) → IsAmong tried p → MayBeOpen file images gate kept p
      → LeavesOnly moment left_since old new (SameBut gate file)
      → LeavesOnly moment left_since old new (IsKeptOrOneMore kept tried)
  while_open p among m so_far = weaken moment left_since old new (SameBut gate file) (IsKeptOrOneMore kept tried)
      (λ c same. one_of kept tried p c among (may_opens file images gate kept p c m same)) so_far
