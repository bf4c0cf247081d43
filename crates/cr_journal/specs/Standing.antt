-- SPDX-License-Identifier: Apache-2.0 OR MIT
-- What a journal keeps between two appends, also after one that failed.
use Rattle.std.specs.Prelude.{◌≡◌, ℕ, Bool, true, false, List, [], ◌∷◌}
use Rattle.cr_journal.specs.Gates.{IsShut, MayBeOpen}
use Rattle.cr_journal.specs.declared.state.Journal.{Journal}

-- These payloads are kept; if the gate is in doubt, this one may follow it.
pub record Stands {D : Type 0} (seen : D → List ℕ) (may_leave : D → List ℕ → Type 0) (journal : Journal D)
    (kept : List (List ℕ)) (p : List ℕ) : Type 0 where
  pub shut : journal.in_doubt ≡ false → IsShut (seen journal.disk) (may_leave journal.disk) journal.gate kept
  pub doubt : journal.in_doubt ≡ true → MayBeOpen (seen journal.disk) (may_leave journal.disk) journal.gate kept p

-- the payload in doubt, where one is
abbrev pub doubted : {T : Type 0} → Bool → T → List T
doubted true p = p ∷ []
doubted false p = []
