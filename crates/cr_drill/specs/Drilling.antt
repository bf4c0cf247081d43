-- SPDX-License-Identifier: Apache-2.0 OR MIT
-- What a drill keeps true as it goes on.
use Rattle.std.specs.Prelude.{ℕ, ◌≤◌}
use Rattle.cr_base.specs.History.{History}
use Rattle.cr_history.specs.Invariants.{IsRegistered}
use Rattle.cr_policy.specs.Legal.{Legal}
use Rattle.cr_drill.specs.declared.drilling.Progress.{Progress}
use Rattle.cr_drill.specs.Cast.{cast_size}
use Rattle.cr_drill.specs.Drill.{Drilled}

-- the history is legal, and whoever registered in the one is there in the other
pub record GoesOn (H H' : History) : Type 0 where
  pub legal : Legal H'
  pub registered : (user : ℕ) → IsRegistered H user → IsRegistered H' user

-- the history is legal, and the whole cast has registered
pub record HasCast (H : History) : Type 0 where
  pub legal : Legal H
  pub registered : (user : ℕ) → 1 ≤ user → user ≤ cast_size → IsRegistered H user

-- what a drill has come to
abbrev pub drilled_of : Progress → History → Drilled
drilled_of p H = record { seed = p.dice.seed; history = H; accepted = p.accepted; refused = p.refused }
