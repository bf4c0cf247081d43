-- SPDX-License-Identifier: Apache-2.0 OR MIT
-- How what is committed changes while a store is brought to another version, a crash included.
use Rattle.std.specs.Prelude.{◌≡◌}
use Rattle.sqlite.specs.Tree.{Trees}
use Rattle.sqlite.specs.State.{State, Survives}

-- nothing is committed: a crash leaves what it could leave before
abbrev pub CommitsNothing : State → State → Type 0
CommitsNothing old new = Survives old new (λ _. ⊥)

-- at most one commit: a crash leaves what it could leave before, or this one database, all of it
pub record CommitsOnce (old new : State) : Type 0 where
  pub made : Trees
  pub survives : Survives old new (λ left. left ≡ made)
