-- SPDX-License-Identifier: Apache-2.0 OR MIT
-- Calls in a row that commit nothing, and a commit behind them.
use Rattle.std.proofs.Common.{◌≡◌, refl, arith, inl}
use Rattle.sqlite.specs.State.{State, Survives}
use Rattle.sqlite.specs.Tree.{Trees}
use Rattle.sqlite.proofs.StateLemmas.{survives_then, survives_weaker}
use Rattle.cr_sqlite.specs.Migration.{CommitsNothing, CommitsOnce}

-- before any call
pub nothing_yet : (s : State) → CommitsNothing s s
nothing_yet s =
    record {
      clean = omega arith;
      shield = λ h. h;
      counts = omega arith;
      limit = refl;
      closes = λ clean still. inl still;
      crash = λ clean db left. inl left;
    }

-- one call more
pub nothing_more : (first now next : State) → CommitsNothing first now → CommitsNothing now next
    → CommitsNothing first next
nothing_more first now next before call =
    survives_then first now next _ _ _ (λ _ db none. none) (λ _ db none. none) before call

-- the one that commits
pub then_once : (first now last : State) (made : Trees) → CommitsNothing first now
    → Survives now last (λ left. left ≡ made) → CommitsOnce first last
then_once first now last made before commit =
    record {
      made = made;
      survives = survives_then first now last _ _ _ (λ _ db none. absurd none) (λ _ db is. is)
          before commit;
    }

-- none does, where the transaction is let go
pub never_once : (first last : State) → CommitsNothing first last → CommitsOnce first last
never_once first last nothing =
    record { made = first.now.trees; survives = survives_weaker first last _ _ (λ _ db none. absurd none) nothing }
