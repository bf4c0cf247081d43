-- SPDX-License-Identifier: Apache-2.0 OR MIT
-- No conference gets stuck: from its first account on it has a chair, and before its end each can open its next
-- phase.
use Rattle.std.specs.Prelude.{ℕ, Option, Some, is_ok, IsTrue, IsFalse}
use Rattle.cr_base.specs.declared.command.Command.TheVariants.{SetPhase}
use Rattle.cr_base.specs.declared.retry.RetryKey.{RetryKey}
use Rattle.cr_base.specs.declared.words.Phase.{Phase}
use Rattle.cr_base.specs.declared.words.Phase.TheVariants.{Closed}
use Rattle.cr_base.specs.Calls.{call_of}
use Rattle.cr_base.specs.History.{History}
use Rattle.cr_base.specs.HistoryFacts.{phase_of}
use Rattle.cr_history.specs.Invariants.{IsRegistered}
use Rattle.cr_policy.specs.Judge.{judge}
use Rattle.cr_policy.specs.Legal.{Legal}
use Rattle.cr_policy.specs.Sentences.{now, comes_behind, chairs}
use Rattle.cr_policy.specs.View.{view}

-- there is a next phase, and this user's request for it is accepted, whenever it comes and whatever its number
pub record CanGoOn (H : History) (u : ℕ) : Type 0 where
  pub next : Phase
  pub comes : IsTrue (comes_behind (phase_of H) next)
  pub accepted : (at : ℕ) (key : Option RetryKey)
      → IsTrue (is_ok (judge (view (Some u) H) (call_of (Some u) at key (SetPhase next))))

-- somebody who has registered is a chair; and before the end each chair can go on
pub record HasChair (H : History) : Type 0 where
  pub user : ℕ
  pub registered : IsRegistered H user
  pub chair : IsTrue (chairs user H)
  pub goes_on : IsFalse (now Closed H) → (u : ℕ) → IsTrue (chairs u H) → CanGoOn H u

-- GoesOn: so it is of each legal history in which anybody has registered
abbrev pub GoesOn : Type 0
GoesOn = (H : History) (u : ℕ) → Legal H → IsRegistered H u → HasChair H
