-- SPDX-License-Identifier: Apache-2.0 OR MIT
-- TwinsBytes: for all that a group of users are answered who aren't shown which of two users has which place at a
-- paper, the two may have had each other's, if they have one role and neither wrote the paper.
use Rattle.std.specs.Prelude.{ℕ, List, [], ◌∷◌, Option, take, IsTrue, IsFalse}
use Rattle.std.specs.List.{list_any, Contains}
use Rattle.cr_base.specs.History.{History}
use Rattle.cr_base.specs.Lists.{is_number}
use Rattle.cr_policy.specs.Legal.{Legal}
use Rattle.cr_undeduced.specs.Twins.{Twins, renames, twinned, AreTwins, IsOutside}
use Rattle.cr_undeduced.specs.Undeducible.{Look}
use Rattle.cr_session.specs.TwoRuns.{Run}
use Rattle.cr_session.specs.Retries.{AreBounded}
use Rattle.cr_laws.specs.AnotherRun.{looks_of, end_of, is_made_by, AnotherRun}

-- no entry that one of the group made names either of the two at the paper
abbrev pub NameNeither : Twins → List (Option ℕ) → History → Type 0
NameNeither t group [] = Unit {0}
NameNeither t group (e ∷ H) = (IsTrue (is_made_by group e) → IsFalse (renames t e.entry)) × NameNeither t group H

-- the group are outside: neither of the two is one of them, no entry of theirs names the two at the paper, and none of
-- them is shown the change when they ask
pub record AreOutside (t : Twins) (group : List (Option ℕ)) (one : Run) : Type 0 where
  pub not_one : IsFalse (list_any (λ u. is_number u t.one) group)
  pub not_other : IsFalse (list_any (λ u. is_number u t.other) group)
  pub names : NameNeither t group (end_of one)
  pub looks : (look : Look) → Contains (looks_of group one.opening one.wishes) look
      → IsOutside t look.who (take look.upto (end_of one))

-- TwinsHeard: of each run that a legal history opens there is another, in which the two have each other's place, and
-- the group is answered the same
abbrev pub TwinsHeard : Type 0
TwinsHeard = (t : Twins) (group : List (Option ℕ)) (one : Run) → Legal one.opening → AreBounded one.wishes
    → AreTwins t (end_of one) → AreOutside t group one → AnotherRun group one (twinned t (end_of one))
