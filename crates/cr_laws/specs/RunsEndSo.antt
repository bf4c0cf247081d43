-- SPDX-License-Identifier: Apache-2.0 OR MIT
-- RunsEndSo: in which histories a run could have ended, for all that a group of users were answered in it. By it what a
-- law says of histories is said of requests and their answers.
use Rattle.std.specs.Prelude.{ℕ, Bool, true, false, ◌≡◌, ◌||◌, List, [], ◌∷◌, Option, IsTrue}
use Rattle.std.specs.List.{Contains}
use Rattle.cr_base.specs.declared.entry.Entry.{Entry}
use Rattle.cr_base.specs.declared.entry.Entry.TheVariants.{Registered}
use Rattle.cr_base.specs.declared.entry.Stamped.{Stamped}
use Rattle.cr_base.specs.History.{History}
use Rattle.cr_policy.specs.Legal.{Legal}
use Rattle.cr_undeduced.specs.Undeducible.{Look, seen_at}
use Rattle.cr_session.specs.TwoRuns.{Run}
use Rattle.cr_session.specs.Retries.{AreBounded}
use Rattle.cr_laws.specs.AnotherRun.{looks_of, end_of, is_made_by, AnotherRun}

-- ---- place by place

-- the entry registers a user
abbrev pub registers : Entry → Bool
registers (Registered user name digest) = true
registers e = false

-- one of the group made it, or it registers somebody, so it is to stay
abbrev pub is_kept : List (Option ℕ) → Stamped → Bool
is_kept group e = is_made_by group e || registers e.entry

-- the other entry may take the place of the one: both are the last of their command's, or neither is; and if one of the
-- two is a registration or the group's, they are equal
pub record StandsFor (group : List (Option ℕ)) (e other : Stamped) : Type 0 where
  pub more : e.more ≡ other.more
  pub same : IsTrue (is_kept group e || is_kept group other) → e ≡ other

-- at each place the entry of the second history may take the place of the first's
abbrev pub AllStandFor : List (Option ℕ) → History → History → Type 0
AllStandFor group [] [] = Unit {0}
AllStandFor group (e ∷ H) (other ∷ H') = StandsFor group e other × AllStandFor group H H'
AllStandFor group _ _ = ⊥

-- ---- the law

-- for all that the group know the run may have ended in the history: it is legal, has what the group did and who
-- registered, and gives each of them the same view whenever they ask
pub record MayBeEnd (group : List (Option ℕ)) (one : Run) (end : History) : Type 0 where
  pub legal : Legal end
  pub places : AllStandFor group (end_of one) end
  pub looks : (look : Look) → Contains (looks_of group one.opening one.wishes) look
      → seen_at (end_of one) look ≡ seen_at end look

-- RunsEndSo: of each run that a legal history opens, each group and each such history there is another run, which ends
-- in it, and in which the group is answered the same
abbrev pub RunsEndSo : Type 0
RunsEndSo = (group : List (Option ℕ)) (one : Run) (end : History) → Legal one.opening → AreBounded one.wishes
    → MayBeEnd group one end → AnotherRun group one end
